-- The headers of accepted images can be moved: each finds its streams and tables low in the file, in the merged linkedit.
use Rattle.std.proofs.Common.{◌≡◌, ◌≤◌, ◌<◌, ℕ, zero, suc, ◌+◌, ◌^◌, false, None, List, [], length, map, get_or, refl, sym, ap, ◌∙◌, subst, arith}
use Rattle.std.specs.Prelude.{slice_index_or}
use Rattle.std.proofs.lemmas.List.{length-map, get_or-map, get_or_default, get_or_past}
use Rattle.std.proofs.lemmas.Option.{slice_get_read}
use Rattle.dsc_base.specs.Region.{region_start, paged}
use Rattle.macho_image.specs.Records.{Seg, Img}
use Rattle.macho_image.specs.declared.place.Moved.{Moved}
use Rattle.macho_image.specs.Rules.{is_linkedit_segment}
use Rattle.macho_edit.specs.declared.spots.LinkSpots.{LinkSpots}
use Rattle.macho_edit.specs.Conditions.{CanMove, FitFields}
use Rattle.macho_edit.specs.Placed.{AreLinked}
use Rattle.nlist_table.specs.Symbols.{tables_of}
use Rattle.nlist_table.specs.Kept.{AreTables, EachGroup}
use Rattle.nlist_table.proofs.KeptLaws.{image_tables}
use Rattle.cache_layout.specs.Layouts.{layout_of, layout_break}
use Rattle.cache_layout.specs.Apart.{IsSegment, move_at}
use Rattle.cache_layout.proofs.PlaceLaws.{length-moves-of, are_within}
use Rattle.cache_layout.proofs.RoomLaws.{paged-covers}
use Rattle.linkedit_merge.specs.Linkedit.{linkedit_size, merge_break, spots_in}
use Rattle.linkedit_merge.specs.Shares.{Share, share_of}
use Rattle.linkedit_merge.proofs.MergeLaws.{unbroken_fits}
use Rattle.linkedit_merge.proofs.ReadLaws.{moved_are_tables}
use Rattle.linkedit_merge.proofs.ShareLaws.{many_shares, share_there}
use Rattle.linkedit_merge.proofs.SpanLaws.{spots_within, spots_at, spots_linked, spots_low, whole_entries}
use Rattle.cache_build.specs.Cache.{no_spots}
use Rattle.cache_build.specs.Filling.{CanMoveEach}
use Rattle.cache_build.proofs.BuildableSets.{IsAccepted, set_slide, set_shares, set_start, set_spots}

-- ---- what an image has in the linkedit of its set, and where

abbrev pub own_moves : List Img → ℕ → List Moved
own_moves is k = slice_index_or (layout_of is).moves k []

abbrev pub own_share : List Img → ℕ → Img → Share
own_share is k i = share_of i (tables_of i) (own_moves is k)

abbrev pub own_spots : ℕ → List Img → ℕ → LinkSpots
own_spots bits is k = slice_index_or (set_spots bits is) k no_spots

pub share_is : (is : List Img) (k : ℕ) (i : Img) (d : Share) → k < length is → i ≡ get_or is k i → get_or (set_shares is) k d ≡ own_share is k i
share_is is k i d lt at =
    share_there is (map tables_of is) (layout_of is).moves k i (tables_of i) (own_moves is k) d (record {
      within = lt;
      image_is = at;
      tables_within = omega (arith, lt, length-map is tables_of);
      tables_is = sym (get_or-map tables_of is k i (tables_of i) lt ∙ ap tables_of (sym at));
      moves_is = refl;
    })

pub share_in : (is : List Img) (k : ℕ) → k < length is → k < length (set_shares is)
share_in is k lt = omega (arith, lt, many_shares is (map tables_of is) (layout_of is).moves)

pub spots_are : (bits : ℕ) (is : List Img) (k : ℕ) (i : Img) → k < length is → i ≡ get_or is k i → own_spots bits is k ≡ spots_in (set_start bits is) (set_shares is) k (own_share is k i)
spots_are bits is k i lt at = spots_at (set_start bits is) (set_shares is) k (own_share is k i) no_spots (share_in is k lt) (share_is is k i (own_share is k i) lt at)

pub span_low : (bits : ℕ) (is : List Img) → merge_break (layout_of is) (length (set_slide bits is)) (set_shares is) ≡ None → set_start bits is + paged (linkedit_size (set_shares is)) ≤ 0x20000000
span_low bits is none = unbroken_fits (layout_of is) (length (set_slide bits is)) (set_shares is) none

-- ---- headers

ends_low : (is : List Img) → layout_break is ≡ None → (k : ℕ) (i : Img) (g : ℕ) (m : Moved) (s : Seg) → k < length is → i ≡ get_or is k i → g < length (own_moves is k) → is_linkedit_segment (get_or i.segments g s) ≡ false
    → (get_or (own_moves is k) g m).file + (get_or i.segments g s).vmsize < 2 ^ 32
ends_low is none k i g m s lt at below owned =
    let t : Seg = get_or i.segments g s in
    let inside : g < length i.segments = omega (arith, below, length-moves-of is k i lt at) in
    let there : IsSegment is k g i (get_or i.segments g s) = record { image_in = lt; image_is = at; segment_in = inside; segment_is = get_or_default i.segments g s (get_or i.segments g s) inside } in
    let own = are_within is none k g i (get_or i.segments g s) there owned in
    let same : (get_or (own_moves is k) g m).file ≡ (move_at (layout_of is) k g).file = ap (λ (v : Moved). v.file) (get_or_default (own_moves is k) g m (record { address = 0; file = 0 }) below) in
    omega (arith, same, own.2.end, own.2.span, paged-covers t.vmsize)

pub can_move_each : (bits : ℕ) (is : List Img) → IsAccepted is → merge_break (layout_of is) (length (set_slide bits is)) (set_shares is) ≡ None → CanMoveEach (layout_of is) (set_spots bits is) is
can_move_each bits is accepted none k i lt at =
    let share : Share = own_share is k i in
    let within : k < length (set_shares is) = share_in is k lt in
    let here : get_or (set_shares is) k (own_share is k i) ≡ own_share is k i = share_is is k i (own_share is k i) lt at in
    let whole = whole_entries (set_start bits is) (set_shares is) k share within here in
    let one : length (get_or (layout_of is).moves k []) ≡ length i.segments = length-moves-of is k i lt at in
    subst (λ (s : LinkSpots). CanMove i (own_moves is k) s) (sym (spots_are bits is k i lt at)) (record {
      one_each = one;
      low = λ g m s below owned. ends_low is accepted.layout k i g m s lt at below owned;
      spans = spots_low (set_start bits is) (set_shares is) k share within here (omega (arith, span_low bits is none, paged-covers (linkedit_size (set_shares is))));
      whole_symbols = whole.0;
      whole_indirect = whole.1;
    })

-- ---- streams and tables

pub own_linked : (bits : ℕ) (is : List Img) (k : ℕ) (i : Img) → k < length is → i ≡ get_or is k i → AreLinked (own_spots bits is k)
own_linked bits is k i lt at =
    subst AreLinked (sym (spots_are bits is k i lt at))
    (spots_linked (set_start bits is) (set_shares is) k (own_share is k i) (share_in is k lt) (share_is is k i (own_share is k i) lt at))

-- where the linkedit itself stands
pub record IsSpotted (start size : ℕ) (spots : LinkSpots) : Type 0 where
  pub file : spots.linkedit.file ≡ start
  pub address : spots.linkedit.address ≡ region_start + start
  pub vmsize : spots.vmsize ≡ paged size
  pub filesize : spots.filesize ≡ size

spotted : (start : ℕ) (shares : List Share) (k : ℕ) (share : Share) → IsSpotted start (linkedit_size shares) (spots_in start shares k share)
unfolding spots_in
spotted start shares k share = record { file = refl; address = refl; vmsize = refl; filesize = refl }

pub own_spotted : (bits : ℕ) (is : List Img) (k : ℕ) (i : Img) → k < length is → i ≡ get_or is k i → IsSpotted (set_start bits is) (linkedit_size (set_shares is)) (own_spots bits is k)
own_spotted bits is k i lt at = subst (IsSpotted (set_start bits is) (linkedit_size (set_shares is))) (sym (spots_are bits is k i lt at)) (spotted (set_start bits is) (set_shares is) k (own_share is k i))

-- ---- six numbers of the groups, each no more than there are symbols

narrow_six : (groups : List ℕ) (n : ℕ) → length groups ≡ 6 → n < 2 ^ 32 → EachGroup (λ k. get_or groups k 0 + get_or groups (k + 1) 0 ≤ n) → (k : ℕ) → get_or groups k 0 < 2 ^ 32
narrow_six groups n six few each zero = (let one : get_or groups 0 0 + get_or groups 1 0 ≤ n = each.0 in omega (arith, one, few))
narrow_six groups n six few each (suc zero) = (let one : get_or groups 0 0 + get_or groups 1 0 ≤ n = each.0 in omega (arith, one, few))
narrow_six groups n six few each (suc (suc zero)) = (let two : get_or groups 2 0 + get_or groups 3 0 ≤ n = each.1 in omega (arith, two, few))
narrow_six groups n six few each (suc (suc (suc zero))) = (let two : get_or groups 2 0 + get_or groups 3 0 ≤ n = each.1 in omega (arith, two, few))
narrow_six groups n six few each (suc (suc (suc (suc zero)))) = (let three : get_or groups 4 0 + get_or groups 5 0 ≤ n = each.2 in omega (arith, three, few))
narrow_six groups n six few each (suc (suc (suc (suc (suc zero))))) = (let three : get_or groups 4 0 + get_or groups 5 0 ≤ n = each.2 in omega (arith, three, few))
narrow_six groups n six few each (suc (suc (suc (suc (suc (suc k)))))) = omega (arith, get_or_past groups (suc (suc (suc (suc (suc (suc k)))))) 0 (omega (arith, six)))

six_groups : (i : Img) (m : List Moved) → length (share_of i (tables_of i) m).tables.groups ≡ 6
unfolding share_of tables_of
six_groups i m = refl

pub share_tables : (i : Img) (m : List Moved) → AreTables (length i.sections) (tables_of i) → AreTables (length i.sections) (share_of i (tables_of i) m).tables
unfolding share_of
share_tables i m are = moved_are_tables (length i.sections) i m (tables_of i) are

groups_are : (start : ℕ) (shares : List Share) (k : ℕ) (share : Share) → (spots_in start shares k share).groups ≡ share.tables.groups
unfolding spots_in
groups_are start shares k share = refl

pub own_fields : (bits : ℕ) (is : List Img) → IsAccepted is → merge_break (layout_of is) (length (set_slide bits is)) (set_shares is) ≡ None → (k : ℕ) (i : Img) → k < length is → i ≡ get_or is k i
    → FitFields (own_spots bits is k).linkedit.file (own_spots bits is k).groups
own_fields bits is accepted none k i lt at =
    let share : Share = own_share is k i in
    let start : ℕ = set_start bits is in
    let shares : List Share = set_shares is in
    let same : own_spots bits is k ≡ spots_in (set_start bits is) (set_shares is) k (own_share is k i) = spots_are bits is k i lt at in
    let groups : (own_spots bits is k).groups ≡ (own_share is k i).tables.groups = ap (λ (s : LinkSpots). s.groups) same ∙ groups_are (set_start bits is) (set_shares is) k (own_share is k i) in
    let within = spots_within start shares k share (share_in is k lt) (share_is is k i share lt at) in
    let few : length (own_share is k i).tables.symbols < 2 ^ 32 = omega (arith, within.symbols.inside, within.symbols_are, span_low bits is none, paged-covers (linkedit_size (set_shares is))) in
    let tables : AreTables (length i.sections) (own_share is k i).tables = share_tables i (own_moves is k) (image_tables i (tables_of i) refl (accepted.tables k i (slice_get_read is (length is) k i refl lt at))) in
    let placed : (own_spots bits is k).linkedit.file ≡ set_start bits is = (own_spotted bits is k i lt at).file in
    record {
      offset = omega (arith, placed, span_low bits is none);
      six = ap (λ (l : List ℕ). length l) groups ∙ six_groups i (own_moves is k);
      narrow = λ n. subst (λ (l : List ℕ). get_or l n 0 < 2 ^ 32) (sym groups) (narrow_six (own_share is k i).tables.groups (length (own_share is k i).tables.symbols) (six_groups i (own_moves is k)) few tables.groups n);
    }
