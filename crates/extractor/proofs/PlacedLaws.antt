-- The file of an image has all that its header names in place.
use Rattle.std.proofs.Common.{◌≡◌, ◌≤◌, ◌<◌, ℕ, zero, suc, ◌+◌, ◌-◌, ◌%◌, ◌^◌, min, max, replicate, false, List, [], ◌∷◌, ◌++◌, take, drop, length, get_or, refl, sym, ap, ◌∙◌, subst, arith, inl, inr, Some, map, length-append, length-drop}
use Rattle.std.specs.List.{All, AllByRecursion}
use Rattle.std.proofs.lemmas.Bool.{cases_lt, false≢true}
use Rattle.std.proofs.lemmas.List.{take_at, length-replicate}
use Rattle.std.proofs.lemmas.List.Elements.{recursion_from_All}
use Rattle.dsc_base.specs.Region.{region_start, paged}
use Rattle.dsc_base.specs.Numbers.{number_at}
use Rattle.dsc_base.proofs.NumberLaws.{number_at-lt}
use Rattle.macho_image.specs.Records.{Seg, Img}
use Rattle.macho_image.specs.Breaks.{IsSound, image_at}
use Rattle.macho_image.specs.Rules.{is_linkedit_segment}
use Rattle.macho_image.specs.Index.{IsApart, AreApart as AreApartSegments}
use Rattle.macho_image.specs.declared.form.Form.TheVariants.{Standalone}
use Rattle.macho_image.specs.declared.place.Location.{Location}
use Rattle.macho_image.specs.declared.place.Moved.{Moved}
use Rattle.macho_image.proofs.SegmentLaws.{contains_yes}
use Rattle.macho_image.proofs.SoundSegments.{segments_keep_apart, segments_low}
use Rattle.macho_edit.specs.Cached.{formed_header, formed_bytes, standalone_bytes}
use Rattle.macho_edit.specs.Conditions.{FitFields}
use Rattle.macho_edit.specs.MovedImage.{standalone_image}
use Rattle.macho_edit.specs.Placed.{IsLinked, IsPlaced as IsPlacedImage}
use Rattle.macho_edit.proofs.Grounds.{linkedit_last}
use Rattle.macho_edit.proofs.PlacedLaws.{seated_from, apart_from}
use Rattle.macho_edit.proofs.Reread.{ready as is_ready, reread_alone}
use Rattle.nlist_table.specs.Symbols.{tables_of}
use Rattle.nlist_table.proofs.KeptLaws.{image_tables}
use Rattle.linkedit_merge.specs.Indices.{pool_len}
use Rattle.linkedit_merge.specs.Parts.{lens_of, span_of}
use Rattle.prebind.proofs.LinkeditLaws.{ends_in_linkedit}
use Rattle.cache_check.proofs.PlacedLaws.{segments_aligned}
use Rattle.extractor.specs.ExtractOf.{moves_from, bodies_of, body_bytes, linkedit_of, linkedit_limit, linkedit_parts, spots_of, header_of, file_of, rebase_stream}
use Rattle.extractor.specs.Files.{IsPlaced, CanExtract, all_pages}
use Rattle.extractor.specs.Prepared.{names_in}
use Rattle.extractor.proofs.BodyLaws.{paged_whole, paged_covers, length-moves, ends_at, bodies_fit, bodies_long, header_fits}
use Rattle.extractor.proofs.PreparedLaws.{all_below, size_is}
use Rattle.extractor.proofs.SpotLaws.{part_within, can_move}

-- ---- segments one by one

pub move_at : (at : ℕ) (ss : List Seg) (k : ℕ) (m : Moved) (s : Seg) → k < length ss → (get_or (moves_from at ss) k m).address ≡ (get_or ss k s).vmaddr
unfolding moves_from
move_at at [] k m s lt = absurd (omega arith)
move_at at (t ∷ ts) zero m s lt = refl
move_at at (t ∷ ts) (suc k) m s lt = move_at (paged (at + t.vmsize)) ts k m s (omega (arith, lt))

all_at : (P : Seg → Type 0) (ss : List Seg) (k : ℕ) (s : Seg) → AllByRecursion P ss → k < length ss → P (get_or ss k s)
all_at P [] k s all lt = absurd (omega arith)
all_at P (t ∷ ts) zero s all lt = all.0
all_at P (t ∷ ts) (suc k) s all lt = all_at P ts k s all.1 (omega (arith, lt))

pair_apart : (ss : List Seg) (j k : ℕ) (s : Seg) → AreApartSegments ss → j < k → k < length ss → IsApart (get_or ss j s) (get_or ss k s)
pair_apart [] j k s apart lt within = absurd (omega (arith, within))
pair_apart (t ∷ ts) j zero s apart lt within = absurd (omega (arith, lt))
pair_apart (t ∷ ts) zero (suc k) s apart lt within = all_at (IsApart t) ts k s apart.0 (omega (arith, within))
pair_apart (t ∷ ts) (suc j) (suc k) s apart lt within = pair_apart ts j k s apart.1 (omega (arith, lt)) (omega (arith, within))

no_shared : (s t : Seg) → IsApart s t → min (s.vmaddr + s.vmsize) (t.vmaddr + t.vmsize) ≤ max s.vmaddr t.vmaddr
no_shared s t apart = elim (cases_lt (max s.vmaddr t.vmaddr) (min (s.vmaddr + s.vmsize) (t.vmaddr + t.vmsize))) [
  | inl over ↦
      let x = max s.vmaddr t.vmaddr in
      absurd (false≢true (sym (apart x (contains_yes s x (omega arith) (omega (arith, over)))) ∙ contains_yes t x (omega arith) (omega (arith, over))))
  | inr within ↦ within
]

-- a segment other than the last is among those that aren't `__LINKEDIT`
front_at : (bodies : List Seg) (l : Seg) (k : ℕ) (s : Seg) → k < length bodies → get_or (bodies ++ l ∷ []) k s ≡ get_or bodies k s
front_at [] l k s lt = absurd (omega arith)
front_at (b ∷ bs) l zero s lt = refl
front_at (b ∷ bs) l (suc k) s lt = front_at bs l k s (omega (arith, lt))

-- what is known of segment k
record IsBody (k : ℕ) (i : Img) (m : Moved) (s : Seg) : Type 0 where
  address : (get_or (moves_from 0 i.segments) k m).address ≡ (get_or i.segments k s).vmaddr
  whole : (get_or i.segments k s).vmaddr % 4096 ≡ 0
  top : (get_or i.segments k s).vmaddr + (get_or i.segments k s).vmsize ≤ 0x8000_0000_0000
  low : region_start ≤ (get_or i.segments k s).vmaddr
  ends : (get_or (moves_from 0 i.segments) k m).file + (get_or i.segments k s).vmsize ≤ length (body_bytes i)

body_at : (i : Img) (k : ℕ) (m : Moved) (s : Seg) → IsSound i → All IsPlaced (bodies_of i) → k + 1 < length i.segments → IsBody k i m s
body_at i k m s sound placed lt =
    let ends = ends_in_linkedit i sound in
    let bodies = bodies_of i in
    let l = ends.linkedit in
    let long : length i.segments ≡ length (bodies_of i) + 1 = omega (arith, ap (λ (ss : List Seg). length ss) ends.split, length-append (bodies_of i) (ends.linkedit ∷ [])) in
    let within : k < length (bodies_of i) = omega (arith, lt, long) in
    let inside : k < length i.segments = omega (arith, lt) in
    let own : get_or i.segments k s ≡ get_or (bodies_of i) k s = ap (λ (ss : List Seg). get_or ss k s) ends.split ∙ front_at bodies l k s within in
    let there = all_at IsPlaced (bodies_of i) k s (recursion_from_All IsPlaced (bodies_of i) placed) within in
    let start : (get_or i.segments k s).vmaddr ≡ (get_or (bodies_of i) k s).vmaddr = ap (λ (t : Seg). t.vmaddr) own in
    let stops : (get_or (moves_from 0 i.segments) k m).file + (get_or i.segments k s).vmsize ≤ 0 + all_pages (bodies_of i) =
    subst (λ (ss : List Seg). (get_or (moves_from 0 ss) k m).file + (get_or ss k s).vmsize ≤ 0 + all_pages (bodies_of i)) (sym ends.split) (ends_at 0 k bodies l m s refl within) in
    record {
      address = move_at 0 i.segments k m s inside;
      whole = all_at (λ (t : Seg). t.vmaddr % 4096 ≡ 0) i.segments k s (segments_aligned i sound) inside;
      top = all_at (λ (t : Seg). t.vmaddr + t.vmsize ≤ 0x8000_0000_0000) i.segments k s (segments_low i sound) inside;
      low = omega (arith, there.low, start);
      ends = omega (arith, stops, bodies_long i sound placed);
    }

-- ---- the whole image

pub length-file : (k : ℕ) (i : Img) (words : List Location) → length (header_of k i words) ≤ length (body_bytes i) → length (file_of k i words) ≡ length (body_bytes i) + length (linkedit_of i words)
unfolding file_of
length-file k i words fits =
    let header = header_of k i words in
    let rest = drop (length header) (body_bytes i) in
    omega (arith, length-append header (rest ++ linkedit_of i words), length-append rest (linkedit_of i words), length-drop (length header) (body_bytes i), fits)

paged_small : (n : ℕ) → n ≤ linkedit_limit → paged n ≤ linkedit_limit
unfolding paged
paged_small n small = omega (arith, small)

first_file : (ss : List Seg) → get_or (map (λ m. m.file) (moves_from 0 ss)) 0 0 ≡ 0
unfolding moves_from
first_file [] = refl
first_file (s ∷ ss) = refl

-- a file of so many bytes
pub image_placed : (k : ℕ) (i : Img) (words : List Location) (file : List ℕ) → IsSound i → CanExtract i words → k ≤ 4096 → length file ≡ length (body_bytes i) + length (linkedit_of i words) → IsPlacedImage i (moves_from 0 i.segments) (spots_of k i words) file 0
unfolding spots_of
image_placed k i words file sound ready few long =
    let moves = moves_from 0 i.segments in
    let spots = spots_of k i words in
    let same = length-moves 0 i.segments in
    let size = paged_covers (length (linkedit_of i words)) in
    let whole = paged_whole (length (linkedit_of i words)) in
    let top : paged (length (linkedit_of i words)) ≤ linkedit_limit = paged_small (length (linkedit_of i words)) ready.linkedit in
    let last = linkedit_last i sound in
    let more : (n : ℕ) (s : Seg) → n < length i.segments → is_linkedit_segment (get_or i.segments n s) ≡ false → n + 1 < length i.segments = λ n s lt other. elim (cases_lt (n + 1) (length i.segments)) [
      | inl less ↦ less
      | inr behind ↦ absurd (false≢true (sym other ∙ (last n s lt).0 (omega (arith, lt, behind))))
    ] in
    let linked : (n : ℕ) → n < 9 → IsLinked spots (span_of (length (body_bytes i)) (lens_of (linkedit_parts i words)) n) = λ n lt some. let inside = part_within i words n lt in (inside.behind some, inside.inside) in
    record {
      first = first_file i.segments;
      seated = seated_from (length file) spots moves i.segments same
          (λ n m s lt other.
          let b = body_at i n m s sound ready.bodies (more n s lt other) in
          record { aligned = omega (arith, b.address, b.whole); low = omega (arith, b.address, b.top); filled = omega arith; inside = omega (arith, b.ends, long) })
          (record { aligned = omega arith; low = omega (arith, top, few); filled = size; inside = omega (arith, long) });
      apart = apart_from i moves spots sound same
          (λ a b m s lt within.
          let one = body_at i a m s sound ready.bodies (omega (arith, lt, within)) in
          let two = body_at i b m s sound ready.bodies within in
          let far = no_shared (get_or i.segments a s) (get_or i.segments b s) (pair_apart i.segments a b s (segments_keep_apart i sound) lt (omega (arith, within))) in
          omega (arith, one.address, two.address, far))
          (λ a m s within.
          let one = body_at i a m s sound ready.bodies within in
          omega (arith, one.address, one.low, top, few));
      linked = record {
        bind = linked 1 (omega arith);
        lazy = linked 2 (omega arith);
        exports = linked 3 (omega arith);
        function_starts = linked 4 (omega arith);
        data_in_code = linked 5 (omega arith);
        symbols = linked 6 (omega arith);
        indirect = linked 7 (omega arith);
        strings = linked 8 (omega arith);
      };
    }

pub rebase_linked : (k : ℕ) (i : Img) (words : List Location) → IsLinked (spots_of k i words) (spots_of k i words).rebase
unfolding spots_of
rebase_linked k i words some = let inside = part_within i words 0 (omega arith) in (inside.behind some, inside.inside)

-- ---- the fields of tables

narrow_by : (n a b c d e f : ℕ) → a + b ≤ n → c + d ≤ n → e + f ≤ n → n < 2 ^ 32 → (k : ℕ) → get_or (a ∷ b ∷ c ∷ d ∷ e ∷ f ∷ []) k 0 < 2 ^ 32
narrow_by n a b c d e f x y z few zero = omega (arith, x, few)
narrow_by n a b c d e f x y z few (suc zero) = omega (arith, x, few)
narrow_by n a b c d e f x y z few (suc (suc zero)) = omega (arith, y, few)
narrow_by n a b c d e f x y z few (suc (suc (suc zero))) = omega (arith, y, few)
narrow_by n a b c d e f x y z few (suc (suc (suc (suc zero)))) = omega (arith, z, few)
narrow_by n a b c d e f x y z few (suc (suc (suc (suc (suc zero))))) = omega (arith, z, few)
narrow_by n a b c d e f x y z few (suc (suc (suc (suc (suc (suc k)))))) = omega arith

pub fields_fit : (k : ℕ) (i : Img) (words : List Location) → IsSound i → CanExtract i words → FitFields (spots_of k i words).linkedit.file (spots_of k i words).groups
unfolding spots_of tables_of
fields_fit k i words sound ready =
    let t = tables_of i in
    let tables = image_tables i (tables_of i) refl ready.read.tables in
    let below = all_below i (length (rebase_stream i words)) (length t.symbols) (length t.indirect) (pool_len (names_in t)) in
    let few : length (tables_of i).symbols < 2 ^ 32 = omega (arith, below.symbols_below, size_is i words, ready.linkedit) in
    record {
      offset = omega (arith, bodies_long i sound ready.bodies, bodies_fit i sound ready.bodies);
      six = refl;
      narrow = narrow_by (length t.symbols) _ _ _ _ _ _ tables.groups.0 tables.groups.1 tables.groups.2 few;
    }

-- ---- the image that the file spells

-- as long a header as the image has
pub header_long : (k : ℕ) (i : Img) (words : List Location) → IsSound i → CanExtract i words → k ≤ 4096 → number_at 4 i.header 24 < 2 ^ 32 → length (header_of k i words) ≡ length i.header
unfolding header_of standalone_bytes formed_bytes
header_long k i words sound ready few narrow =
    let file = body_bytes i ++ linkedit_of i words in
    let is = is_ready Standalone i (moves_from 0 i.segments) (spots_of k i words) file 0 sound (can_move k i words sound ready) (fields_fit k i words sound ready) narrow
    (image_placed k i words file sound ready few (length-append (body_bytes i) (linkedit_of i words))) (rebase_linked k i words) in
    let own = formed_header Standalone (spots_of k i words) (moves_from 0 i.segments) i.header in
    let zeros = length i.header - length own in
    omega (arith, is.spelt.kept.fits, length-append own (replicate zeros 0), length-replicate {A = ℕ} zeros 0)

header_is : (k : ℕ) (i : Img) (words : List Location) → header_of k i words ≡ formed_bytes Standalone i (moves_from 0 i.segments) (spots_of k i words)
unfolding header_of standalone_bytes
header_is k i words = refl

front : (k : ℕ) (i : Img) (words : List Location) → take (length (header_of k i words)) (drop 0 (file_of k i words)) ≡ header_of k i words
unfolding file_of
front k i words = take_at (header_of k i words) (drop (length (header_of k i words)) (body_bytes i) ++ linkedit_of i words) (length (header_of k i words)) refl

-- an image of a cache, of whose header each byte is one
pub image_accepted : (k : ℕ) (i : Img) (words : List Location) → IsSound i → CanExtract i words → k ≤ 4096 → ((n : ℕ) → get_or i.header n 0 < 256)
    → image_at Standalone (file_of k i words) 0 ≡ Some (standalone_image i (moves_from 0 i.segments) (spots_of k i words) (file_of k i words))
image_accepted k i words sound ready few bytes =
    let narrow = number_at-lt 4 i.header 24 bytes in
    let sized = header_long k i words sound ready few narrow in
    let fits : length (header_of k i words) ≤ length (body_bytes i) = omega (arith, sized, header_fits i sound) in
    let reads = reread_alone i i (moves_from 0 i.segments) (spots_of k i words) (header_of k i words) refl (header_is k i words) sound (can_move k i words sound ready) (fields_fit k i words sound ready) narrow in
    reads (file_of k i words) 0 (front k i words) (image_placed k i words (file_of k i words) sound ready few (length-file k i words fits)) (rebase_linked k i words)
