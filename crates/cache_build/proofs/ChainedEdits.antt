-- The chained words of a set can be linked: they rise in the data, and each is the place of an edit of 8 bytes whose number leaves the bits for distances.
use Rattle.std.proofs.Common.{◌≡◌, ◌≤◌, ℕ, ◌-◌, true, false, nat_eq, Some, List, [], ◌∷◌, length, map, filter, refl, sym, ap, ◌∙◌, subst, arith}
use Rattle.std.specs.Prelude.{slice_get}
use Rattle.std.specs.List.{flat_map, enumerate_from}
use Rattle.std.proofs.lemmas.Bool.{and_parts}
use Rattle.std.proofs.lemmas.Option.{same_Some, slice_get_read}
use Rattle.dsc_base.specs.declared.edits.Edit.{Edit}
use Rattle.dsc_base.specs.Edits.{AllFit}
use Rattle.macho_image.specs.Records.{Seg, Img}
use Rattle.macho_image.specs.Rules.{is_linkedit_segment}
use Rattle.macho_image.specs.Places.{IsWord}
use Rattle.prebind.specs.declared.resolved.PlacedWord.{PlacedWord}
use Rattle.prebind.specs.Sets.{StreamLists, ImageSet}
use Rattle.prebind.specs.Words.{pointer_word, is_no_pointer, streams_at, ordered_pointers}
use Rattle.cache_layout.specs.declared.mapping.Mapping.{Mapping}
use Rattle.cache_layout.specs.declared.mapping.Mapping.TheVariants.{Writable}
use Rattle.cache_layout.specs.Layouts.{Laid, layout_of}
use Rattle.cache_layout.specs.Apart.{IsSegment, IsWithin, move_at, range_in}
use Rattle.cache_layout.proofs.PlaceLaws.{are_within, are_in_turn}
use Rattle.cache_layout.proofs.RoomLaws.{paged-covers}
use Rattle.slide_chain.specs.Linked.{HasPointer, HavePointers, CanLink}
use Rattle.ref_rewrite.specs.Following.{FollowIn}
use Rattle.ref_rewrite.specs.Moving.{new_offset, edit_of}
use Rattle.ref_rewrite.specs.Plans.{Plan, IsInside}
use Rattle.ref_rewrite.specs.Planned.{leads_to_place, is_chained, data_offset, chained_in, words_with, plan_of, plans_of}
use Rattle.ref_rewrite.specs.Rewritten.{edits_in}
use Rattle.ref_rewrite.proofs.FitLaws.{IsAt, IsPlanned, segment_there, offset_is}
use Rattle.ref_rewrite.proofs.FollowingLaws.{words_follow, own_sized, writable_mapping}
use Rattle.ref_rewrite.proofs.HomeLaws.{section_owned}
use Rattle.ref_rewrite.proofs.OrderLaws.{all_ordered, ordered_at, all_placed}
use Rattle.ref_rewrite.proofs.RewrittenLaws.{edits_inside, edits_apart, edits_fit, among_in}
use Rattle.load_model.proofs.WordCases.{IsIn, IsOf, in_first, in_rest, in_left, in_map, of_map, of_filter, other_word}
use Rattle.cache_build.specs.Edits.{image_chained, edits_of, chained_of}
use Rattle.cache_build.proofs.GatherLaws.{words_rise, words_below}
use Rattle.cache_build.proofs.WholeCaches.{chained_are}
use Rattle.cache_build.proofs.ImageWords.{IsReadSet, IsOne, one_of, pointer_is_word}
use Rattle.cache_build.proofs.Memberships.{IsOfOne, of_flat, IsNumbered, of_numbered}
use Rattle.cache_build.proofs.WordNumbers.{pointer_high}
use Rattle.cache_build.proofs.WordEdits.{own_edit, image_fit, edit_among, all_apart, all_fit}

-- ---- each is the place of an edit in the data

in_data : (is : List Img) (k : ℕ) (i : Img) (w : PlacedWord) → IsAt is k i → IsWord i w.at → IsInside (layout_of is).writable (new_offset (layout_of is) k i.segments w.at.segment w.at.address) 8
in_data is k i w at word =
    let l : Laid = layout_of is in
    let s : Seg = word.segment in
    let owned : is_linkedit_segment s ≡ false = section_owned i at.sound (w.at.section - 1) word.section s word.section_is (ap (λ (g : ℕ). slice_get i.segments g) word.in_segment ∙ word.segment_is) in
    let there : IsSegment is k w.at.segment i s = segment_there is k w.at.segment i s at.lt at.at word.segment_is in
    let within = are_within is at.none k w.at.segment i s there owned in
    let same : within.0 ≡ Writable = same_Some within.0 Writable (sym within.1 ∙ writable_mapping s word.writable owned) in
    let own : IsWithin l.writable s (move_at l k w.at.segment) = subst (λ (m : Mapping). IsWithin (range_in l m) s (move_at l k w.at.segment)) same within.2 in
    let place = offset_is is k w.at.segment i s w.at.address at.none at.sound at.lt at.at word.segment_is owned word.from (omega (arith, word.to)) in
    (omega (arith, place, own.start), omega (arith, place, own.end, word.from, word.to, paged-covers word.segment.vmsize))

abbrev data_edits : ImageSet → List Edit
data_edits set = edits_in (layout_of set.images).writable (edits_of (layout_of set.images) set)

pointer_linked : (set : ImageSet) (k : ℕ) (i : Img) (s : StreamLists) (w : PlacedWord) → IsReadSet set → IsOne set k i s → IsIn (ordered_pointers set k) w → leads_to_place w.target ≡ true
    → HasPointer (data_edits set) (data_offset (layout_of set.images) k i.segments w)
pointer_linked set k i s w given one there leads =
    let l : Laid = layout_of set.images in
    let e : Edit = own_edit set k i (pointer_word w) in
    let inside : IsInside l.writable e.at e.width = in_data set.images k i w one.at (pointer_is_word set k i s w one there) in
    let high = pointer_high set k i s w given one there leads in
    let word = in_left (map pointer_word (ordered_pointers set k)) (map (other_word k i) (filter is_no_pointer s.references)) (pointer_word w) (in_map pointer_word (ordered_pointers set k) w there) in
    record {
      edit = record { at = e.at - l.writable.at; width = e.width; value = e.value };
      among = among_in l.writable e (edits_of l set) inside (edit_among set k i s (pointer_word w) one.read.of word);
      place = refl;
      width = refl;
      some = high.0;
      small = high.1;
    }

-- a chained word is a pointer of an image that leads to a place
image_linked : (set : ImageSet) (k a : ℕ) (i : Img) → IsReadSet set → slice_get set.images k ≡ Some i → IsIn (image_chained (layout_of set.images) set k i) a → HasPointer (data_edits set) a
image_linked set k a i given image there =
    let l : Laid = layout_of set.images in
    let placed : List PlacedWord = ordered_pointers set k in
    let one = one_of set k i given image in
    let q : IsOfOne (chained_in l k i.segments placed) (enumerate_from 0 i.segments) a = of_flat (chained_in l k i.segments placed) (enumerate_from 0 i.segments) a there in
    let g : ℕ = q.from.0 in
    let o : IsOf (data_offset l k i.segments) (filter (is_chained g) placed) a = of_map (data_offset l k i.segments) (filter (is_chained g) placed) a q.inside in
    let f = of_filter (is_chained g) placed o.from o.there in
    subst (λ (n : ℕ). HasPointer (data_edits set) n) (sym o.is)
    (pointer_linked set k i one.0 o.from given one.1 f.0 (and_parts (nat_eq o.from.at.segment g) (leads_to_place o.from.target) f.1).1)

chained_linked : (set : ImageSet) (a : ℕ) → IsReadSet set → IsIn (chained_of (layout_of set.images) set) a → HasPointer (data_edits set) a
unfolding chained_of
chained_linked set a given there =
    let gives : ℕ × Img → List ℕ = λ p. image_chained (layout_of set.images) set p.0 p.1 in
    let j : IsOfOne gives (enumerate_from 0 set.images) a = of_flat gives (enumerate_from 0 set.images) a there in
    let n : IsNumbered 0 set.images j.from = of_numbered 0 set.images j.from j.there in
    let index : j.from.0 ≡ n.index = omega (arith, n.number) in
    image_linked set j.from.0 a j.from.1 given (ap (λ (m : ℕ). slice_get set.images m) index ∙ n.found) j.inside

have_each : (es : List Edit) (chained : List ℕ) → ((a : ℕ) → IsIn chained a → HasPointer es a) → HavePointers es chained
have_each es [] each = tt
have_each es (a ∷ chained) each = (each a (in_first a chained), have_each es chained (λ b there. each b (in_rest a chained b there)))

-- ---- they rise in the data

abbrev pub own_headers : ImageSet → List (List ℕ)
own_headers set = map (λ (i : Img). i.header) set.images

pub planned : (set : ImageSet) → IsReadSet set → IsPlanned set (all_ordered set) (own_headers set)
unfolding plan_of
planned set given = record {
  sound = given.sound;
  read = given.read;
  none = given.none;
  placed_all = all_placed set given.sound;
  images = given.images;
  sized = own_sized set.images;
  values = λ k i lt at.
      subst (λ (ws : List PlacedWord). AllFit (map (edit_of (layout_of set.images) k i.segments) (words_with k i (streams_at set k) ws))) (sym (ordered_at set k i lt at))
      (image_fit set k i given (slice_get_read set.images (length set.images) k i refl lt at));
}

pub can_link : (bits : ℕ) (set : ImageSet) → 1 ≤ bits → bits ≤ 16 → IsReadSet set → CanLink bits (layout_of set.images).writable.len (chained_of (layout_of set.images) set) (data_edits set)
can_link bits set some most given =
    let l : Laid = layout_of set.images in
    let es : List Edit = edits_of l set in
    let plans : List Plan = plans_of l set (all_ordered set) in
    let words : List ℕ = flat_map (λ (p : Plan). p.words) plans in
    let follow : FollowIn 0 l.writable.len words = words_follow set (all_ordered set) (own_headers set) (planned set given) in
    let are : chained_of l set ≡ words = sym (chained_are l set (all_ordered set) (all_placed set given.sound)) in
    record {
      some = some;
      most = most;
      pages = ((are_in_turn set.images given.none).pages Writable).1;
      words = words_rise plans plans l.writable.len words (chained_of l set) follow refl refl are;
      below = words_below plans plans l.writable.len l.writable.len words (chained_of l set) follow refl refl are refl;
      pointers = have_each (data_edits set) (chained_of l set) (λ a there. chained_linked set a given there);
      inside = edits_inside l.writable es;
      apart = edits_apart l.writable es (all_apart set given);
      fit = edits_fit l.writable es (all_fit set given);
    }
