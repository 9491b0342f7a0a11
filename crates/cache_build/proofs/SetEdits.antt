-- The words of an accepted set as edits of its cache: they keep apart, fit, lie in the ranges of their segments and in front of no header's end, and those that are chained can be linked.
use Rattle.std.proofs.Common.{◌≡◌, ◌≤◌, ◌<◌, ◌⊎◌, ℕ, ◌+◌, Option, Some, None, List, [], length, map, get_or, refl, sym, ap, ◌∙◌, subst, arith, inl, inr}
use Rattle.std.specs.Prelude.{slice_get, slice_index_or}
use Rattle.std.specs.List.{All}
use Rattle.std.proofs.lemmas.Option.{same_Some, slice_get_read, slice_get-get_or}
use Rattle.dsc_base.specs.declared.edits.Edit.{Edit}
use Rattle.dsc_base.specs.Edits.{ApartFrom}
use Rattle.macho_image.specs.Records.{Seg, Img}
use Rattle.macho_image.specs.Breaks.{IsSound}
use Rattle.macho_image.proofs.HeaderLaws.{text_position}
use Rattle.prebind.specs.declared.resolved.PlacedWord.{PlacedWord}
use Rattle.prebind.specs.Sets.{StreamLists, ImageSet, image_set}
use Rattle.prebind.specs.Words.{Word, streams_at, ordered_pointers}
use Rattle.cache_layout.specs.Layouts.{Laid, layout_of}
use Rattle.cache_layout.specs.Apart.{IsSegment, move_at}
use Rattle.cache_layout.proofs.SoundLaws.{sound_linkedit}
use Rattle.ref_rewrite.specs.Breaks.{rewrite_break}
use Rattle.ref_rewrite.specs.Moving.{move_or_none, header_move}
use Rattle.ref_rewrite.specs.Planned.{words_with, plan_of}
use Rattle.ref_rewrite.proofs.FitLaws.{IsAt, segment_there}
use Rattle.ref_rewrite.proofs.FollowingLaws.{own_sized}
use Rattle.ref_rewrite.proofs.HeaderLaws.{header_clear}
use Rattle.ref_rewrite.proofs.HomeLaws.{two_segments, header_fits, bytes_fit}
use Rattle.ref_rewrite.proofs.OrderLaws.{all_ordered, ordered_at}
use Rattle.ref_rewrite.proofs.ReadLaws.{set_read}
use Rattle.load_model.proofs.WordCases.{IsIn, in_map, all_in}
use Rattle.cache_build.specs.Edits.{edits_of}
use Rattle.cache_build.proofs.BuildableSets.{IsAccepted}
use Rattle.cache_build.proofs.CacheFacts.{HasEdits}
use Rattle.cache_build.proofs.ImageWords.{IsReadSet, image_words}
use Rattle.cache_build.proofs.JoinedEdits.{apart_each}
use Rattle.cache_build.proofs.WordEdits.{IsSeated, seats_apart, own_edit, IsEditOf, edit_seated, IsSetEdit, set_edit, same_or_not, all_apart, all_fit, edit_within}
use Rattle.cache_build.proofs.ChainedEdits.{own_headers, planned, can_link}

-- ---- headers

-- the bytes of the header of image k, as if they were an edit
abbrev header_edit : List Img → ℕ → Img → Edit
header_edit is k i = record { at = (move_at (layout_of is) k 0).file; width = length i.header; value = 0 }

header_seated : (is : List Img) (k : ℕ) (i : Img) → IsAt is k i → IsSeated is k i (header_edit is k i)
header_seated is k i at =
    let two = two_segments i at.sound in
    let d : Seg = record { name = []; vmaddr = 0; vmsize = 0; fileoff = 0; filesize = 0; maxprot = 0; initprot = 0; flags = 0; bytes = [] } in
    let t : Seg = get_or i.segments 0 d in
    let some : 0 < length i.segments = omega (arith, two) in
    let there : IsSegment is k 0 i t = segment_there is k 0 i t at.lt at.at (slice_get-get_or i.segments 0 d some) in
    let room = header_fits i at.sound t some there.segment_is in
    let few = bytes_fit i at.sound 0 t some there.segment_is in
    record {
      number = 0;
      segment = t;
      there = there;
      owned = (sound_linkedit i at.sound 0 t some there.segment_is).0 (omega (arith, two));
      distance = 0;
      place = omega arith;
      fits = omega (arith, room, few);
    }

-- an edit of its own image
clear_own : (set : ImageSet) (k : ℕ) (i : Img) (e : Edit) → IsReadSet set → IsAt set.images k i → IsEditOf set k i e
    → ((move_at (layout_of set.images) k 0).file + length i.header ≤ e.at) ⊎ (e.at + e.width ≤ (move_at (layout_of set.images) k 0).file)
unfolding plan_of header_move
clear_own set k i e given at of =
    let l : Laid = layout_of set.images in
    let headers : List (List ℕ) = own_headers set in
    let image : slice_get set.images k ≡ Some i = slice_get_read set.images (length set.images) k i refl at.lt at.at in
    let words : List PlacedWord → List Word = λ ws. words_with k i (streams_at set k) ws in
    let placed : List PlacedWord = slice_index_or (all_ordered set) k [] in
    let P : Edit → Type 0 = λ d. (d.at + d.width ≤ (header_move l k i.segments).file) ⊎ ((header_move l k i.segments).file + length (slice_index_or headers k []) ≤ d.at) in
    let all : All P (map (own_edit set k i) (words placed)) = header_clear set (all_ordered set) headers (planned set given) k i at.lt at.at in
    let read : IsIn (words (ordered_pointers set k)) of.word = subst (λ (s : StreamLists). IsIn (image_words set k i s) of.word) (sym of.one.streams) of.there in
    let own : IsIn (words placed) of.word = subst (λ (ws : List PlacedWord). IsIn (words ws) of.word) (sym (ordered_at set k i at.lt at.at)) read in
    let there : IsIn (map (own_edit set k i) (words placed)) e = subst (λ (d : Edit). IsIn (map (own_edit set k i) (words placed)) d) (sym of.is) (in_map (own_edit set k i) (words placed) of.word own) in
    let size : length (slice_index_or headers k []) ≡ length i.header = own_sized set.images k i image in
    let place : (header_move l k i.segments).file ≡ (move_at l k 0).file = ap (λ (o : Option ℕ). (move_or_none l k o).file) (text_position i at.sound) in
    elim (all_in P (map (own_edit set k i) (words placed)) e all there) [
      | inl before ↦ inr (omega (arith, before, place))
      | inr behind ↦ inl (omega (arith, behind, place, size))
    ]

header_apart : (set : ImageSet) (k : ℕ) (i : Img) (e : Edit) → IsReadSet set → IsAt set.images k i → IsSetEdit set e
    → ((move_at (layout_of set.images) k 0).file + length i.header ≤ e.at) ⊎ (e.at + e.width ≤ (move_at (layout_of set.images) k 0).file)
header_apart set k i e given at of = elim (same_or_not k of.number) [
  | inr differ ↦
      seats_apart set.images k of.number i of.image (header_edit set.images k i) e (header_seated set.images k i at) (edit_seated set of.number of.image e of.of) (λ image segment. differ image)
  | inl same ↦
      let image : of.image ≡ i =
      same_Some of.image i (sym of.image_is ∙ (ap (λ (n : ℕ). slice_get set.images n) (sym same) ∙ slice_get_read set.images (length set.images) k i refl at.lt at.at)) in
      clear_own set k i e given at (subst (λ (x : Img). IsEditOf set k x e) image (subst (λ (n : ℕ). IsEditOf set n of.image e) (sym same) of.of))
]

headers_apart : (set : ImageSet) (k : ℕ) (i : Img) → IsReadSet set → k < length set.images → i ≡ get_or set.images k i → ApartFrom (move_at (layout_of set.images) k 0).file (length i.header) (edits_of (layout_of set.images) set)
headers_apart set k i given lt at =
    apart_each (move_at (layout_of set.images) k 0).file (length i.header) (edits_of (layout_of set.images) set)
    (λ e among. header_apart set k i e given (record { none = given.none; lt = lt; at = at; sound = given.images k i lt at }) (set_edit set e given among))

-- ---- an accepted set

pub accepted_read : (is : List Img) → IsAccepted is → rewrite_break (layout_of is) (image_set is) ≡ None → IsReadSet (image_set is)
unfolding image_set
accepted_read is accepted none = record {
  sound = accepted.set;
  read = set_read is accepted.streams;
  none = accepted.layout;
  images = λ k i lt at. subst IsSound (sym at) (accepted.sound k i lt);
  led = accepted.words;
  rewritten = none;
}

pub has_edits : (bits : ℕ) (is : List Img) → 1 ≤ bits → bits ≤ 16 → IsAccepted is → rewrite_break (layout_of is) (image_set is) ≡ None → HasEdits bits is
unfolding image_set
has_edits bits is some most accepted none =
    let set : ImageSet = image_set is in
    let given : IsReadSet (image_set is) = accepted_read is accepted none in
    record {
      apart = all_apart set given;
      fit = all_fit set given;
      within = λ e among. edit_within set e given among;
      linked = can_link bits set some most given;
      headers = λ k i lt at. headers_apart set k i given lt at;
    }
