-- The plan of an image of a set, and the first rule that it breaks, by what the image's parts say of them.
use Rattle.std.proofs.Common.{◌≡◌, ◌<◌, ℕ, List, [], ◌∷◌, ◌++◌, map, filter, length, get_or, sym, ap, ap₂, ◌∙◌, Option, Some}
use Rattle.std.specs.Prelude.{position, slice_get}
use Rattle.std.proofs.lemmas.List.{map-append, get_or_default}
use Rattle.dsc_base.specs.declared.edits.Edit.{Edit}
use Rattle.dsc_base.specs.declared.rule.Rule.TheVariants.{DeltaOutOfRange, OffsetOutOfRange, BoundOutOfRange}
use Rattle.dsc_base.specs.Refusals.{broken, first_break}
use Rattle.macho_image.specs.Records.{Seg, Img}
use Rattle.macho_image.specs.Segments.{segments_in}
use Rattle.bind_ops.specs.Records.{BoundWord}
use Rattle.split_info.specs.declared.reference.Reference.{Reference}
use Rattle.prebind.specs.declared.resolved.WordTarget.{WordTarget}
use Rattle.prebind.specs.declared.resolved.PlacedWord.{PlacedWord}
use Rattle.prebind.specs.Sets.{StreamLists, ImageSet}
use Rattle.prebind.specs.Words.{Word, pointer_word, reference_word, is_no_pointer, placed_bind, streams_in, streams_at, pointers_of, bound_words, ArePlaced}
use Rattle.cache_layout.specs.declared.mapping.Mapping.{Mapping}
use Rattle.cache_layout.specs.declared.mapping.Mapping.TheVariants.{Text, Writable, Fixed}
use Rattle.cache_layout.specs.Layouts.{Laid}
use Rattle.ref_rewrite.specs.declared.spans.Parts.{Parts}
use Rattle.ref_rewrite.specs.Breaks.{is_delta, is_offset, is_out_of_range, leads_beyond, delta_break, offset_break, bound_break, image_break}
use Rattle.ref_rewrite.specs.Moving.{header_move, edit_of, can_lead}
use Rattle.ref_rewrite.specs.Planned.{copies_of, words_with, span_in, chained_words, plan_of}
use Rattle.ref_rewrite.specs.Spans.{span_of}
use Rattle.ref_rewrite.specs.Steps.{edits_of, plan_with, beyond, target_beyond, break_with}
use Rattle.ref_rewrite.proofs.ReferenceLaws.{edits_anywhere}
use Rattle.ref_rewrite.proofs.BoundLaws.{own_target, positions_agree}
use Rattle.ref_rewrite.proofs.PlacedLaws.{bound_placed}

-- ---- the plan

edits_are : (l : Laid) (k : ℕ) (image : Img) (s : StreamLists) (words : List PlacedWord)
    → map (edit_of l k image.segments) (map pointer_word words) ++ edits_of l k image.segments s.references ≡ map (edit_of l k image.segments) (words_with k image s words)
edits_are l k image s words =
    let references : List Word = map (reference_word k image.sections image.segments) (filter is_no_pointer s.references) in
    sym (map-append (edit_of l k image.segments) (map pointer_word words) references
    ∙ ap (λ (es : List Edit). map (edit_of l k image.segments) (map pointer_word words) ++ es) (edits_anywhere l k image.sections image.segments (filter is_no_pointer s.references)))

pub plan_is : (l : Laid) (images : List Img) (k : ℕ) (image : Img) (s : StreamLists) (words : List PlacedWord) (parts : Parts) → ((m : Mapping) → span_of parts m ≡ span_in m images k image)
    → plan_with l k image.segments s.references words parts ≡ plan_of l images k image s words
unfolding plan_of
plan_is l images k image s words parts spans = λ j. record {
  copies = copies_of l k image.segments;
  edits = edits_are l k image s words j;
  header = [];
  header_at = (header_move l k image.segments).file;
  text = spans Text j;
  writable = spans Writable j;
  fixed = spans Fixed j;
  words = chained_words l k image.segments words;
}

-- ---- the rules

bound_beyond : (l : Laid) (set : ImageSet) (k i : ℕ) (words : List PlacedWord) (b : BoundWord) → ArePlaced (pointers_of set k) words → i < length (streams_at set k).binds → b ≡ get_or (streams_at set k).binds i b
    → target_beyond l words b ≡ leads_beyond l (placed_bind set k b).target
bound_beyond l set k i words b placed lt is =
    ap (λ (o : Option WordTarget). beyond l o) (own_target words (placed_bind set k b) placed.rises (bound_placed set k i words b placed lt is))

binds_are : (l : Laid) (set : ImageSet) (k : ℕ) (words : List PlacedWord) → ArePlaced (pointers_of set k) words
    → position (target_beyond l words) (streams_at set k).binds ≡ position (λ (w : PlacedWord). leads_beyond l w.target) (bound_words set k)
unfolding bound_words
binds_are l set k words placed =
    let bs : List BoundWord = (streams_at set k).binds in
    positions_agree (target_beyond l words) (λ (w : PlacedWord). leads_beyond l w.target) (placed_bind set k) bs
    (λ i d lt. bound_beyond l set k i words (get_or bs i d) placed lt (get_or_default bs i d (get_or bs i d) lt))

pub break_is : (l : Laid) (set : ImageSet) (k : ℕ) (image : Img) (s : StreamLists) (words : List PlacedWord) → slice_get set.images k ≡ Some image → slice_get set.streams k ≡ Some s → ArePlaced (pointers_of set k) words
    → break_with l k image.segments s words ≡ image_break l set k
unfolding image_break delta_break offset_break bound_break can_lead
break_is l set k image s words image_is streams_is placed =
    let ss : List Seg = segments_in (slice_get set.images k) in
    let rs : List Reference = (streams_at set k).references in
    sym (ap₂ (λ (xs : List Seg) (t : StreamLists). break_with l k xs t words) (ap segments_in image_is) (ap streams_in streams_is))
    ∙ ap (λ (o : Option ℕ). first_break (broken DeltaOutOfRange (position (is_out_of_range is_delta l k [] ss) rs) ∷ broken OffsetOutOfRange (position (is_out_of_range is_offset l k [] ss) rs) ∷ broken BoundOutOfRange o ∷ []))
    (binds_are l set k words placed)
