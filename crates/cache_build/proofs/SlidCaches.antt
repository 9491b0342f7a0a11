-- The cache of a set as it is mapped: three mappings, slide information that reads back, and at any slide the bytes with the words of its chains raised.
use Rattle.std.proofs.Common.{◌≡◌, ◌<◌, ℕ, ◌+◌, Some, List, ◌++◌, take, drop, length, get_or, sym, ap, ap₂, ◌∙◌, arith, append_assoc}
use Rattle.std.proofs.lemmas.List.{length-drop, take_all, take_at, drop_at}
use Rattle.std.proofs.Math.Seq.{drop-append-add}
use Rattle.dsc_base.specs.Region.{region_start}
use Rattle.macho_image.specs.Records.{Img}
use Rattle.macho_image.specs.Places.{wrap}
use Rattle.cache_header.specs.Reading.{slide_info_bytes}
use Rattle.cache_layout.specs.declared.mapping.Mapping.TheVariants.{Text, Writable, Fixed}
use Rattle.cache_layout.specs.Layouts.{Laid, layout_of}
use Rattle.cache_layout.proofs.PartLaws.{stands_take}
use Rattle.slide_chain.specs.Chains.{Slide, slid_area}
use Rattle.slide_chain.specs.Info.{info_read}
use Rattle.slide_chain.specs.Making.{info_of}
use Rattle.slide_chain.proofs.LinkedLaws.{slid-linked_data}
use Rattle.slide_chain.proofs.SizeLaws.{info_is}
use Rattle.load_model.specs.Mapped.{flat, mapped}
use Rattle.load_model.proofs.MappedLaws.{IsThree, slid_data, slid_cache, flat_three, mapped_cell}
use Rattle.ref_rewrite.specs.Rewritten.{edits_in}
use Rattle.cache_build.specs.Cache.{cache_of}
use Rattle.cache_build.proofs.BuildableSets.{IsBuildable, set_edits, set_chained, set_slide, set_span, set_mapping, slid_range, slid_of}
use Rattle.cache_build.proofs.CacheFacts.{HasEdits}
use Rattle.cache_build.proofs.CacheHeads.{IsFramed, framed}
use Rattle.cache_build.proofs.CacheParts.{linked_part, AreRanges, length-mapping, cache_parts, set_front, set_tail, length-text, length-around, range_stands, slide_stands}
use Rattle.cache_build.proofs.MappingBytes.{data_bytes}
use Rattle.cache_build.proofs.ToldCaches.{rest_of, mappings_is, slide_there}
use Rattle.cache_build.proofs.EditedRanges.{length-linked, length-slid}

pub long_is : (bits : ℕ) (is : List Img) → IsBuildable bits is → HasEdits bits is → length (cache_of bits is) ≡ set_span bits is
long_is bits is buildable edits =
    ap (λ (c : List ℕ). length c) (cache_parts bits is) ∙ length-around bits is (linked_part bits is) buildable (length-linked bits is buildable.accepted edits)

-- ---- slide information

pub slide_bytes_there : (bits : ℕ) (is : List Img) → IsBuildable bits is → HasEdits bits is → slide_info_bytes (cache_of bits is) ≡ set_slide bits is
slide_bytes_there bits is buildable edits =
    let place : ℕ = (layout_of is).fixed.at + (layout_of is).fixed.len in
    slide_there bits is buildable
    ∙ (ap (λ (c : List ℕ). take (length (set_slide bits is)) (drop place c)) (cache_parts bits is)
    ∙ stands_take _ (set_slide bits is) place (slide_stands bits is (linked_part bits is) buildable (length-linked bits is buildable.accepted edits)))

pub info_there : (bits : ℕ) (is : List Img) → IsBuildable bits is → HasEdits bits is → info_read (slide_info_bytes (cache_of bits is)) ≡ info_of bits (layout_of is).writable.len (set_chained is)
info_there bits is buildable edits =
    let l : Laid = layout_of is in
    let frame : IsFramed bits is = framed bits is buildable in
    ap info_read (slide_bytes_there bits is buildable edits) ∙ info_is bits l.writable.len (set_chained is) buildable.most (omega (arith, frame.turn.fixed, frame.turn.span)) buildable.chains

-- ---- the data

-- the cache by what stands before and behind its data
three_parts : (bits : ℕ) (is : List Img) → cache_of bits is ≡ (set_front bits is ++ linked_part bits is Text) ++ (linked_part bits is Writable ++ (linked_part bits is Fixed ++ set_tail bits is))
three_parts bits is =
    cache_parts bits is ∙ sym (append_assoc (set_front bits is) (linked_part bits is Text) (linked_part bits is Writable ++ (linked_part bits is Fixed ++ set_tail bits is)))

pub data_there : (bits : ℕ) (is : List Img) → IsBuildable bits is → HasEdits bits is → take (layout_of is).writable.len (drop (layout_of is).writable.at (cache_of bits is)) ≡ linked_part bits is Writable
data_there bits is buildable edits =
    let long : AreRanges is (linked_part bits is) = length-linked bits is buildable.accepted edits in
    ap₂ (λ (n : ℕ) (c : List ℕ). take n (drop (layout_of is).writable.at c)) (sym (long Writable)) (cache_parts bits is)
    ∙ stands_take _ (linked_part bits is Writable) (layout_of is).writable.at (range_stands bits is (linked_part bits is) buildable long Writable)

-- the data of the cache, slid
slid_is : (bits : ℕ) (is : List Img) → IsBuildable bits is → HasEdits bits is → (slide : ℕ)
    → slid_data (cache_of bits is) (layout_of is).writable.at (layout_of is).writable.len slide ≡ slid_range bits is slide
slid_is bits is buildable edits slide =
    let l : Laid = layout_of is in
    ap₂ (λ (s : Slide) (b : List ℕ). slid_area s slide b) (info_there bits is buildable edits) (data_there bits is buildable edits)
    ∙ slid-linked_data bits l.writable.len slide (set_chained is) (edits_in l.writable (set_edits is)) (set_mapping bits is Writable) edits.linked (data_bytes bits is buildable.accepted)
    (length-mapping bits is buildable.accepted Writable) buildable.chains

-- ---- the mappings

whole_span : (bits : ℕ) (is : List Img) → IsBuildable bits is → (layout_of is).writable.at + ((layout_of is).writable.len + rest_of bits is) ≡ set_span bits is
whole_span bits is buildable = let frame : IsFramed bits is = framed bits is buildable in omega (arith, frame.turn.fixed, frame.segments)

three_is : (bits : ℕ) (is : List Img) → IsBuildable bits is → HasEdits bits is → IsThree (cache_of bits is) (layout_of is).writable.at (layout_of is).writable.len (rest_of bits is)
three_is bits is buildable edits =
    let frame : IsFramed bits is = framed bits is buildable in
    record {
      mappings = mappings_is bits is buildable;
      long = long_is bits is buildable edits ∙ sym (whole_span bits is buildable);
      low = omega (arith, whole_span bits is buildable, frame.low);
      slid = λ slide. ap (λ (c : List ℕ). length c) (slid_is bits is buildable edits slide) ∙ length-slid bits is buildable.accepted slide Writable;
    }

-- the cache with its data slid
slid_cache_is : (bits : ℕ) (is : List Img) → IsBuildable bits is → HasEdits bits is → (slide : ℕ)
    → slid_cache (cache_of bits is) (layout_of is).writable.at (layout_of is).writable.len (rest_of bits is) slide ≡ slid_of bits is slide
slid_cache_is bits is buildable edits slide =
    let l : Laid = layout_of is in
    let front : List ℕ = set_front bits is ++ linked_part bits is Text in
    let area : List ℕ = linked_part bits is Writable in
    let behind : List ℕ = linked_part bits is Fixed ++ set_tail bits is in
    let ranges : AreRanges is (linked_part bits is) = length-linked bits is buildable.accepted edits in
    let text : length (set_front bits is ++ linked_part bits is Text) ≡ (layout_of is).writable.at = length-text bits is (linked_part bits is) buildable ranges in
    let first : take l.writable.at (cache_of bits is) ≡ front = ap (λ (c : List ℕ). take l.writable.at c) (three_parts bits is) ∙ take_at front (area ++ behind) l.writable.at text in
    let left : drop (l.writable.at + l.writable.len) (cache_of bits is) ≡ behind =
    ap₂ (λ (n : ℕ) (c : List ℕ). drop (n + l.writable.len) c) (sym text) (three_parts bits is)
    ∙ (drop-append-add front (area ++ behind) l.writable.len ∙ drop_at area behind l.writable.len (ranges Writable)) in
    let last : take (rest_of bits is) (drop (l.writable.at + l.writable.len) (cache_of bits is)) ≡ behind =
    take_all (rest_of bits is) (drop (l.writable.at + l.writable.len) (cache_of bits is))
    (omega (arith, length-drop (l.writable.at + l.writable.len) (cache_of bits is), long_is bits is buildable edits)) ∙ left in
    ap₂ (λ (a c : List ℕ). a ++ c) first (ap₂ (λ (m r : List ℕ). m ++ r) (slid_is bits is buildable edits slide) last)
    ∙ append_assoc (set_front bits is) (linked_part bits is Text) (slid_range bits is slide ++ behind)

-- ---- in memory

pub flat_is : (bits : ℕ) (is : List Img) → IsBuildable bits is → HasEdits bits is → flat (cache_of bits is) ≡ slid_of bits is 0
flat_is bits is buildable edits =
    flat_three (cache_of bits is) (layout_of is).writable.at (layout_of is).writable.len (rest_of bits is) (three_is bits is buildable edits) ∙ slid_cache_is bits is buildable edits 0

pub mapped_byte : (bits : ℕ) (is : List Img) → IsBuildable bits is → HasEdits bits is → (slide f : ℕ) → f < set_span bits is
    → mapped (cache_of bits is) slide (wrap (region_start + f + slide)) ≡ Some (get_or (slid_of bits is slide) f 0)
mapped_byte bits is buildable edits slide f lt =
    mapped_cell (cache_of bits is) (layout_of is).writable.at (layout_of is).writable.len (rest_of bits is) slide f (three_is bits is buildable edits) (omega (arith, lt, whole_span bits is buildable))
    ∙ ap (λ (c : List ℕ). Some (get_or c f 0)) (slid_cache_is bits is buildable edits slide)
