-- The cache of a set that breaks no rule is sound: it can be read back.
use Rattle.std.proofs.Common.{◌≡◌, ℕ, ◌+◌, ◌*◌, ◌/◌, ◌%◌, None, List, length, take, drop, ap, ap₂, ◌∙◌, arith}
use Rattle.dsc_base.specs.Region.{paged}
use Rattle.dsc_base.specs.declared.fault.Span.{Span}
use Rattle.macho_image.specs.Records.{Img}
use Rattle.cache_header.specs.Reading.{slide_info_bytes, slide_place}
use Rattle.cache_layout.specs.declared.mapping.Mapping.TheVariants.{Writable, Fixed}
use Rattle.cache_layout.specs.Layouts.{Laid, layout_of}
use Rattle.cache_layout.specs.Apart.{AreInTurn}
use Rattle.cache_layout.proofs.RoomLaws.{paged-whole}
use Rattle.slide_chain.specs.Chains.{Slide, chain_finding}
use Rattle.slide_chain.specs.Info.{info_read, info_finding}
use Rattle.slide_chain.specs.Making.{info_of}
use Rattle.slide_chain.proofs.InfoLaws.{info-sound}
use Rattle.slide_chain.proofs.LinkedLaws.{sound-linked_data}
use Rattle.slide_chain.proofs.SizeLaws.{length-starts, run-made, spellable}
use Rattle.ref_rewrite.specs.Rewritten.{edits_in}
use Rattle.linkedit_merge.specs.Linkedit.{linkedit_size}
use Rattle.cache_build.specs.Cache.{cache_of}
use Rattle.cache_build.specs.Sound.{IsSoundCache}
use Rattle.cache_build.proofs.BuildableSets.{IsBuildable, set_edits, set_chained, set_slide, set_shares, set_start, set_mapping}
use Rattle.cache_build.proofs.CacheFacts.{HasEdits}
use Rattle.cache_build.proofs.CacheHeads.{IsFramed, framed}
use Rattle.cache_build.proofs.CacheParts.{length-mapping}
use Rattle.cache_build.proofs.CachePlaces.{starts_at}
use Rattle.cache_build.proofs.MappedWords.{IsCachedSet}
use Rattle.cache_build.proofs.MappingBytes.{data_bytes}
use Rattle.cache_build.proofs.SlidCaches.{slide_bytes_there, info_there, data_there}
use Rattle.cache_build.proofs.ToldCaches.{head_none, rest_of, mappings_is, place_is, most_is}

-- ---- slide information and chains

made_info : (bits : ℕ) (is : List Img) → IsBuildable bits is → info_finding (layout_of is).writable.len (set_slide bits is) ≡ None
made_info bits is buildable =
    let frame : IsFramed bits is = framed bits is buildable in
    let size : ℕ = (layout_of is).writable.len in
    let starts : length (info_of bits (layout_of is).writable.len (set_chained is)).starts ≡ (layout_of is).writable.len / 4096 = length-starts bits (layout_of is).writable.len (set_chained is) in
    let pages : (layout_of is).writable.len ≡ length (info_of bits (layout_of is).writable.len (set_chained is)).starts * 4096 = omega (arith, starts, (frame.turn.pages Writable).1) in
    ap (λ (n : ℕ). info_finding n (set_slide bits is)) pages
    ∙ info-sound (info_of bits size (set_chained is)) (spellable bits size (set_chained is) buildable.most (omega (arith, frame.turn.fixed, frame.turn.span)) buildable.chains) (run-made bits size (set_chained is) buildable.some buildable.most)

made_chains : (bits : ℕ) (is : List Img) → IsBuildable bits is → HasEdits bits is
    → chain_finding (info_read (slide_info_bytes (cache_of bits is))) (take (layout_of is).writable.len (drop (layout_of is).writable.at (cache_of bits is))) ≡ None
made_chains bits is buildable edits =
    let l : Laid = layout_of is in
    ap₂ (λ (s : Slide) (b : List ℕ). chain_finding s b) (info_there bits is buildable edits) (data_there bits is buildable edits)
    ∙ sound-linked_data bits l.writable.len (set_chained is) (edits_in l.writable (set_edits is)) (set_mapping bits is Writable) edits.linked (data_bytes bits is buildable.accepted)
    (length-mapping bits is buildable.accepted Writable) buildable.chains

-- ---- altogether

-- what stands behind the data is of whole pages
rest_whole : (bits : ℕ) (is : List Img) → IsBuildable bits is → rest_of bits is % 4096 ≡ 0
rest_whole bits is buildable =
    let turn : AreInTurn is (layout_of is) = (framed bits is buildable).turn in
    let start : set_start bits is ≡ (layout_of is).fixed.at + (layout_of is).fixed.len + paged (length (set_slide bits is)) = starts_at bits is buildable.accepted in
    let first : paged (length (set_slide bits is)) % 4096 ≡ 0 = paged-whole (length (set_slide bits is)) in
    let last : paged (linkedit_size (set_shares is)) % 4096 ≡ 0 = paged-whole (linkedit_size (set_shares is)) in
    omega (arith, start, turn.fixed, (turn.pages Fixed).1, first, last)

pub sound_cache : (bits : ℕ) (is : List Img) → IsCachedSet bits is → IsSoundCache (cache_of bits is)
sound_cache bits is set =
    let frame : IsFramed bits is = framed bits is set.ready in
    let at : (slide_place (cache_of bits is)).at ≡ (layout_of is).fixed.at + (layout_of is).fixed.len = ap (λ (s : Span). s.at) (place_is bits is set.ready) in
    let len : (slide_place (cache_of bits is)).len ≡ length (set_slide bits is) = ap (λ (s : Span). s.len) (place_is bits is set.ready) in
    record {
      head = head_none bits is set.ready;
      text = (layout_of is).writable.at;
      writable = (layout_of is).writable.len;
      linkedit = rest_of bits is;
      mappings = mappings_is bits is set.ready;
      text_pages = (frame.turn.pages Writable).0;
      writable_pages = (frame.turn.pages Writable).1;
      linkedit_pages = rest_whole bits is set.ready;
      whole = omega (arith, set.cache.long, frame.turn.fixed, frame.segments);
      low = omega (arith, set.cache.long, set.cache.low);
      slides = omega (arith, set.cache.long, most_is bits is set.ready);
      behind = omega (arith, at, frame.turn.fixed);
      within = omega (arith, at, len, set.cache.long, frame.segments, frame.slide);
      info = ap (info_finding (layout_of is).writable.len) (slide_bytes_there bits is set.ready set.edits) ∙ made_info bits is set.ready;
      chains = made_chains bits is set.ready set.edits;
    }
