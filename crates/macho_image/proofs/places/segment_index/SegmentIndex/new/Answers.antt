use Rattle.std.proofs.Common.{◌<◌, ℕ, List, length, get_or, sym, ap, ◌∙◌, subst, arith}
use Rattle.macho_image.specs.Records.{Img, Seg}
use Rattle.macho_image.specs.Index.{AreApart}
use Rattle.macho_image.proofs.SoundSegments.{segments_keep_apart, few_segments}
use Rattle.macho_image.proofs.places.segment_index.SegmentIndex.new.Goals as goal

pub over-requires-clause-apart : goal.over-requires-clause-apart
over-requires-clause-apart c =
    let same = c.deref.ensures.value ∙ ap (λ (i : Img). i.segments) c.image.view_is in
    subst (λ (ss : List Seg). AreApart ss) (sym same) (segments_keep_apart c.args.image.now c.facts.ensures)

pub over-requires-clause-few : goal.over-requires-clause-few
over-requires-clause-few c =
    let header : List ℕ = c.args.image.now.header in
    let bytes : (k : ℕ) → get_or header k 0 < 256 = λ k. subst (λ (b : List ℕ). get_or b k 0 < 256) (ap (λ (i : Img). i.header) c.image.view_is) (c.are_bytes.ensures k) in
    let few = few_segments c.args.image.now c.facts.ensures bytes in
    let same = c.deref.ensures.value ∙ ap (λ (i : Img). i.segments) c.image.view_is in
    omega (arith, few, ap length same)
