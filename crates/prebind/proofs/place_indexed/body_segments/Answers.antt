use Rattle.std.proofs.Common.{◌≤◌, ◌-◌, ◌∙◌, List, length, take, sym, ap, subst}
use Rattle.macho_image.specs.Records.{Seg, Img}
use Rattle.prebind.proofs.LinkeditLaws.{body_before}
use Rattle.prebind.proofs.place_indexed.body_segments.Goals as goal

pub slice_bounds-result-count : goal.slice_bounds-result-count
slice_bounds-result-count c =
    subst (λ (ss : List Seg). 1 ≤ length ss) (sym (c.as_slice-segments.ensures.value ∙ ap (λ (i : Img). i.segments) c.image.view_is)) (body_before c.args.image.now c.facts.ensures).0

pub returns : goal.returns
returns c =
    ap (λ (ss : List Seg). take (length ss - 1) ss) (c.as_slice-segments.ensures.value ∙ ap (λ (i : Img). i.segments) c.image.view_is) ∙ (body_before c.args.image.now c.facts.ensures).1
