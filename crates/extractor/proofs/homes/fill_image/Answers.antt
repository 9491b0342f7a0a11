use Rattle.std.proofs.Common.{◌<◌, ◌^◌, List, length, get_or, ap, subst, sym, ◌∙◌}
use Rattle.macho_image.specs.Records.{Img, Seg}
use Rattle.macho_image.proofs.SoundSegments.{few_segments}
use Rattle.extractor.proofs.homes.fill_image.Goals as goal

pub fill_segments-requires-clause-few : goal.fill_segments-requires-clause-few
fill_segments-requires-clause-few c =
    subst (λ (ss : List Seg). length ss < 2 ^ 32) (sym (c.deref.ensures.value ∙ ap (λ (i : Img). i.segments) c.image.view_is))
    (few_segments c.args.image.now c.facts.ensures (λ k. subst (λ (i : Img). get_or i.header k 0 < 256) c.image.view_is (c.are_bytes.ensures k)))
