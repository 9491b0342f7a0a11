use Rattle.std.proofs.Common.{length, ap, ◌∙◌, arith}
use Rattle.macho_image.specs.Records.{Img}
use Rattle.macho_image.proofs.SectionLaws.{few_sections}
use Rattle.split_info.proofs.extent.from_section.Goals as goal

pub section_numbered-requires : goal.section_numbered-requires
section_numbered-requires c =
    let few = few_sections c.args.image.now c.facts.ensures in
    let same = c.deref.ensures.value ∙ ap (λ (i : Img). i.sections) c.image.view_is in
    omega (arith, few, ap length same)
