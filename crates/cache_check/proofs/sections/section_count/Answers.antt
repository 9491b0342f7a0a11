use Rattle.std.proofs.Common.{length, ap, arith}
use Rattle.macho_image.specs.Records.{Img}
use Rattle.macho_image.proofs.SectionLaws.{few_sections}
use Rattle.cache_check.proofs.sections.section_count.Goals as goal

pub overflow_cast-result : goal.overflow_cast-result
overflow_cast-result c = let same = ap (λ (i : Img). length i.sections) c.image.view_is in omega (arith, few_sections c.args.image.now c.facts.ensures, same, c.len.ensures)

pub returns-clause-few : goal.returns-clause-few
returns-clause-few c = let same = ap (λ (i : Img). length i.sections) c.image.view_is in omega (arith, few_sections c.args.image.now c.facts.ensures, same, c.len.ensures)
