use Rattle.std.proofs.Common.{List, length, arith, sym, ap, subst, ◌∙◌}
use Rattle.std.specs.List.{AllPairs}
use Rattle.macho_image.specs.Records.{Img}
use Rattle.macho_image.specs.declared.section.Section.{Section}
use Rattle.macho_image.specs.Places.{Precedes}
use Rattle.macho_image.proofs.SectionLaws.{sections_in_order, few_sections}
use Rattle.cache_check.proofs.references.reference_location.Goals as goal

pub section_around-section-requires-clause-few : goal.section_around-section-requires-clause-few
section_around-section-requires-clause-few c =
    let few = few_sections c.args.image.now c.facts.ensures in
    let same = c.deref.ensures.value ∙ ap (λ (i : Img). i.sections) c.image.view_is in
    omega (arith, few, ap length same)

pub section_around-section-requires-clause-order : goal.section_around-section-requires-clause-order
section_around-section-requires-clause-order c =
    let same = c.deref.ensures.value ∙ ap (λ (i : Img). i.sections) c.image.view_is in
    subst (λ (xs : List Section). AllPairs Precedes xs) (sym same) (sections_in_order c.args.image.now c.facts.ensures)
