use Rattle.std.proofs.Common.{List, length, arith, refl, sym, ap, subst, ◌∙◌}
use Rattle.std.specs.List.{AllPairs}
use Rattle.std.proofs.lemmas.Option.{slice_get_read}
use Rattle.macho_image.specs.Records.{Img}
use Rattle.macho_image.specs.declared.section.Section.{Section}
use Rattle.macho_image.specs.Places.{Precedes}
use Rattle.macho_image.proofs.PlaceLaws.{placed_nowhere, placed_inside, placed_past}
use Rattle.macho_image.proofs.SectionLaws.{sections_in_order, few_sections}
use Rattle.macho_image.proofs.places.record.locate.Goals as goal

pub returns-in_default : goal.returns-in_default
returns-in_default c = placed_nowhere c.args.image.now c.args.segment c.args.offset c.args.before c.in_default.is

pub locate_in-requires-clause-few : goal.locate_in-requires-clause-few
locate_in-requires-clause-few c =
    let few = few_sections c.args.image.now c.facts.ensures in
    let same = c.deref-in-Some-get.ensures.value ∙ ap (λ (i : Img). i.sections) c.image.view_is in
    omega (arith, few, ap length same)

pub locate_in-requires-clause-order : goal.locate_in-requires-clause-order
locate_in-requires-clause-order c =
    let same = c.deref-in-Some-get.ensures.value ∙ ap (λ (i : Img). i.sections) c.image.view_is in
    subst (λ (xs : List Section). AllPairs Precedes xs) (sym same) (sections_in_order c.args.image.now c.facts.ensures)

pub returns-in-Some-get : goal.returns-in-Some-get
returns-in-Some-get c =
    let lookup = c.in-Some-get.ensures.lookup in
    placed_inside c.args.image.now c.args.segment c.in-Some.number c.in-Some-get.inside.now c.args.offset c.args.before c.deref.result.now c.deref-in-Some-get.result.now c.locate_in.result
    c.in-Some.is (c.deref.ensures.value ∙ ap (λ (i : Img). i.segments) c.image.view_is) (c.deref-in-Some-get.ensures.value ∙ ap (λ (i : Img). i.sections) c.image.view_is)
    (slice_get_read c.deref.result.now (length c.deref.result.now) c.in-Some.number c.in-Some-get.inside.now refl lookup.3.0 lookup.1) c.locate_in.ensures

pub returns-in-None : goal.returns-in-None
returns-in-None c =
    placed_past c.args.image.now c.args.segment c.in-Some.number c.args.offset c.args.before c.deref.result.now
    c.in-Some.is (c.deref.ensures.value ∙ ap (λ (i : Img). i.segments) c.image.view_is) c.in-None.ensures.lookup.3
