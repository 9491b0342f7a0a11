use Rattle.std.proofs.Common.{ap, subst, List}
use Rattle.macho_image.specs.Records.{Img}
use Rattle.dsc_base.specs.Refusals.{IsRefusal}
use Rattle.dep_closure.specs.Breaks.{image_break}
use Rattle.dep_closure.proofs.LinkLaws.{items_of, unbroken_start, unbroken_refused}
use Rattle.std.specs.Prelude.{map}
use Rattle.dep_closure.proofs.links.all_dependencies.Goals as goal

pub loop-number-init : goal.loop-number-init
loop-number-init c = record {
  made = ap (λ vs. map items_of vs) c.in_ok-found.ensures.items;
  unbroken = unbroken_start c.args.images.now;
}

pub returns-in-Err-clause-cause : goal.returns-in-Err-clause-cause
returns-in-Err-clause-cause c =
    unbroken_refused c.args.images.now c.loop-number.number c.index-images-number.result c.in-Err.fault c.loop-number.invariant.unbroken c.loop-number-test.true c.index-images-number.is
    (subst (λ (names : List Img). IsRefusal (image_break names c.loop-number.number c.index-images-number.result) c.in-Err.fault) c.requires.same c.in-Err.ensures.cause)
    c.in_image.result c.in_image.ensures
