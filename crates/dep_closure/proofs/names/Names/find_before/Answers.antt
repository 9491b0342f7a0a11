use Rattle.std.proofs.Common.{◌≡◌, sym, ◌∙◌, Some, None}
use Rattle.dep_closure.specs.Dependencies.{image_named}
use Rattle.dep_closure.proofs.NameLaws.{named_before, named_after, named_nowhere}
use Rattle.dep_closure.proofs.names.Names.find_before.Goals as goal

pub returns-in_err-number : goal.returns-in_err-number
returns-in_err-number c =
    let none : None ≡ image_named c.args.self.now c.args.name.now = sym c.in_err-number.was ∙ c.find.ensures in
    c.from_residual.ensures ∙ named_nowhere c.args.self.now c.args.name.now c.args.image none

pub returns-then-number-image : goal.returns-then-number-image
returns-then-number-image c =
    let some : Some c.in_ok-number.number ≡ image_named c.args.self.now c.args.name.now = sym c.in_ok-number.was ∙ c.find.ensures in
    named_before c.args.self.now c.args.name.now c.args.image c.in_ok-number.number some c.if-number-image.true

pub returns-else-number-image : goal.returns-else-number-image
returns-else-number-image c =
    let some : Some c.in_ok-number.number ≡ image_named c.args.self.now c.args.name.now = sym c.in_ok-number.was ∙ c.find.ensures in
    named_after c.args.self.now c.args.name.now c.args.image c.in_ok-number.number some c.if-number-image.false
