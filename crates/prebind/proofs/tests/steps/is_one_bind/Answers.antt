use Rattle.std.proofs.Common.{◌≡◌, ap, sym, ◌∙◌, true}
use Rattle.std.specs.Cmp.Lexicographic.{same_text}
use Rattle.bind_ops.specs.Records.{BoundWord}
use Rattle.prebind.proofs.AskedLaws.{one_bind}
use Rattle.prebind.proofs.tests.steps.is_one_bind.Goals as goal

pub returns-then-bind-eq1 : goal.returns-then-bind-eq1
returns-then-bind-eq1 c = λ same.
    one_bind c.args.binds.now c.index-binds-0.result c.args.name.now c.if-binds-ne1.false c.index-binds-0.is
    (ap (λ (b : BoundWord). b.ordinal) (sym c.bind.view_is) ∙ c.if-bind-eq1.true)
    (ap (λ (b : BoundWord). b.name) (sym c.bind.view_is) ∙ same_text c.bind.inside.name.now c.args.name.now (sym (sym c.eq.ensures ∙ same)))
