use Rattle.std.proofs.Common.{sym, ◌∙◌}
use Rattle.ref_rewrite.proofs.ReferenceLaws.{none_broken}
use Rattle.ref_rewrite.proofs.references.check_references.Goals as goal

pub returns-then-not-misfit : goal.returns-then-not-misfit
returns-then-not-misfit c = none_broken c.args.moving.now.layout.now c.args.moving.now.number c.args.moving.now.segments.now c.args.references.now (sym c.requires.misfit ∙ c.if-not-misfit.true)
