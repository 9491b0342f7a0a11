use Rattle.std.proofs.Common.{◌∙◌, ap, arith, Option, ℕ}
use Rattle.macho_image.specs.Rules.{once_kinds}
use Rattle.dsc_base.specs.Refusals.{least}
use Rattle.macho_image.proofs.Seconds.{second_kinds_step}
use Rattle.macho_image.proofs.kinds.command_twice.Goals as goal

pub loop-kind-preserved : goal.loop-kind-preserved
loop-kind-preserved c =
    let here = ap (λ (o : Option ℕ). least c.loop-kind.found o) c.second_of.ensures in
    c.loop-kind.invariant ∙ second_kinds_step c.args.commands.now once_kinds c.loop-kind.kind-index (0, 0) c.loop-kind.found c.least-found.result (omega arith) (c.least-found.ensures ∙ here)
