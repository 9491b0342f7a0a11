use Rattle.std.proofs.Common.{◌≡◌, drop}
use Rattle.macho_image.specs.Rules.{once_kinds, second_of_any}
use Rattle.dsc_base.specs.Refusals.{least}
use Rattle.macho_image.proofs.kinds.command_twice.Given as goal

abbrev pub invariant-loop-kind : goal.invariant-loop-kind
invariant-loop-kind l = second_of_any l.commands once_kinds ≡ least l.found (second_of_any l.commands (drop l.kind-index once_kinds))
