use Rattle.std.proofs.Common.{◌≡◌, drop}
use Rattle.macho_image.specs.Rules.{second_of}
use Rattle.macho_image.proofs.Seconds.{second_from}
use Rattle.macho_image.proofs.kinds.second_of.Given as goal

abbrev pub invariant-loop-command : goal.invariant-loop-command
invariant-loop-command l = second_of l.commands l.kind ≡ second_from l.kind l.seen (drop l.command-index l.commands)
