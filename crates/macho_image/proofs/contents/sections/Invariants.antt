use Rattle.std.proofs.Common.{◌≡◌, ◌++◌, drop}
use Rattle.macho_image.specs.Macho.{sections_from}
use Rattle.macho_image.proofs.contents.sections.Given as goal

abbrev pub invariant-loop-segment : goal.invariant-loop-segment
invariant-loop-segment l = sections_from 0 l.commands ≡ l.sections.items ++ sections_from l.segment (drop l.segment l.commands)
