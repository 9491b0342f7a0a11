use Rattle.std.proofs.Common.{◌≡◌, take, map}
use Rattle.macho_image.specs.Macho.{segment_of}
use Rattle.macho_image.proofs.contents.segments.Given as goal

abbrev pub invariant-loop-command : goal.invariant-loop-command
invariant-loop-command l = l.segments.items ≡ map (segment_of l.bytes) (take l.command-index l.commands)
