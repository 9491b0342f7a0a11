use Rattle.std.proofs.Common.{◌≡◌, ◌++◌, drop}
use Rattle.macho_image.specs.Macho.{segment_loads}
use Rattle.macho_image.proofs.segment.read_segments.Given as goal

abbrev pub invariant-loop-command : goal.invariant-loop-command
invariant-loop-command l = segment_loads l.commands ≡ l.segments.items ++ segment_loads (drop l.command-index l.commands)
