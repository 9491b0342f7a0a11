use Rattle.std.proofs.Common.{◌-◌, length}
use Rattle.macho_image.proofs.StreamLaws.{Reading}
use Rattle.rebase_ops.specs.Opcodes.{spelling}
use Rattle.rebase_ops.specs.Rebases.{start, meaning}
use Rattle.rebase_ops.specs.Steps.Effects.{state_of}
use Rattle.rebase_ops.proofs.read.read_stream.Given as goal

abbrev pub invariant-loop-at : goal.invariant-loop-at
invariant-loop-at l = Reading spelling (meaning l.image) start l.stream l.at (state_of l.cursor) l.out.items

abbrev pub decreases-loop-at : goal.decreases-loop-at
decreases-loop-at l = length l.stream - l.at
