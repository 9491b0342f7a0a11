use Rattle.std.proofs.Common.{◌-◌, length}
use Rattle.macho_image.proofs.StreamLaws.{Reading}
use Rattle.bind_ops.specs.Binds.{start, meaning}
use Rattle.bind_ops.specs.Opcodes.{spelling}
use Rattle.bind_ops.specs.Steps.Effects.{settings_of}
use Rattle.bind_ops.proofs.read.read_stream.Given as goal

abbrev pub invariant-loop-at : goal.invariant-loop-at
invariant-loop-at l = Reading (spelling l.kind) (meaning l.kind l.image) start l.stream l.at (settings_of l.state) l.out.items

abbrev pub decreases-loop-at : goal.decreases-loop-at
decreases-loop-at l = length l.stream - l.at
