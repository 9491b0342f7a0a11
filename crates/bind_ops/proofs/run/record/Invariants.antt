use Rattle.macho_image.proofs.RunLaws.{Running}
use Rattle.bind_ops.specs.Binds.{bound_at, record_fault}
use Rattle.bind_ops.specs.Steps.Effects.{settings_of}
use Rattle.bind_ops.proofs.run.record.Given as goal

abbrev pub invariant-loop : goal.invariant-loop
invariant-loop l = Running (bound_at l.image (settings_of l.state)) (record_fault l.image (settings_of l.state)) l.state.offset l.step l.count l.initial.out.items l.counter l.offset l.out.items
