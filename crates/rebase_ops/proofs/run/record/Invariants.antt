use Rattle.macho_image.specs.Places.{location}
use Rattle.macho_image.proofs.RunLaws.{Running}
use Rattle.rebase_ops.specs.Rebases.{record_fault}
use Rattle.rebase_ops.proofs.run.record.Given as goal

abbrev pub invariant-loop : goal.invariant-loop
invariant-loop l = Running (location l.image l.cursor.segment) (record_fault l.image l.cursor.segment) l.cursor.offset l.step l.count l.initial.out.items l.counter l.offset l.out.items
