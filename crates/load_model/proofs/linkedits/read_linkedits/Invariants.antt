use Rattle.load_model.proofs.LinkeditLaws.{AreLinkedits}
use Rattle.load_model.proofs.linkedits.read_linkedits.Given as goal

abbrev pub invariant-loop-number : goal.invariant-loop-number
invariant-loop-number l = AreLinkedits l.images l.streams.items l.tables.items l.totals.records l.totals.names l.number
