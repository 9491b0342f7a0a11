use Rattle.nlist_table.proofs.CountLaws.{Counted}
use Rattle.nlist_table.proofs.numbering.count_kept.Given as goal

abbrev pub invariant-loop-entry : goal.invariant-loop-entry
invariant-loop-entry l = Counted l.entries l.entry-index l.before.items l.kept
