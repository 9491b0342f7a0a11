use Rattle.dep_closure.proofs.ResolveLaws.{AreResolved}
use Rattle.dep_closure.proofs.dependencies.resolve.Given as goal

abbrev pub invariant-loop-index : goal.invariant-loop-index
invariant-loop-index l = AreResolved l.names l.dependencies l.found.items l.index
