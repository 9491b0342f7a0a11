use Rattle.slide_chain.proofs.ThinLaws.{Moved}
use Rattle.slide_chain.proofs.thinning.thin.Given as goal

-- the starts that were moved so far
abbrev pub invariant-loop-start : goal.invariant-loop-start
invariant-loop-start l = Moved l.starts l.places.items l.moved.items l.start-index
