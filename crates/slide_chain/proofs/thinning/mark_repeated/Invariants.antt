use Rattle.slide_chain.proofs.ThinLaws.{Marking}
use Rattle.slide_chain.proofs.thinning.mark_repeated.Given as goal

-- what is known of the extras from one on
abbrev pub invariant-loop-i : goal.invariant-loop-i
invariant-loop-i l = Marking l.extras l.repeated l.seen l.run l.i

abbrev pub decreases-loop-i : goal.decreases-loop-i
decreases-loop-i l = l.i
