use Rattle.slide_chain.proofs.ThinLaws.{Keeping}
use Rattle.slide_chain.proofs.thinning.keep_others.Given as goal

-- the extras passed were kept or not
abbrev pub invariant-loop-i : goal.invariant-loop-i
invariant-loop-i l = Keeping l.extras l.repeated l.few.items l.places.items l.i
