use Rattle.cache_check.specs.Steps.Gaps.{AreSame}
use Rattle.cache_check.specs.Steps.Sides.{pair_view}
use Rattle.cache_check.proofs.gaps.first_other.Given as goal

abbrev pub invariant-loop-offset : goal.invariant-loop-offset
invariant-loop-offset l = AreSame (pair_view l.pair) l.from l.offset
