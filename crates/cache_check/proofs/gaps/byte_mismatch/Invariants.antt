use Rattle.cache_check.specs.Steps.Sides.{pair_view}
use Rattle.cache_check.proofs.GapLaws.{AreTried}
use Rattle.cache_check.proofs.gaps.byte_mismatch.Given as goal

abbrev pub invariant-loop-index : goal.invariant-loop-index
invariant-loop-index l = AreTried l.extents l.number (pair_view l.pair) l.index l.at
