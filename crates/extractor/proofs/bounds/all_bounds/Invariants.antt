use Rattle.extractor.proofs.BoundsLaws.{AreBoundsUpTo}
use Rattle.extractor.proofs.bounds.all_bounds.Given as goal

abbrev pub invariant-loop-image : goal.invariant-loop-image
invariant-loop-image l = AreBoundsUpTo l.streams l.bounds.items l.image-index
