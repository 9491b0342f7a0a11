use Rattle.split_info.proofs.OverlapLaws.{AreClear}
use Rattle.split_info.proofs.overlap.first_overlap.Given as goal

abbrev pub invariant-loop-index : goal.invariant-loop-index
invariant-loop-index l = AreClear l.rebases l.words l.reference-items l.index
