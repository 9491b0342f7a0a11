use Rattle.cache_check.proofs.EachLaws.{AreClear}
use Rattle.extractor.specs.Vetting.{large_finding}
use Rattle.extractor.proofs.limits.check_sizes.Given as goal

abbrev pub invariant-loop-number : goal.invariant-loop-number
invariant-loop-number l = AreClear (large_finding l.start l.words l.images) l.entries l.number
