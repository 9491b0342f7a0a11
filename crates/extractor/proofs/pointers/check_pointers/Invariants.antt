use Rattle.cache_check.proofs.EachLaws.{AreClear}
use Rattle.extractor.specs.Vetting.{pointer_in, cached_set}
use Rattle.extractor.proofs.pointers.check_pointers.Given as goal

abbrev pub invariant-loop-number : goal.invariant-loop-number
invariant-loop-number l = AreClear (pointer_in l.start l.words (cached_set l.images)) l.images l.number
