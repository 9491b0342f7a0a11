use Rattle.std.proofs.Common.{◌-◌, length}
use Rattle.extractor.specs.Chained.{outside_of}
use Rattle.extractor.proofs.FirstLaws.{IsFirst}
use Rattle.extractor.proofs.chain.first_outside.Given as goal

abbrev pub invariant-loop-n : goal.invariant-loop-n
invariant-loop-n l = IsFirst (outside_of l.images l.bounds l.start) l.words l.first (length l.words - l.n)
