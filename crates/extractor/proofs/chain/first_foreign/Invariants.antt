use Rattle.std.proofs.Common.{◌-◌, length}
use Rattle.extractor.specs.Chained.{foreign_of}
use Rattle.extractor.proofs.FirstLaws.{IsFirst}
use Rattle.extractor.proofs.chain.first_foreign.Given as goal

abbrev pub invariant-loop-n : goal.invariant-loop-n
invariant-loop-n l = IsFirst (foreign_of l.images l.bounds l.start) l.words l.first (length l.words - l.n)
