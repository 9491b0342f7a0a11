use Rattle.std.proofs.Common.{◌≡◌, None, replicate}
use Rattle.extractor.proofs.homes.no_homes.Given as goal

abbrev pub invariant-loop-k : goal.invariant-loop-k
invariant-loop-k l = l.homes.items ≡ replicate l.k None
