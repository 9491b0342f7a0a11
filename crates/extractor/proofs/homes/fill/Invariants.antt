use Rattle.std.proofs.Common.{◌≡◌, ◌++◌, Some, drop, replicate}
use Rattle.extractor.proofs.homes.fill.Given as goal

abbrev pub invariant-loop-k : goal.invariant-loop-k
invariant-loop-k l = l.homes ≡ replicate l.k (Some l.home) ++ drop l.k l.initial.homes
