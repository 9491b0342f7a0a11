use Rattle.std.proofs.Common.{◌≤◌, ◌<◌, ◌+◌, ℕ, get_or}
use Rattle.bind_ops.proofs.clash.first_above.Given as goal

abbrev pub invariant-loop-index : goal.invariant-loop-index
invariant-loop-index l = (k : ℕ) → l.from ≤ k → k < l.index → get_or l.addresses k 0 < l.low + l.gap
