use Rattle.std.proofs.Common.{◌≡◌, ◌++◌, ◌-◌, ◌+◌, ◌*◌}
use Rattle.slide_chain.specs.Info.{halves_at}
use Rattle.slide_chain.proofs.info_read.read_halves.Given as goal

-- what was read and what is behind is the whole
abbrev pub invariant-loop-i : goal.invariant-loop-i
invariant-loop-i l = l.numbers.items ++ halves_at (l.count - l.i) l.bytes (l.at + 2 * l.i) ≡ halves_at l.count l.bytes l.at
