use Rattle.std.proofs.Common.{◌≡◌, ◌++◌, drop}
use Rattle.slide_chain.specs.Info.{halves}
use Rattle.slide_chain.proofs.info_bytes.push_halves.Given as goal

-- what was pushed and what the numbers behind give is what all give
abbrev pub invariant-loop-number : goal.invariant-loop-number
invariant-loop-number l = l.bytes.items ++ halves (drop l.number-index l.numbers) ≡ l.initial.bytes.items ++ halves l.numbers
