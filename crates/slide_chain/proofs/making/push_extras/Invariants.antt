use Rattle.std.proofs.Common.{◌≡◌, ◌++◌, drop}
use Rattle.slide_chain.specs.Making.{marked_last}
use Rattle.slide_chain.proofs.making.push_extras.Given as goal

-- what was pushed and what the first words behind give is what all give
abbrev pub invariant-loop-i : goal.invariant-loop-i
invariant-loop-i l = l.extras.items ++ marked_last (drop l.i l.firsts) ≡ l.initial.extras.items ++ marked_last l.firsts
