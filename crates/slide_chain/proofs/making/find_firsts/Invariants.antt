use Rattle.std.proofs.Common.{◌≡◌, ◌++◌}
use Rattle.slide_chain.specs.Making.{firsts}
use Rattle.slide_chain.proofs.MakeLaws.{firsts_behind}
use Rattle.slide_chain.proofs.making.find_firsts.Given as goal

-- what was found and what the words behind give is what all give
abbrev pub invariant-loop-i : goal.invariant-loop-i
invariant-loop-i l = l.found.items ++ firsts_behind l.limit l.words l.i ≡ firsts l.limit l.words
