use Rattle.slide_chain.proofs.ReadLaws.{Walked}
use Rattle.slide_chain.proofs.reading.read_pages.Given as goal

-- what the pages passed have shown
abbrev pub invariant-loop-i : goal.invariant-loop-i
invariant-loop-i l = Walked l.mask l.value_add l.extras l.area l.starts l.i l.words.items
