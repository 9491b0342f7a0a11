use Rattle.slide_chain.proofs.PageLaws.{Gathered}
use Rattle.slide_chain.proofs.gathering.gather.Given as goal

-- the counters passed show no overlap, and their words were appended
abbrev pub invariant-loop-k : goal.invariant-loop-k
invariant-loop-k l = Gathered l.mask l.value_add l.area l.marks l.page l.initial.words.items l.words.items l.k
