use Rattle.slide_chain.proofs.SieveLaws.{Sifted}
use Rattle.slide_chain.proofs.sieve.sift.Given as goal

-- what the places passed count, and what the chains from the others weigh, is what all chains weigh
abbrev pub invariant-loop-k : goal.invariant-loop-k
invariant-loop-k l = Sifted l.mask l.area l.page l.initial.marks l.marks l.k
