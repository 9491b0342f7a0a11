use Rattle.slide_chain.proofs.MarkLaws.{RunGoes}
use Rattle.slide_chain.proofs.sieve.count_run.Given as goal

-- the words that were counted, and those that are left, are all
abbrev pub invariant-loop-extra : goal.invariant-loop-extra
invariant-loop-extra l = RunGoes l.marks l.extras l.extra-index
