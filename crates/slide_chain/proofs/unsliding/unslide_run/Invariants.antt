use Rattle.slide_chain.proofs.SlideLaws.{Running}
use Rattle.slide_chain.proofs.unsliding.unslide_run.Given as goal

-- the chains of the extras passed were set, and those of the others are as they were
abbrev pub invariant-loop-extra : goal.invariant-loop-extra
invariant-loop-extra l = Running l.mask l.value_add l.page l.initial.area l.area l.extras l.extra-index
