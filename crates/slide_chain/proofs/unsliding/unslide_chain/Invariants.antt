use Rattle.std.proofs.Common.{◌-◌}
use Rattle.slide_chain.proofs.SlideLaws.{Following}
use Rattle.slide_chain.proofs.unsliding.unslide_chain.Given as goal

-- the words passed were set, and the others are those of the chain from the next one on
abbrev pub invariant-loop-step : goal.invariant-loop-step
invariant-loop-step l = Following l.mask l.value_add l.page l.initial.area l.area l.head l.at (1024 - l._step)
