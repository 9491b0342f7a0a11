use Rattle.std.proofs.Common.{◌≡◌, ◌++◌, take, drop}
use Rattle.dsc_base.specs.InMemory.{after_call}
use Rattle.dsc_base.proofs.outside.planned.count_call.Given as goal

abbrev pub invariant-loop-plan : goal.invariant-loop-plan
invariant-loop-plan l = l.planned ≡ after_call (take l.plan-index l.fn.planned) ++ drop l.plan-index l.fn.planned
