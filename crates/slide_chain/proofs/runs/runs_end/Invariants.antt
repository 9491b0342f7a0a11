use Rattle.std.proofs.Common.{◌≡◌, ◌≤◌, false, length, drop}
use Rattle.std.specs.List.{list_any}
use Rattle.slide_chain.specs.Chains.{is_marked}
use Rattle.slide_chain.proofs.runs.runs_end.Given as goal

-- no extra from the end on ends a run
abbrev pub invariant-loop-end : goal.invariant-loop-end
invariant-loop-end l = record {
  inside : l.end ≤ length l.extras;
  behind : list_any is_marked (drop l.end l.extras) ≡ false;
}

abbrev pub decreases-loop-end : goal.decreases-loop-end
decreases-loop-end l = l.end
