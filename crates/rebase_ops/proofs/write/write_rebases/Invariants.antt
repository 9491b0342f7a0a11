-- The bytes so far and those of the runs that are left.
use Rattle.std.proofs.Common.{◌≡◌, ◌≤◌, ◌-◌, ◌++◌, ◌∷◌, drop, length}
use Rattle.rebase_ops.specs.Writing.{runs_of, runs_bytes}
use Rattle.rebase_ops.proofs.write.write_rebases.Given as goal

abbrev pub invariant-loop-at : goal.invariant-loop-at
invariant-loop-at l = record {
  added : l.out.items ++ runs_bytes l.image (runs_of (drop l.at l.locations)) ≡ 0x11 ∷ runs_bytes l.image (runs_of l.locations);
  within : l.at ≤ length l.locations;
}

abbrev pub decreases-loop-at : goal.decreases-loop-at
decreases-loop-at l = length l.locations - l.at
