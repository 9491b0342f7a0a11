use Rattle.std.proofs.Common.{◌≡◌, ◌≤◌, ℕ, drop, length, nat_eq}
use Rattle.indexmap.specs.IndexMap.{get}
use Rattle.prebind.specs.Targets.{pointer_at}
use Rattle.prebind.proofs.lookups.recorded_pointers.Given as goal

abbrev pub invariant-loop-left : goal.invariant-loop-left
invariant-loop-left l = record {
  within : l.left ≤ length l.references;
  found : (address : ℕ) → get nat_eq l.pointers address ≡ pointer_at (drop l.left l.references) address;
}

abbrev pub decreases-loop-left : goal.decreases-loop-left
decreases-loop-left l = l.left
