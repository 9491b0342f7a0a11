-- The groups so far and those that are left.
use Rattle.std.proofs.Common.{◌≡◌, ◌≤◌, ◌+◌, length}
use Rattle.dsc_gen.specs.Split.{groups_of}
use Rattle.dsc_gen.proofs.split.group_count.Given as goal

abbrev pub invariant-loop-rest : goal.invariant-loop-rest
invariant-loop-rest l = record {
  counted : l.count + length (groups_of l.rest) ≡ length (groups_of l.deltas);
  within : l.count + length l.rest ≤ length l.deltas;
}

abbrev pub decreases-loop-rest : goal.decreases-loop-rest
decreases-loop-rest l = length l.rest
