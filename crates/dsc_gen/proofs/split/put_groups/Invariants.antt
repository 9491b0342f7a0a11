-- The groups so far and those that are left.
use Rattle.std.proofs.Common.{◌≡◌, ◌++◌, length}
use Rattle.dsc_gen.specs.Split.{groups_of, groups_bytes}
use Rattle.dsc_gen.proofs.split.put_groups.Given as goal

abbrev pub invariant-loop-rest : goal.invariant-loop-rest
invariant-loop-rest l = l.out.items ++ groups_bytes l.last (groups_of l.rest) ≡ l.fn.out.items ++ groups_bytes 0 (groups_of l.deltas)

abbrev pub decreases-loop-rest : goal.decreases-loop-rest
decreases-loop-rest l = length l.rest
