-- The deltas so far and those that are left.
use Rattle.std.proofs.Common.{◌≡◌, ◌++◌, drop}
use Rattle.dsc_gen.specs.Split.{rises_from}
use Rattle.dsc_gen.proofs.split.put_rises.Given as goal

abbrev pub invariant-loop-delta : goal.invariant-loop-delta
invariant-loop-delta l = l.out.items ++ rises_from l.last (drop l.delta-index l.deltas) ≡ l.fn.out.items ++ rises_from 0 l.deltas
