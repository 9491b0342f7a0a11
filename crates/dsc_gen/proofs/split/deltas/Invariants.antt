-- What was made so far and what is left.
use Rattle.std.proofs.Common.{◌≡◌, ◌++◌, drop}
use Rattle.dsc_gen.specs.Split.{deltas_from}
use Rattle.dsc_gen.proofs.split.deltas.Given as goal

abbrev pub invariant-loop-i : goal.invariant-loop-i
invariant-loop-i l = l.deltas.items ++ deltas_from l.size l.i (drop l.i l.targets) ≡ deltas_from l.size 0 l.targets
