-- The deltas so far lead to the place.
use Rattle.std.proofs.Common.{◌≡◌, ◌+◌, drop}
use Rattle.dsc_gen.specs.Split.{same_len}
use Rattle.dsc_gen.proofs.split.same_len.Given as goal

abbrev pub invariant-loop-i : goal.invariant-loop-i
invariant-loop-i l = l.i + same_len l.to (drop l.i l.deltas) ≡ same_len l.to l.deltas
