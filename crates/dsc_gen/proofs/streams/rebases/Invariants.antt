-- What was made so far and what is left.
use Rattle.std.proofs.Common.{◌≡◌, ◌-◌, ◌∷◌, ◌++◌}
use Rattle.dsc_gen.specs.Streams.{rebases_from}
use Rattle.dsc_gen.proofs.streams.rebases.Given as goal

abbrev pub invariant-loop-i : goal.invariant-loop-i
invariant-loop-i l = l.out.items ++ rebases_from l.i (l.pointers - l.i) ≡ 0x11 ∷ rebases_from 0 l.pointers
