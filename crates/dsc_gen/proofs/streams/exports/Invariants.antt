-- What was made so far and what is left.
use Rattle.std.proofs.Common.{◌≡◌, ◌++◌, drop}
use Rattle.dsc_gen.specs.Streams.{exports_from}
use Rattle.dsc_gen.proofs.streams.exports.Given as goal

abbrev pub invariant-loop-i : goal.invariant-loop-i
invariant-loop-i l = l.exports.items ++ exports_from l.size l.i (drop l.i l.words) ≡ exports_from l.size 0 l.words
