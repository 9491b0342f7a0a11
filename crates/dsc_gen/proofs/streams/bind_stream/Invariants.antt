-- What was made so far and what is left.
use Rattle.std.proofs.Common.{◌≡◌, ◌+◌, ◌++◌, drop}
use Rattle.dsc_gen.specs.Streams.{binds_from}
use Rattle.dsc_gen.proofs.streams.bind_stream.Given as goal

abbrev pub invariant-loop-j : goal.invariant-loop-j
invariant-loop-j l = l.out.items ++ binds_from l.ordinal (l.pointers + l.j) (drop l.j l.symbols) ≡ binds_from l.ordinal l.pointers l.symbols
