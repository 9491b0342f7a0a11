-- The rebase writer would write the same.
use Rattle.std.proofs.Common.{List, ℕ, sym, subst}
use Rattle.dsc_gen.specs.Streams.{IsWritten}
use Rattle.dsc_gen.proofs.WrittenLaws.{stream_written}
use Rattle.dsc_gen.proofs.streams.rebase_stream.Goals as goal

pub returns-clause-written : goal.returns-clause-written
returns-clause-written c = subst (λ (l : List ℕ). IsWritten c.args.pointers l) (sym c.in_ok-stream.ensures) (stream_written c.args.pointers)
