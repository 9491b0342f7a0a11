use Rattle.dsc_base.proofs.Passing.{HasPassed}
use Rattle.dsc_base.proofs.outside.writer_sink.write_whole.Given as goal

abbrev pub invariant-pieces : goal.invariant-pieces
invariant-pieces g l = HasPassed (g.W.Write.contents l.fn.writer) (g.W.Write.contents l.writer) l.bytes l.rest
