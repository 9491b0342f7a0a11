use Rattle.extractor.proofs.SumsLaws.{AreCounted}
use Rattle.extractor.proofs.links.read_all.Given as goal

abbrev pub invariant-loop-number : goal.invariant-loop-number
invariant-loop-number l = AreCounted l.images l.streams.items l.totals.records l.totals.names l.number
