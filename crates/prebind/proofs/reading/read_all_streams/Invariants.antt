use Rattle.prebind.proofs.AllStreams.{AreStreamsTo}
use Rattle.prebind.proofs.reading.read_all_streams.Given as goal

abbrev pub invariant-loop-number : goal.invariant-loop-number
invariant-loop-number l = AreStreamsTo l.images l.streams.items l.number
