use Rattle.cache_check.specs.Images.{stream_finding}
use Rattle.cache_check.proofs.EachLaws.{AreClear}
use Rattle.cache_check.proofs.streams.check_streams.Given as goal

abbrev pub invariant-loop-number : goal.invariant-loop-number
invariant-loop-number l = AreClear stream_finding l.images l.number
