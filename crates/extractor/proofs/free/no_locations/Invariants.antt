use Rattle.std.proofs.Common.{◌≡◌, [], replicate}
use Rattle.extractor.specs.Free.{lists}
use Rattle.extractor.proofs.free.no_locations.Given as goal

abbrev pub invariant-loop-k : goal.invariant-loop-k
invariant-loop-k l = lists l.free.items ≡ replicate l.k []
