use Rattle.std.proofs.Common.{◌≡◌, take}
use Rattle.bind_ops.specs.Binds.{places_of}
use Rattle.prebind.proofs.reading.places.Given as goal

abbrev pub invariant-loop-bind : goal.invariant-loop-bind
invariant-loop-bind l = l.places.items ≡ places_of (take l.bind-index l.binds)
