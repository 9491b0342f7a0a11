use Rattle.std.proofs.Common.{◌≡◌, take}
use Rattle.bind_ops.specs.Binds.{places_of}
use Rattle.bind_ops.proofs.read.sorted_places.Given as goal

abbrev pub invariant-loop-bind : goal.invariant-loop-bind
invariant-loop-bind l = l.places.items ≡ places_of (take l.bind-index l.binds)
