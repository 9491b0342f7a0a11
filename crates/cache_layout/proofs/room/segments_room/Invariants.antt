use Rattle.std.proofs.Common.{◌≡◌, take}
use Rattle.cache_layout.specs.declared.mapping.Mapping.{Mapping}
use Rattle.cache_layout.specs.Places.{segments_room}
use Rattle.cache_layout.specs.Rooms.{held}
use Rattle.cache_layout.proofs.room.segments_room.Given as goal

abbrev pub invariant-loop-segment : goal.invariant-loop-segment
invariant-loop-segment l = (m : Mapping) → held l.room m ≡ segments_room m (take l.segment-index l.segments)
