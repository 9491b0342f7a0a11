use Rattle.std.proofs.Common.{◌≡◌, take}
use Rattle.cache_layout.specs.Places.{segments_room}
use Rattle.ref_rewrite.proofs.spans.room_in.Given as goal

abbrev pub invariant-loop-segment : goal.invariant-loop-segment
invariant-loop-segment l = l.room ≡ segments_room l.mapping (take l.segment-index l.segments)
