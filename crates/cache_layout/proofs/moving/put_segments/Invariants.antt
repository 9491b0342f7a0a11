use Rattle.std.proofs.Common.{◌≡◌, ◌+◌, map, take}
use Rattle.std.specs.List.{enumerate_from}
use Rattle.cache_layout.specs.declared.mapping.Mapping.{Mapping}
use Rattle.cache_layout.specs.Places.{segments_room, segment_move, segment_shift}
use Rattle.cache_layout.specs.Rooms.{held}
use Rattle.cache_layout.proofs.moving.put_segments.Given as goal

abbrev pub invariant-loop-segment : goal.invariant-loop-segment
invariant-loop-segment l = record {
  next : (m : Mapping) → held l.next m ≡ held l.initial.next m + segments_room m (take l.segment-index l.segments);
  moves : l.moves.items ≡ map (λ p. segment_move (held l.initial.next) l.segments p.0 p.1) (enumerate_from 0 (take l.segment-index l.segments));
  shifts : l.shifts.items ≡ map (λ p. segment_shift (held l.initial.next) l.segments p.0 p.1) (enumerate_from 0 (take l.segment-index l.segments));
}
