use Rattle.std.proofs.Common.{◌≡◌, ◌+◌, map, take}
use Rattle.cache_layout.specs.declared.mapping.Mapping.{Mapping}
use Rattle.cache_layout.specs.Places.{mapping_start, images_room, numbered, moves_at, shifts_at}
use Rattle.cache_layout.specs.Rooms.{held}
use Rattle.cache_layout.proofs.moving.put_images.Given as goal

abbrev pub invariant-loop-image : goal.invariant-loop-image
invariant-loop-image l = record {
  next : (m : Mapping) → held l.next m ≡ mapping_start m l.images + images_room m (take l.image-index l.images);
  moves : l.moves.items ≡ numbered (moves_at l.images) (take l.image-index l.images);
  shifts : map (λ v. v.items) l.shifts.items ≡ numbered (shifts_at l.images) (take l.image-index l.images);
}
