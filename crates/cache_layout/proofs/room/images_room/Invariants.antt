use Rattle.std.proofs.Common.{◌≡◌, ◌≤◌, ◌*◌, ◌^◌, take}
use Rattle.cache_layout.specs.declared.mapping.Mapping.{Mapping}
use Rattle.cache_layout.specs.Places.{images_room}
use Rattle.cache_layout.specs.Rooms.{held}
use Rattle.cache_layout.proofs.room.images_room.Given as goal

abbrev pub invariant-loop-image : goal.invariant-loop-image
invariant-loop-image l = record {
  sums : (m : Mapping) → held l.room m ≡ images_room m (take l.image-index l.images);
  fits : (m : Mapping) → held l.room m ≤ 2 ^ 47 * l.image-index;
}
