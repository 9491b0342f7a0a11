use Rattle.std.proofs.Common.{◌≡◌, ◌+◌, ◌*◌, length, take}
use Rattle.std.specs.List.{sum_by}
use Rattle.cache_layout.specs.Places.{path_size}
use Rattle.cache_layout.proofs.room.head_size.Given as goal

abbrev pub invariant-loop-image : goal.invariant-loop-image
invariant-loop-image l = l.size ≡ 0xF8 + 3 * 32 + 64 * length l.images + sum_by path_size (take l.image-index l.images)
