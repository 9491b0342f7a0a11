use Rattle.std.proofs.Common.{◌≡◌, map, take}
use Rattle.cache_build.proofs.head.identifiers.Given as goal

abbrev pub invariant-loop-image : goal.invariant-loop-image
invariant-loop-image l = l.identifiers.items ≡ map (λ i. i.uuid) (take l.image-index l.images)
