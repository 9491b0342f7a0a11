use Rattle.std.proofs.Common.{◌≡◌, take}
use Rattle.std.specs.List.{flat_map}
use Rattle.cache_header.specs.Spelling.{path_bytes}
use Rattle.cache_header.proofs.tables.paths.Given as goal

abbrev pub invariant-loop-image : goal.invariant-loop-image
invariant-loop-image l = l.paths.items ≡ flat_map path_bytes (take l.image-index l.images)
