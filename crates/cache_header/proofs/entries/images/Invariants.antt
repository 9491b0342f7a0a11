use Rattle.std.proofs.Common.{◌≡◌, map}
use Rattle.std.specs.List.{range_with_len}
use Rattle.cache_header.specs.Reading.{image_at}
use Rattle.cache_header.proofs.NameLaws.{NamedBelow}
use Rattle.cache_header.proofs.entries.images.Given as goal

-- the images before k, whose paths are plain
abbrev pub invariant-loop-k : goal.invariant-loop-k
invariant-loop-k l = (l.images.items ≡ map (image_at l.bytes) (range_with_len 0 l.k)) × NamedBelow l.bytes l.k
