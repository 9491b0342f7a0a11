use Rattle.std.proofs.Common.{◌≡◌, take}
use Rattle.std.specs.List.{flat_map, enumerate_from}
use Rattle.dsc_base.specs.Fields.{spelled}
use Rattle.cache_header.specs.Spelling.{image_fields, path_place}
use Rattle.cache_header.proofs.tables.image_table.Given as goal

-- the place of the next path, and the entries before the index
abbrev pub invariant-loop-image : goal.invariant-loop-image
invariant-loop-image l =
    (l.path_at ≡ path_place l.images l.image-index)
    × (l.table.items ≡ spelled (flat_map (image_fields l.images) (take l.image-index (enumerate_from 0 l.images))))
