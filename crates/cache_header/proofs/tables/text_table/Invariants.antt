use Rattle.std.proofs.Common.{◌≡◌, All, take}
use Rattle.std.specs.List.{flat_map, enumerate_from}
use Rattle.dsc_base.specs.Fields.{spelled}
use Rattle.cache_header.specs.Spelling.{text_fields, path_place}
use Rattle.cache_header.specs.Widths.{FitsEntry}
use Rattle.cache_header.proofs.tables.text_table.Given as goal

-- the place of the next path, and the entries before the index, which fit
abbrev pub invariant-loop-image : goal.invariant-loop-image
invariant-loop-image l =
    (l.path_at ≡ path_place l.images l.image-index)
    × (l.table.items ≡ spelled (flat_map (text_fields l.images) (take l.image-index (enumerate_from 0 l.images))))
    × All FitsEntry (take l.image-index l.images)
