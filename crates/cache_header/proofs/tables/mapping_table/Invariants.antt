use Rattle.std.proofs.Common.{◌≡◌, All, take}
use Rattle.std.specs.List.{flat_map}
use Rattle.dsc_base.specs.Fields.{spelled}
use Rattle.cache_header.specs.Spelling.{mapping_fields}
use Rattle.cache_header.specs.Widths.{FitsMapping}
use Rattle.cache_header.proofs.tables.mapping_table.Given as goal

-- the mappings before the index are spelled, and fit
abbrev pub invariant-loop-mapping : goal.invariant-loop-mapping
invariant-loop-mapping l =
    (l.table.items ≡ spelled (flat_map mapping_fields (take l.mapping-index l.mappings))) × All FitsMapping (take l.mapping-index l.mappings)
