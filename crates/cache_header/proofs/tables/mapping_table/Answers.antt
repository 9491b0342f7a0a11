use Rattle.std.proofs.Common.{◌∙◌}
use Rattle.std.proofs.lemmas.List.Elements.{All-nil, All-more}
use Rattle.cache_header.specs.Spelling.{mapping_fields}
use Rattle.cache_header.specs.Widths.{FitsMapping}
use Rattle.cache_header.proofs.TableLaws.{spelled_start, spelled_take}
use Rattle.cache_header.proofs.tables.mapping_table.Goals as goal

pub loop-mapping-init : goal.loop-mapping-init
loop-mapping-init c = (c.in_ok-table.ensures.items ∙ spelled_start, All-nil FitsMapping)

pub loop-mapping-preserved : goal.loop-mapping-preserved
loop-mapping-preserved c = (
  c.in_ok-append_mapping.ensures.bytes ∙ spelled_take mapping_fields c.args.mappings.now c.loop-mapping.mapping-index _ c.loop-mapping.table.items c.loop-mapping-test.true c.loop-mapping.invariant.0,
  All-more FitsMapping c.args.mappings.now c.loop-mapping.mapping-index _ c.loop-mapping-test.true c.loop-mapping.invariant.1 c.append_mapping.ensures.fits,
)
