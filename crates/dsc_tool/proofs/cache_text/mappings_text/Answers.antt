use Rattle.std.proofs.Common.{◌∙◌, arith}
use Rattle.dsc_tool.specs.Texts.{mapping_line}
use Rattle.dsc_tool.proofs.ListLaws.{flat_more}
use Rattle.dsc_tool.proofs.cache_text.mappings_text.Goals as goal

pub loop-mapping-preserved : goal.loop-mapping-preserved
loop-mapping-preserved c =
    flat_more mapping_line c.args.mappings.now c.loop-mapping.mapping-index _ c.loop-mapping.text.items c.extend_from_slice.new.self.items c.as_bytes.result.now (omega arith)
    c.loop-mapping.invariant (c.as_bytes.ensures.value ∙ c.in_ok-mapping_text.ensures) c.in_ok-extend_from_slice.ensures.items
