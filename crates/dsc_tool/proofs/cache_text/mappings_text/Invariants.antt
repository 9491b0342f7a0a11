use Rattle.std.proofs.Common.{◌≡◌, take}
use Rattle.dsc_tool.specs.Texts.{mapping_lines}
use Rattle.dsc_tool.proofs.cache_text.mappings_text.Given as goal

abbrev pub invariant-loop-mapping : goal.invariant-loop-mapping
invariant-loop-mapping l = l.text.items ≡ mapping_lines (take l.mapping-index l.mappings)
