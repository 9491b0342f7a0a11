-- The files up to this one are made.
use Rattle.std.proofs.Common.{◌≡◌, map}
use Rattle.std.specs.List.{range_with_len}
use Rattle.dsc_tool.specs.Extraction.{image_file}
use Rattle.dsc_tool.specs.Steps.{new_files}
use Rattle.dsc_tool.proofs.extraction.image_files.Given as goal

abbrev pub invariant-loop-index : goal.invariant-loop-index
invariant-loop-index l = new_files l.files.items ≡ map (image_file l.prefix l.vetted.view) (range_with_len l.first l.index)
