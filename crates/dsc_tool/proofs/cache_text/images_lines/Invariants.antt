use Rattle.std.proofs.Common.{◌≡◌, take}
use Rattle.dsc_tool.specs.Texts.{image_lines}
use Rattle.dsc_tool.proofs.cache_text.images_lines.Given as goal

abbrev pub invariant-loop-image : goal.invariant-loop-image
invariant-loop-image l = l.text.items ≡ image_lines (take l.image-index l.images)
