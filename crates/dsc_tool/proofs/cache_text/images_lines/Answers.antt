use Rattle.std.proofs.Common.{◌∙◌, ap, arith}
use Rattle.cache_header.specs.Records.{Entry}
use Rattle.dsc_tool.specs.Texts.{image_line}
use Rattle.dsc_tool.proofs.ListLaws.{flat_more}
use Rattle.dsc_tool.proofs.cache_text.images_lines.Goals as goal

pub loop-image-preserved : goal.loop-image-preserved
loop-image-preserved c =
    flat_more image_line c.args.images.now c.loop-image.image-index c.image-item.result c.loop-image.text.items c.extend_from_slice.new.self.items c.deref.result.now (omega arith)
    c.loop-image.invariant (c.deref.ensures.value ∙ (c.in_ok-image_text.ensures ∙ ap (λ (e : Entry). image_line e) c.image-item.is)) c.in_ok-extend_from_slice.ensures.items
