use Rattle.std.proofs.Common.{◌∙◌}
use Rattle.macho_image.proofs.NumberLaws.{number_over}
use Rattle.macho_image.proofs.places.number.number_at_end.Goals as goal

pub returns : goal.returns
returns c =
    c.get_u64.ensures ∙ number_over c.args.bytes.now c.copy_from_slice.new.self c.args.at c.min-len.result c.requires c.min-len.ensures c.copy_from_slice.ensures.after
