use Rattle.std.proofs.Common.{sym, ◌∙◌}
use Rattle.macho_image.proofs.SliceLaws.{slice_inside, dylib_is}
use Rattle.macho_image.proofs.files.dylib_of.Goals as goal

pub part_of-requires : goal.part_of-requires
part_of-requires c = slice_inside c.args.file.now c.in-Ok.slice c.in-Ok.ensures.slice

pub returns-in-Ok-clause-dylib : goal.returns-in-Ok-clause-dylib
returns-in-Ok-clause-dylib c = c.part_of.ensures ∙ sym (dylib_is c.args.file.now c.in-Ok.slice c.in-Ok.ensures.slice)
