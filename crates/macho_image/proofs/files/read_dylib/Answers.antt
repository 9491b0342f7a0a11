use Rattle.macho_image.specs.declared.form.Form.TheVariants.{Standalone}
use Rattle.macho_image.specs.Files.{shape_break}
use Rattle.macho_image.proofs.FileLaws.{shape_slice, shape_image, shape_none, handed_on}
use Rattle.macho_image.proofs.files.read_dylib.Goals as goal
use Rattle.macho_image.proofs.Unbroken.{image_at-some}

pub returns-in_err-dylib-clause-cause : goal.returns-in_err-dylib-clause-cause
returns-in_err-dylib-clause-cause c =
    handed_on (shape_break c.args.file.now) c.from_residual.result c.in_err-dylib.field-0.0 c.from_residual.ensures.1 (shape_slice c.args.file.now c.in_err-dylib.field-0.0 c.in_err-dylib.ensures.cause)

pub returns-in_err-image-clause-cause : goal.returns-in_err-image-clause-cause
returns-in_err-image-clause-cause c =
    handed_on (shape_break c.args.file.now) c.from_residual-in_err-image.result c.in_err-image.field-0.0 c.from_residual-in_err-image.ensures.1
    (shape_image c.args.file.now c.in_ok-dylib.dylib.now c.in_err-image.field-0.0 c.in_ok-dylib.ensures.cause c.in_ok-dylib.ensures.dylib c.in_err-image.ensures.cause)

pub returns-clause-unbroken : goal.returns-clause-unbroken
returns-clause-unbroken c =
    shape_none c.args.file.now c.in_ok-dylib.dylib.now c.in_ok-dylib.ensures.cause c.in_ok-dylib.ensures.dylib (image_at-some Standalone c.in_ok-dylib.dylib.now 0 c.in_ok-image.image c.in_ok-image.ensures.image).0
