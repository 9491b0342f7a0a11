use Rattle.std.proofs.Common.{arith}
use Rattle.macho_image.proofs.FileLists.{accepted_more, accepted_images, accepted_none, refused}
use Rattle.macho_image.proofs.files.read_images.Goals as goal

pub loop-number-preserved : goal.loop-number-preserved
loop-number-preserved c =
    accepted_more c.args.files.now c.loop-number.images.items c.push_image.new.images.items c.loop-number.number c.index-files-number.result c.deref.result.now c.in-Ok.image c.loop-number.invariant c.loop-number-test.true c.index-files-number.is
    c.deref.ensures.value c.in-Ok.ensures.unbroken c.in-Ok.ensures.image c.in_ok-push_image-in-Ok.ensures

pub returns-in-Err-clause-cause : goal.returns-in-Err-clause-cause
returns-in-Err-clause-cause c =
    refused c.args.files.now c.loop-number.images.items c.loop-number.number c.index-files-number.result c.deref.result.now c.in-Err.fault c.in_image.result c.loop-number.invariant c.loop-number-test.true c.index-files-number.is
    c.deref.ensures.value c.in-Err.ensures.cause c.in_image.ensures

pub returns-clause-unbroken : goal.returns-clause-unbroken
returns-clause-unbroken c = accepted_none c.args.files.now c.loop-number.images.items c.loop-number.number c.loop-number.invariant (omega arith)

pub returns-clause-images : goal.returns-clause-images
returns-clause-images c = accepted_images c.args.files.now c.loop-number.images.items c.loop-number.number c.loop-number.invariant (omega arith)
