use Rattle.std.proofs.Common.{arith}
use Rattle.load_model.proofs.LinkeditLaws.{linkedits_more, linkedits_none, linkedits_refused}
use Rattle.load_model.proofs.linkedits.read_linkedits.Goals as goal

pub loop-number-preserved : goal.loop-number-preserved
loop-number-preserved c =
    linkedits_more c.args.images.now c.loop-number.streams.items c.push.new.self.items c.loop-number.tables.items c.push-in-Ok.new.self.items c.loop-number.totals.records c.loop-number.totals.names c.in-Ok.linkedit.totals.records c.in-Ok.linkedit.totals.names c.loop-number.number
    c.index-images-number.result c.in-Ok.linkedit.streams c.in-Ok.linkedit.tables c.loop-number.invariant c.loop-number-test.true c.index-images-number.is c.in-Ok.ensures.cause c.in-Ok.ensures.streams c.in-Ok.ensures.tables
    c.in-Ok.ensures.records c.in-Ok.ensures.names c.in-Ok.ensures.few c.in-Ok.ensures.short c.in_ok-push-in-Ok.ensures.items c.in_ok-push-in-Ok-2.ensures.items

pub returns-in-Err-clause-cause : goal.returns-in-Err-clause-cause
returns-in-Err-clause-cause c =
    linkedits_refused c.args.images.now c.loop-number.streams.items c.loop-number.tables.items c.loop-number.totals.records c.loop-number.totals.names c.loop-number.number c.index-images-number.result c.in-Err.fault c.in_image.result c.loop-number.invariant c.loop-number-test.true
    c.index-images-number.is c.in-Err.ensures.cause c.in_image.ensures

pub returns-clause-cause : goal.returns-clause-cause
returns-clause-cause c = linkedits_none c.args.images.now c.loop-number.streams.items c.loop-number.tables.items c.loop-number.totals.records c.loop-number.totals.names c.loop-number.number c.loop-number.invariant (omega arith)
