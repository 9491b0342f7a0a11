use Rattle.std.proofs.Common.{arith}
use Rattle.extractor.proofs.SumsLaws.{counted_start, counted_more, counted_none, counted_refused, counted_all}
use Rattle.extractor.proofs.links.read_all.Goals as goal

pub loop-number-init : goal.loop-number-init
loop-number-init c = counted_start c.args.images.now c.in_ok-streams.streams.items c.in_ok-streams.ensures.items

pub loop-number-preserved : goal.loop-number-preserved
loop-number-preserved c =
    counted_more c.args.images.now c.loop-number.streams.items c.push.new.self.items c.loop-number.totals.records c.loop-number.totals.names c.in-Ok.counted.totals.records c.in-Ok.counted.totals.names c.loop-number.number
    c.index-images-number.result c.in-Ok.counted.streams c.loop-number.invariant c.loop-number-test.true c.index-images-number.is c.in-Ok.ensures.cause c.in-Ok.ensures.streams
    c.in-Ok.ensures.records c.in-Ok.ensures.names c.in-Ok.ensures.few c.in-Ok.ensures.short c.in_ok-push-in-Ok.ensures.items

pub returns-in-Err-clause-cause : goal.returns-in-Err-clause-cause
returns-in-Err-clause-cause c =
    counted_refused c.args.images.now c.loop-number.streams.items c.loop-number.totals.records c.loop-number.totals.names c.loop-number.number c.index-images-number.result c.in-Err.fault c.in_image.result c.loop-number.invariant c.loop-number-test.true
    c.index-images-number.is c.in-Err.ensures.cause c.in_image.ensures

pub returns-clause-streams : goal.returns-clause-streams
returns-clause-streams c = counted_all c.args.images.now c.loop-number.streams.items c.loop-number.totals.records c.loop-number.totals.names c.loop-number.number c.loop-number.invariant (omega arith)

pub returns-clause-cause : goal.returns-clause-cause
returns-clause-cause c = counted_none c.args.images.now c.loop-number.streams.items c.loop-number.totals.records c.loop-number.totals.names c.loop-number.number c.loop-number.invariant (omega arith)
