use Rattle.std.proofs.Common.{arith}
use Rattle.prebind.proofs.AllStreams.{streams_more, streams_refused, streams_none}
use Rattle.prebind.proofs.reading.read_all_streams.Goals as goal

pub loop-number-preserved : goal.loop-number-preserved
loop-number-preserved c =
    streams_more c.args.images.now c.loop-number.streams.items c.push.new.self.items c.loop-number.number c.index-images-number.result c.in-Ok.read c.loop-number.invariant c.loop-number-test.true c.index-images-number.is c.in-Ok.ensures.cause c.in-Ok.ensures.lists
    c.in_ok-push-in-Ok.ensures.items

pub returns-in-Err-clause-cause : goal.returns-in-Err-clause-cause
returns-in-Err-clause-cause c =
    streams_refused c.args.images.now c.loop-number.streams.items c.loop-number.number c.index-images-number.result c.in-Err.fault c.in_image.result c.loop-number.invariant c.loop-number-test.true c.index-images-number.is c.in-Err.ensures.cause c.in_image.ensures

pub returns-clause-cause : goal.returns-clause-cause
returns-clause-cause c = streams_none c.args.images.now c.loop-number.streams.items c.loop-number.number c.loop-number.invariant (omega arith)
