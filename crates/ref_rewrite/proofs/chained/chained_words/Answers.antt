use Rattle.std.proofs.Common.{arith}
use Rattle.ref_rewrite.proofs.ChainedLaws.{chained_more}
use Rattle.ref_rewrite.proofs.chained.chained_words.Goals as goal

pub loop-segment-preserved : goal.loop-segment-preserved
loop-segment-preserved c =
    chained_more c.args.moving.now.layout.now c.args.moving.now.number c.args.moving.now.segments.now c.args.words.now c.words_in-own.result.now c.loop-segment.segment-index c.segment-item.result c.loop-segment.offsets.items c.push_chained.new.offsets.items
    c.requires.belong (omega arith) c.segment-item.is c.words_in-own.ensures c.loop-segment.invariant c.in_ok-push_chained.ensures
