-- Each turn appends one distance.
use Rattle.std.proofs.Common.{◌∙◌}
use Rattle.dsc_gen.proofs.SplitLaws.{no_delta, rises_more, rises_all}
use Rattle.dsc_gen.proofs.split.put_rises.Goals as goal

pub loop-delta-preserved : goal.loop-delta-preserved
loop-delta-preserved c =
    rises_more c.args.deltas.now no_delta c.loop-delta.delta-index c.loop-delta.last c.from.result c.loop-delta.out.items c.put_uleb.new.out.items _
    c.loop-delta-test.true (c.from.ensures ∙ c.saturating_sub.ensures) c.loop-delta.invariant c.in_ok-put_uleb.ensures.appended

pub returns : goal.returns
returns c = rises_all c.args.deltas.now c.loop-delta.delta-index c.loop-delta.last c.loop-delta.out.items _ c.loop-delta-test.false c.loop-delta.invariant
