-- One more goes on with the run, or it ends.
use Rattle.std.proofs.Common.{◌≡◌, ◌∙◌, length, sym, arith}
use Rattle.rebase_ops.proofs.RunLaws.{follows-next, follows-ends, follows-all, no_place}
use Rattle.rebase_ops.proofs.write.followers.Goals as goal

pub loop-i-preserved : goal.loop-i-preserved
loop-i-preserved c =
    follows-next c.args.first c.args.rest.now c.loop-i.i c.loop-i.last no_place c.loop-i.invariant c.loop-i-test.true (sym c.is_next.ensures ∙ c.if-not-is_next.false)

pub returns-then-not-is_next-clause-run : goal.returns-then-not-is_next-clause-run
returns-then-not-is_next-clause-run c =
    follows-ends c.args.first c.args.rest.now c.loop-i.i c.loop-i.last no_place c.loop-i.invariant c.loop-i-test.true (sym c.is_next.ensures ∙ c.if-not-is_next.true)

pub returns-clause-run : goal.returns-clause-run
returns-clause-run c =
    let end : c.loop-i.i ≡ length c.args.rest.now = omega arith in
    follows-all c.args.first c.args.rest.now c.loop-i.i c.loop-i.last c.loop-i.invariant end
