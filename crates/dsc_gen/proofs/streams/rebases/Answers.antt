-- Each turn appends the opcodes of one pointer.
use Rattle.dsc_gen.proofs.WordLaws.{listed_rebases, all_rebases}
use Rattle.dsc_gen.proofs.streams.rebases.Goals as goal

pub loop-i-preserved : goal.loop-i-preserved
loop-i-preserved c = listed_rebases c.args.pointers c.loop-i.i _ _ _ c.loop-i-test.true c.loop-i.invariant c.in_ok-put_rebase.ensures

pub returns : goal.returns
returns c = all_rebases c.args.pointers c.loop-i.i _ _ c.loop-i-test.false c.loop-i.invariant c.in_ok-push-2.ensures.items
