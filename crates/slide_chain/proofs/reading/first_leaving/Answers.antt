use Rattle.std.proofs.Common.{sym, ap, refl}
use Rattle.slide_chain.specs.Chains.{leaving, lowest, each_page}
use Rattle.slide_chain.proofs.ReadLaws.{stays-more, leaves-here, leaves-nowhere}
use Rattle.slide_chain.proofs.reading.first_leaving.Goals as goal

pub loop-i-init : goal.loop-i-init
unfolding each_page
loop-i-init c = refl

pub returns-in-Some : goal.returns-in-Some
unfolding leaving
returns-in-Some c = sym (leaves-here c.args.mask c.args.extras.now c.args.area.now c.args.starts.now c.loop-i.i c.in-Some.at c.loop-i-test.true c.in-Some.ensures.leaves c.loop-i.invariant)

pub loop-i-preserved : goal.loop-i-preserved
loop-i-preserved c = stays-more c.args.mask c.args.extras.now c.args.area.now c.args.starts.now c.loop-i.i c.loop-i-test.true c.in_default.ensures.stays c.loop-i.invariant

pub returns : goal.returns
unfolding leaving lowest
returns c = sym (ap lowest (leaves-nowhere c.args.mask c.args.extras.now c.args.area.now c.args.starts.now c.loop-i.i c.loop-i-test.false c.loop-i.invariant))
