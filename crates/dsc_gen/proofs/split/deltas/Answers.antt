-- Each turn adds one delta.
use Rattle.dsc_gen.specs.Split.{deltas_from}
use Rattle.dsc_gen.proofs.ListingLaws.{listed_all}
use Rattle.dsc_gen.proofs.WordLaws.{listed_deltas}
use Rattle.std.proofs.Common.{refl}
use Rattle.dsc_gen.proofs.split.deltas.Goals as goal

pub loop-i-preserved : goal.loop-i-preserved
loop-i-preserved c = listed_deltas c.args.size c.args.targets.now c.loop-i.i _ _ _ c.loop-i-test.true c.loop-i.invariant c.in_ok-push.ensures.items

pub returns : goal.returns
returns c = listed_all (deltas_from c.args.size) (λ _. refl) c.loop-i.i c.args.targets.now c.loop-i.i _ _ c.loop-i-test.false c.loop-i.invariant
