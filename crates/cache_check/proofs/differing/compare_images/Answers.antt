use Rattle.std.proofs.Common.{length, sym, ◌∙◌}
use Rattle.prebind.specs.Steps.{set_of}
use Rattle.cache_check.specs.Steps.Sides.{chain_view}
use Rattle.cache_check.specs.Verdict.{image_difference}
use Rattle.cache_check.proofs.FirstLaws.{none_below, none_more, found_here}
use Rattle.cache_check.proofs.differing.compare_images.Goals as goal

pub loop-number-init : goal.loop-number-init
loop-number-init c = none_below (image_difference (chain_view c.args.chains) c.args.cached.now (set_of c.args.set.now))

pub returns-in-Some : goal.returns-in-Some
returns-in-Some c =
    found_here (image_difference (chain_view c.args.chains) c.args.cached.now (set_of c.args.set.now)) c.loop-number.number (length c.args.set.now.images.now) c.in_ok-found.field-0 c.in-Some.found c.loop-number.invariant c.loop-number-test.true
    c.in_ok-found.ensures c.in-Some.is

pub loop-number-preserved : goal.loop-number-preserved
loop-number-preserved c =
    none_more (image_difference (chain_view c.args.chains) c.args.cached.now (set_of c.args.set.now)) c.loop-number.number c.loop-number.invariant (sym c.in_ok-found.ensures ∙ c.in_default.is)
