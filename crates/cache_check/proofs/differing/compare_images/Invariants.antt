use Rattle.std.proofs.Common.{◌≡◌, None}
use Rattle.prebind.specs.Steps.{set_of}
use Rattle.cache_check.specs.Firsts.{first_below}
use Rattle.cache_check.specs.Steps.Sides.{chain_view}
use Rattle.cache_check.specs.Verdict.{image_difference}
use Rattle.cache_check.proofs.differing.compare_images.Given as goal

abbrev pub invariant-loop-number : goal.invariant-loop-number
invariant-loop-number l = first_below (image_difference (chain_view l.chains) l.cached (set_of l.set)) l.number ≡ None
