use Rattle.std.proofs.Common.{◌≡◌, None}
use Rattle.cache_check.specs.Differences.{part_difference}
use Rattle.cache_check.specs.Firsts.{first_below}
use Rattle.cache_check.proofs.comparing.compare_shapes.Given as goal

abbrev pub invariant-loop-part : goal.invariant-loop-part
invariant-loop-part l = first_below (part_difference l.number l.found l.wanted) l.part ≡ None
