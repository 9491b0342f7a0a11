use Rattle.std.proofs.Common.{◌≡◌, None}
use Rattle.cache_check.specs.Differences.{path_difference}
use Rattle.cache_check.specs.Firsts.{first_below}
use Rattle.cache_check.proofs.comparing.compare_paths.Given as goal

abbrev pub invariant-loop-number : goal.invariant-loop-number
invariant-loop-number l = first_below (path_difference l.entries l.files) l.number ≡ None
