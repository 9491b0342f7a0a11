use Rattle.std.proofs.Common.{◌≡◌, None, map}
use Rattle.cache_check.specs.Differences.{moved_export, other_at}
use Rattle.cache_check.specs.Firsts.{first_below}
use Rattle.cache_check.specs.Steps.Moving.{moved_by}
use Rattle.cache_check.proofs.exports.first_other.Given as goal

abbrev pub invariant-loop-index : goal.invariant-loop-index
invariant-loop-index l = first_below (other_at l.found (map (moved_export (moved_by l.moving)) l.wanted)) l.index ≡ None
