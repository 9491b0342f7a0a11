use Rattle.std.proofs.Common.{◌≡◌, ◌≤◌, ◌<◌, ◌-◌, [], take, length, true, false}
use Rattle.std.specs.Prelude.{is_none}
use Rattle.macho_image.specs.Rules.{first_crossing}
use Rattle.macho_image.proofs.shared.first_crossing.Given as goal

abbrev pub invariant-loop-crossing : goal.invariant-loop-crossing
invariant-loop-crossing l =
    (l.apart < l.crossing) × (l.crossing ≤ length l.segments)
    × (is_none (first_crossing [] (take l.apart l.segments)) ≡ true) × (is_none (first_crossing [] (take l.crossing l.segments)) ≡ false)

abbrev pub decreases-loop-crossing : goal.decreases-loop-crossing
decreases-loop-crossing l = l.crossing - l.apart
