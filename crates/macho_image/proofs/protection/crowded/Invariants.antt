use Rattle.std.proofs.Common.{◌≡◌, ◌≤◌, ◌-◌, drop}
use Rattle.macho_image.specs.Rules.{first_crowded}
use Rattle.macho_image.proofs.protection.crowded.Given as goal

abbrev pub invariant-loop-segment : goal.invariant-loop-segment
invariant-loop-segment l = (l.left ≤ 255) × (first_crowded 0 l.segments ≡ first_crowded (255 - l.left) (drop l.segment-index l.segments))
