use Rattle.std.proofs.Common.{◌≡◌, drop}
use Rattle.macho_image.specs.Addresses.{are_in_turn}
use Rattle.macho_image.proofs.shared.are_in_turn.Given as goal

abbrev pub invariant-loop-range : goal.invariant-loop-range
invariant-loop-range l = are_in_turn 0 l.ranges ≡ are_in_turn l.floor (drop l.range-index l.ranges)
