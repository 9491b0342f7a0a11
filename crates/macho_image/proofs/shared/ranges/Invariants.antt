use Rattle.std.proofs.Common.{◌≡◌, ◌++◌, drop}
use Rattle.macho_image.specs.Addresses.{ranges_of}
use Rattle.macho_image.proofs.shared.ranges.Given as goal

abbrev pub invariant-loop-segment : goal.invariant-loop-segment
invariant-loop-segment l = ranges_of l.segments ≡ l.ranges.items ++ ranges_of (drop l.segment-index l.segments)
