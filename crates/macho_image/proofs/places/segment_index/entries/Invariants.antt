use Rattle.std.proofs.Common.{◌≡◌, ◌++◌, drop}
use Rattle.macho_image.specs.Index.{entries_from}
use Rattle.macho_image.proofs.places.segment_index.entries.Given as goal

abbrev pub invariant-loop-number : goal.invariant-loop-number
invariant-loop-number l = entries_from 0 l.segments ≡ l.entries.items ++ entries_from l.number (drop l.number l.segments)
