-- What the digits so far spell, which the rest goes on from.
use Rattle.std.proofs.Common.{◌≡◌, ◌<◌, drop}
use Rattle.dsc_tool.specs.WordNumbers.{digits_behind}
use Rattle.dsc_tool.proofs.NumberLaws.{tens}
use Rattle.dsc_tool.proofs.number.number_of.Given as goal

abbrev pub invariant-loop-byte : goal.invariant-loop-byte
invariant-loop-byte l = (digits_behind l.number (drop l.byte-index l.digits) ≡ digits_behind 0 l.digits) × (l.number < tens l.byte-index)
