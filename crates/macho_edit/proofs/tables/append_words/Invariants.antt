use Rattle.std.proofs.Common.{◌≡◌, ◌++◌, drop}
use Rattle.macho_edit.specs.Tables.{words}
use Rattle.macho_edit.proofs.tables.append_words.Given as goal

-- what is written, and then the numbers that are left, are all numbers
abbrev pub invariant-loop-number : goal.invariant-loop-number
invariant-loop-number l = l.out.items ++ words (drop l.number-index l.numbers) ≡ l.fn.out.items ++ words l.numbers
