use Rattle.std.proofs.Common.{◌≡◌, take}
use Rattle.nlist_table.specs.Symbols.{symbols_of}
use Rattle.nlist_table.proofs.read.symbols.Given as goal

abbrev pub invariant-loop-entry : goal.invariant-loop-entry
invariant-loop-entry l = l.symbols.items ≡ symbols_of l.strings (take l.entry-index l.entries)
