-- The symbols so far have fields of their widths.
use Rattle.std.proofs.Common.{◌<◌, ℕ, get_or}
use Rattle.nlist_table.specs.Symbols.{Sym}
use Rattle.linkedit_merge.specs.ReadBack.{FitsSymbol}
use Rattle.linkedit_merge.proofs.fields.read_symbols.Given as goal

abbrev pub invariant-loop-symbol : goal.invariant-loop-symbol
invariant-loop-symbol l = (k : ℕ) (d : Sym) → k < l.symbol-index → FitsSymbol (get_or l.symbols k d)
