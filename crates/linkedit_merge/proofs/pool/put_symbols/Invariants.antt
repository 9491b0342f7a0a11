-- The names so far, and those that are left.
use Rattle.std.proofs.Common.{◌≡◌, drop}
use Rattle.std.specs.List.{flat_map}
use Rattle.linkedit_merge.specs.Pool.{pooled_behind, symbol_names}
use Rattle.linkedit_merge.specs.Indices.{names_of, IsPool}
use Rattle.linkedit_merge.proofs.pool.put_symbols.Given as goal

abbrev pub invariant-loop-symbol : goal.invariant-loop-symbol
invariant-loop-symbol l = record {
  pool : IsPool l.limit l.pool;
  names : pooled_behind (names_of l.pool) (flat_map symbol_names (drop l.symbol-index l.symbols)) ≡ pooled_behind (names_of l.initial.pool) (flat_map symbol_names l.symbols);
}
