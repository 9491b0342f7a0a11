-- The names so far, and those that are left.
use Rattle.std.proofs.Common.{◌≡◌, drop, []}
use Rattle.std.specs.List.{flat_map}
use Rattle.linkedit_merge.specs.Pool.{pooled_behind, symbol_names}
use Rattle.linkedit_merge.specs.Indices.{names_of, IsPool}
use Rattle.linkedit_merge.proofs.pool.pool_of_all.Given as goal

abbrev pub invariant-loop-table : goal.invariant-loop-table
invariant-loop-table l = record {
  pool : IsPool l.limit l.pool;
  names : pooled_behind (names_of l.pool) (flat_map (λ t. flat_map symbol_names t.symbols) (drop l.table-index l.tables)) ≡ pooled_behind [] (flat_map (λ t. flat_map symbol_names t.symbols) l.tables);
}
