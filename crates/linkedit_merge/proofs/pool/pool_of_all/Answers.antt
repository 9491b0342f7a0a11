use Rattle.std.proofs.Common.{◌≡◌, ◌∙◌, ap, sym, ℕ, List, [], drop, ◌+◌, arith}
use Rattle.std.specs.List.{flat_map}
use Rattle.nlist_table.specs.Symbols.{Sym, Tabs}
use Rattle.linkedit_merge.specs.Pool.{pooled_behind, symbol_names}
use Rattle.linkedit_merge.specs.Indices.{names_of, pool_len}
use Rattle.linkedit_merge.proofs.SizeLaws.{exceeds_exit}
use Rattle.linkedit_merge.proofs.PoolLaws.{pooled-rises, names_more, names_all, names_within}
use Rattle.linkedit_merge.proofs.pool.pool_of_all.Goals as goal

abbrev names : Tabs → List (List ℕ)
names t = flat_map symbol_names t.symbols

pub loop-table-preserved : goal.loop-table-preserved
loop-table-preserved c =
    let old = names_of c.loop-table.pool in
    let own = c.deref.ensures.value ∙ ap (λ (t : Tabs). t.symbols) c.table.view_is in
    record {
      pool = c.in_ok-put_symbols.ensures.pool;
      names =
          ap (λ (l : List (List ℕ)). pooled_behind l (flat_map names (drop (c.loop-table.table-index + 1) c.args.tables.now)))
          (c.in_ok-put_symbols.ensures.names ∙ ap (λ (ss : List Sym). pooled_behind old (flat_map symbol_names ss)) own)
          ∙ (sym (names_more names old c.args.tables.now c.loop-table.table-index c.table-item.result c.loop-table-test.true c.table-item.is)
          ∙ c.loop-table.invariant.names);
    }

pub returns-in_err-put_symbols-clause-cause : goal.returns-in_err-put_symbols-clause-cause
returns-in_err-put_symbols-clause-cause c =
    let old = names_of c.loop-table.pool in
    let own = c.deref.ensures.value ∙ ap (λ (t : Tabs). t.symbols) c.table.view_is in
    let next = pooled_behind old (flat_map symbol_names c.deref.result.now) in
    let rest = flat_map names (drop (c.loop-table.table-index + 1) c.args.tables.now) in
    let whole : pooled_behind [] (flat_map symbol_names (flat_map (λ (t : Tabs). t.symbols) c.args.tables.now)) ≡ pooled_behind next rest =
    ap (λ (l : List (List ℕ)). pooled_behind [] l) (names_within symbol_names (λ (t : Tabs). t.symbols) c.args.tables.now)
    ∙ (sym c.loop-table.invariant.names
    ∙ (names_more names old c.args.tables.now c.loop-table.table-index c.table-item.result c.loop-table-test.true c.table-item.is
    ∙ ap (λ (ss : List Sym). pooled_behind (pooled_behind old (flat_map symbol_names ss)) rest) (sym own))) in
    exceeds_exit c.args.limit (pool_len next) (pool_len (pooled_behind [] (flat_map symbol_names (flat_map (λ (t : Tabs). t.symbols) c.args.tables.now)))) c.from_residual.result c.in_err-put_symbols.field-0.0
    (omega (arith, ap pool_len whole, pooled-rises next rest)) c.from_residual.ensures.1 c.in_err-put_symbols.ensures.cause

pub returns-clause-names : goal.returns-clause-names
returns-clause-names c =
    sym (names_all names (names_of c.loop-table.pool) c.args.tables.now c.loop-table.table-index c.loop-table-test.false)
    ∙ (c.loop-table.invariant.names
    ∙ ap (λ (l : List (List ℕ)). pooled_behind [] l) (sym (names_within symbol_names (λ (t : Tabs). t.symbols) c.args.tables.now)))
