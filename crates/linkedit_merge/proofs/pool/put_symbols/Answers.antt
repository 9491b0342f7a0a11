use Rattle.std.proofs.Common.{◌∙◌, ap, sym, ℕ, List, drop, ◌+◌, arith}
use Rattle.std.specs.List.{flat_map}
use Rattle.linkedit_merge.specs.Pool.{pooled_behind, symbol_names}
use Rattle.linkedit_merge.specs.Indices.{names_of, pool_len}
use Rattle.linkedit_merge.proofs.SizeLaws.{exceeds_exit}
use Rattle.linkedit_merge.proofs.PoolLaws.{pooled-rises, names_more, names_all}
use Rattle.linkedit_merge.proofs.pool.put_symbols.Goals as goal

pub loop-symbol-preserved : goal.loop-symbol-preserved
loop-symbol-preserved c =
    let old = names_of c.loop-symbol.pool in
    let rest = flat_map symbol_names (drop (c.loop-symbol.symbol-index + 1) c.args.symbols.now) in
    record {
      pool = c.in_ok-put_symbol.ensures.pool;
      names =
          ap (λ (l : List (List ℕ)). pooled_behind l rest) c.in_ok-put_symbol.ensures.names
          ∙ (sym (names_more symbol_names old c.args.symbols.now c.loop-symbol.symbol-index c.symbol-item.result c.loop-symbol-test.true c.symbol-item.is)
          ∙ c.loop-symbol.invariant.names);
    }

pub returns-in_err-put_symbol-clause-cause : goal.returns-in_err-put_symbol-clause-cause
returns-in_err-put_symbol-clause-cause c =
    let old = names_of c.loop-symbol.pool in
    let next = pooled_behind old (symbol_names c.symbol-item.result) in
    let rest = flat_map symbol_names (drop (c.loop-symbol.symbol-index + 1) c.args.symbols.now) in
    let whole = sym c.loop-symbol.invariant.names ∙ names_more symbol_names old c.args.symbols.now c.loop-symbol.symbol-index c.symbol-item.result c.loop-symbol-test.true c.symbol-item.is in
    exceeds_exit c.args.limit (pool_len next) (pool_len (pooled_behind (names_of c.args.pool.now) (flat_map symbol_names c.args.symbols.now))) c.from_residual.result c.in_err-put_symbol.field-0.0
    (omega (arith, ap pool_len whole, pooled-rises next rest)) c.from_residual.ensures.1 c.in_err-put_symbol.ensures.cause

pub returns-clause-names : goal.returns-clause-names
returns-clause-names c =
    sym (names_all symbol_names (names_of c.loop-symbol.pool) c.args.symbols.now c.loop-symbol.symbol-index c.loop-symbol-test.false) ∙ c.loop-symbol.invariant.names
