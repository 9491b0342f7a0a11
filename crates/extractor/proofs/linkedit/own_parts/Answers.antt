-- The parts of a linkedit, and the exits where one is refused.
use Rattle.std.proofs.Common.{rules, ◌≡◌, ◌∙◌, ℕ, List, length, ap, arith}
use Rattle.linkedit_merge.specs.Indices.{pool_len}
use Rattle.nlist_table.specs.Symbols.{Tabs, tables_of}
use Rattle.linkedit_merge.proofs.SizeLaws.{exceeds_exit}
use Rattle.extractor.specs.ExtractOf.{rebase_stream, linkedit_of, linkedit_limit}
use Rattle.extractor.specs.Prepared.{names_in, table_size}
use Rattle.extractor.proofs.PreparedLaws.{all_below, size_is, whole_size}
use Rattle.extractor.proofs.linkedit.own_parts.Goals as goal

pub returns-in_err-pool-clause-cause : goal.returns-in_err-pool-clause-cause
returns-in_err-pool-clause-cause c =
    let t = tables_of c.args.image.now in
    let below = all_below c.args.image.now (length (rebase_stream c.args.image.now c.args.words.now)) (length t.symbols) (length t.indirect) (pool_len (names_in t)) in
    let same = ap (λ (u : Tabs). pool_len (names_in u)) c.in_ok-tables.ensures.tables in
    exceeds_exit linkedit_limit (pool_len (names_in c.in_ok-tables.tables)) (length (linkedit_of c.args.image.now c.args.words.now)) c.from_residual-in_err-pool.result c.in_err-pool.field-0.0
    (omega (arith, below.pool_below, same, size_is c.args.image.now c.args.words.now)) c.from_residual-in_err-pool.ensures.1 c.in_err-pool.ensures.cause

pub returns-in_err-size-clause-cause : goal.returns-in_err-size-clause-cause
returns-in_err-size-clause-cause c =
    let long : c.len.result ≡ length c.in_ok-rebase.rebase.items = search rules in
    let rebase : c.len.result ≡ length (rebase_stream c.args.image.now c.args.words.now) = long ∙ ap (λ (l : List ℕ). length l) c.in_ok-rebase.ensures in
    let size = whole_size c.args.image.now c.args.words.now c.len.result c.in_ok-tables.tables rebase c.in_ok-tables.ensures.tables in
    exceeds_exit linkedit_limit (table_size c.args.image.now c.len.result c.in_ok-tables.tables) (length (linkedit_of c.args.image.now c.args.words.now)) c.from_residual-in_err-size.result c.in_err-size.field-0.0
    (omega (arith, size)) c.from_residual-in_err-size.ensures.1 c.in_err-size.ensures.cause

pub returns-clause-parts : goal.returns-clause-parts
returns-clause-parts c =
    let long : c.len.result ≡ length c.in_ok-rebase.rebase.items = search rules in
    let rebase : c.len.result ≡ length (rebase_stream c.args.image.now c.args.words.now) = long ∙ ap (λ (l : List ℕ). length l) c.in_ok-rebase.ensures in
    let size = whole_size c.args.image.now c.args.words.now c.len.result c.in_ok-tables.tables rebase c.in_ok-tables.ensures.tables in
    record {
      rebase = c.in_ok-rebase.ensures;
      tables = c.in_ok-tables.ensures.tables;
      pool = c.in_ok-pool.ensures.pool;
      names = c.in_ok-pool.ensures.names ∙ ap names_in c.in_ok-tables.ensures.tables;
      size = c.in_ok-size.ensures.size.0 ∙ size;
    }

pub returns-clause-small : goal.returns-clause-small
returns-clause-small c =
    let long : c.len.result ≡ length c.in_ok-rebase.rebase.items = search rules in
    let rebase : c.len.result ≡ length (rebase_stream c.args.image.now c.args.words.now) = long ∙ ap (λ (l : List ℕ). length l) c.in_ok-rebase.ensures in
    let size = whole_size c.args.image.now c.args.words.now c.len.result c.in_ok-tables.tables rebase c.in_ok-tables.ensures.tables in
    omega (arith, size, c.in_ok-size.ensures.size.1)
