use Rattle.std.proofs.Common.{rules, ◌≡◌, ◌∙◌, ℕ, List, length, ap, subst}
use Rattle.std.specs.Prelude.{IfOk, IfErr}
use Rattle.linkedit_merge.specs.Indices.{pool_len}
use Rattle.linkedit_merge.specs.Sizes.{IsSize, Exceeds}
use Rattle.extractor.specs.ExtractOf.{linkedit_limit}
use Rattle.extractor.specs.Prepared.{names_in}
use Rattle.extractor.proofs.PreparedLaws.{sized}
use Rattle.extractor.proofs.linkedit.measure_tables.Goals as goal

pub returns-clause-size : goal.returns-clause-size
returns-clause-size c =
    let symbols : c.len.result ≡ length c.args.tables.now.symbols = search rules in
    let indirect : c.len-2.result ≡ length c.args.tables.now.indirect = search rules in
    let pool : c.args.pool.now.len ≡ pool_len (names_in c.args.tables.now) = c.requires.pool.long ∙ ap (λ (ns : List (List ℕ)). pool_len ns) c.requires.names in
    subst (λ (n : ℕ). IfOk c.measure.result (IsSize linkedit_limit n)) (sized c.args.image.now c.args.rebase c.len.result c.len-2.result c.args.pool.now.len c.args.tables.now symbols indirect pool) c.measure.ensures.size

pub returns-clause-cause : goal.returns-clause-cause
returns-clause-cause c =
    let symbols : c.len.result ≡ length c.args.tables.now.symbols = search rules in
    let indirect : c.len-2.result ≡ length c.args.tables.now.indirect = search rules in
    let pool : c.args.pool.now.len ≡ pool_len (names_in c.args.tables.now) = c.requires.pool.long ∙ ap (λ (ns : List (List ℕ)). pool_len ns) c.requires.names in
    subst (λ (n : ℕ). IfErr c.measure.result (Exceeds linkedit_limit n)) (sized c.args.image.now c.args.rebase c.len.result c.len-2.result c.args.pool.now.len c.args.tables.now symbols indirect pool) c.measure.ensures.cause
