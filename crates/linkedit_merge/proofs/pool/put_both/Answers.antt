-- What exceeds the limit with a name does so with the other one.
use Rattle.std.proofs.Common.{◌≡◌, ◌∙◌, ap, sym, ℕ, List, Option, Some, None, arith}
use Rattle.std.specs.Borrow.{Bor}
use Rattle.std.specs.Prelude.{option_copied}
use Rattle.linkedit_merge.specs.Pool.{put_name, pooled_behind, alias_names}
use Rattle.linkedit_merge.specs.Indices.{names_of, pool_len}
use Rattle.linkedit_merge.proofs.SizeLaws.{exceeds_exit}
use Rattle.linkedit_merge.proofs.PoolLaws.{pooled-rises}
use Rattle.linkedit_merge.proofs.pool.put_both.Goals as goal

pub returns-in_err-put_name-clause-cause : goal.returns-in_err-put_name-clause-cause
unfolding pooled_behind
returns-in_err-put_name-clause-cause c =
    let first = put_name (names_of c.args.pool.now) c.args.name.now in
    exceeds_exit c.args.limit (pool_len first) (pool_len (pooled_behind first (alias_names (option_copied c.args.alias)))) c.from_residual.result c.in_err-put_name.field-0.0
    (pooled-rises first (alias_names (option_copied c.args.alias))) c.from_residual.ensures.1 c.in_err-put_name.ensures.cause

-- the name itself and then the other one
with_alias : (first : List (List ℕ)) (alias other : Option (Bor (List ℕ))) → alias ≡ other → pooled_behind first (alias_names (option_copied alias)) ≡ pooled_behind first (alias_names (option_copied other))
with_alias first alias other is = ap (λ (o : Option (Bor (List ℕ))). pooled_behind first (alias_names (option_copied o))) is

pub returns-in_err-put_name-2-clause-cause : goal.returns-in_err-put_name-2-clause-cause
unfolding pooled_behind
returns-in_err-put_name-2-clause-cause c =
    let old = names_of c.put_name.new.pool in
    let first = put_name (names_of c.args.pool.now) c.args.name.now in
    let whole : pooled_behind first (alias_names (option_copied c.args.alias)) ≡ put_name old c.in-Some.alias.now =
    with_alias first c.args.alias (Some c.in-Some.alias) c.in-Some.is ∙ ap (λ (l : List (List ℕ)). put_name l c.in-Some.alias.now) (sym c.in_ok-put_name.ensures.names) in
    exceeds_exit c.args.limit (pool_len (put_name old c.in-Some.alias.now)) (pool_len (pooled_behind first (alias_names (option_copied c.args.alias)))) c.from_residual-in_err-put_name-2.result c.in_err-put_name-2.field-0.0
    (omega (arith, ap pool_len whole)) c.from_residual-in_err-put_name-2.ensures.1 c.in_err-put_name-2.ensures.cause

pub returns-in_ok-put_name-2-clause-names : goal.returns-in_ok-put_name-2-clause-names
unfolding pooled_behind
returns-in_ok-put_name-2-clause-names c =
    let first = put_name (names_of c.args.pool.now) c.args.name.now in
    c.in_ok-put_name-2.ensures.names
    ∙ (ap (λ (l : List (List ℕ)). put_name l c.in-Some.alias.now) c.in_ok-put_name.ensures.names
    ∙ sym (with_alias first c.args.alias (Some c.in-Some.alias) c.in-Some.is))

pub returns-in_default-clause-names : goal.returns-in_default-clause-names
unfolding pooled_behind
returns-in_default-clause-names c =
    let first = put_name (names_of c.args.pool.now) c.args.name.now in
    c.in_ok-put_name.ensures.names ∙ sym (with_alias first c.args.alias None c.in_default.is)
