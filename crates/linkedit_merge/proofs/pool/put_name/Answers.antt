use Rattle.std.proofs.Common.{◌∙◌, ap, sym, arith}
use Rattle.linkedit_merge.specs.Indices.{pool_len, names_of}
use Rattle.linkedit_merge.proofs.PoolLaws.{put_there, put_last, pool_len-push, not_pooled}
use Rattle.linkedit_merge.proofs.pool.put_name.Goals as goal

pub returns-then-is_pooled-clause-names : goal.returns-then-is_pooled-clause-names
returns-then-is_pooled-clause-names c = sym (put_there (names_of c.args.pool.now) c.args.name.now (sym c.is_pooled.ensures ∙ c.if-is_pooled.true))

pub returns-then-end-limit-clause-cause : goal.returns-then-end-limit-clause-cause
returns-then-end-limit-clause-cause c =
    let pool = names_of c.args.pool.now in
    let last = put_last pool c.args.name.now (sym c.is_pooled.ensures ∙ c.if-is_pooled.false) in
    omega (arith, ap pool_len last, pool_len-push pool c.args.name.now, c.requires.pool.long)

pub put_new-requires-clause-new : goal.put_new-requires-clause-new
put_new-requires-clause-new c = not_pooled (names_of c.args.pool.now) c.args.name.now (sym c.is_pooled.ensures ∙ c.if-is_pooled.false)

pub returns-clause-pool : goal.returns-clause-pool
returns-clause-pool c =
    let pool = names_of c.args.pool.now in
    record {
      indexed = c.in_ok-put_new.ensures.indexed;
      long = omega (arith, ap pool_len c.in_ok-put_new.ensures.names, pool_len-push pool c.args.name.now, c.requires.pool.long);
      low = omega arith;
    }

pub returns-clause-names : goal.returns-clause-names
returns-clause-names c =
    c.in_ok-put_new.ensures.names ∙ sym (put_last (names_of c.args.pool.now) c.args.name.now (sym c.is_pooled.ensures ∙ c.if-is_pooled.false))
