use Rattle.std.proofs.Common.{arith}
use Rattle.std.proofs.lemmas.Result.{err_from_is_err_and}
use Rattle.patch_table.proofs.TableLaws.{cached_are, own_are, cut_front, cut_back, table_told}
use Rattle.patch_table.proofs.BreakLaws.{refused_part, found_none}
use Rattle.patch_table.proofs.reading.read_told.Goals as goal

pub returns-in_err-cached-clause-refuses : goal.returns-in_err-cached-clause-refuses
returns-in_err-cached-clause-refuses c =
    let p = err_from_is_err_and c.from_residual.result c.from_residual.ensures.1 in
    rw (p.1, p.2) (refused_part _ _ c.in_err-cached.field-0.0
    (λ (t, spells). (t.cached, cached_are t c.args.bytes.now _ spells (cut_front c.args.bytes.now _ c.get_u32.result c.split_at.ensures.front c.get_u32.ensures)))
    c.in_err-cached.ensures.refuses)

pub returns-in_err-own-clause-refuses : goal.returns-in_err-own-clause-refuses
returns-in_err-own-clause-refuses c =
    let p = err_from_is_err_and c.from_residual-in_err-own.result c.from_residual-in_err-own.ensures.1 in
    rw (p.1, p.2) (refused_part _ _ c.in_err-own.field-0.0
    (λ (t, spells). (t.own, own_are t c.args.bytes.now _ spells (cut_back c.args.bytes.now _ c.get_u32.result c.split_at.ensures.back c.get_u32.ensures)))
    c.in_err-own.ensures.refuses)

pub returns-clause-spelled : goal.returns-clause-spelled
returns-clause-spelled c =
    table_told c.args.bytes.now c.sixteen.result c.get_u32-2.result c.get_u32-3.result c.in_ok-cached.cached.items c.in_ok-own.own.items _ _
    (λ k. omega (arith, c.type_inv.bytes k)) c.requires c.sixteen.ensures c.get_u32-2.ensures c.get_u32-3.ensures
    (cut_front c.args.bytes.now _ c.get_u32.result c.split_at.ensures.front c.get_u32.ensures)
    (cut_back c.args.bytes.now _ c.get_u32.result c.split_at.ensures.back c.get_u32.ensures)
    c.in_ok-cached.ensures.records c.in_ok-own.ensures.records

pub returns-clause-refuses : goal.returns-clause-refuses
returns-clause-refuses c = λ found is.
    found_none _ found is (
      _,
      (table_told c.args.bytes.now c.sixteen.result c.get_u32-2.result c.get_u32-3.result c.in_ok-cached.cached.items c.in_ok-own.own.items _ _
          (λ k. omega (arith, c.type_inv.bytes k)) c.requires c.sixteen.ensures c.get_u32-2.ensures c.get_u32-3.ensures
          (cut_front c.args.bytes.now _ c.get_u32.result c.split_at.ensures.front c.get_u32.ensures)
          (cut_back c.args.bytes.now _ c.get_u32.result c.split_at.ensures.back c.get_u32.ensures)
          c.in_ok-cached.ensures.records c.in_ok-own.ensures.records),
    )
