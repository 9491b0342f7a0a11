use Rattle.std.proofs.Common.{◌≡◌, ◌∙◌, sym, subst}
use Rattle.std.proofs.lemmas.Result.{err_from_is_err_and}
use Rattle.patch_table.specs.Spelling.{Rises}
use Rattle.patch_table.proofs.RecordLaws.{records_same}
use Rattle.patch_table.proofs.BreakLaws.{refused_misshapen, refused_part}
use Rattle.patch_table.proofs.reading.read_records.Goals as goal

pub returns-in_err-records-clause-refuses : goal.returns-in_err-records-clause-refuses
returns-in_err-records-clause-refuses c =
    let p = err_from_is_err_and c.from_residual.result c.from_residual.ensures.1 in
    rw (p.1, p.2) (refused_part _ _ c.in_err-records.field-0.0 (λ (rs, are). (rs, are.spelt)) c.in_err-records.ensures.refuses)

pub returns-then-not-rise-clause-refuses : goal.returns-then-not-rise-clause-refuses
returns-then-not-rise-clause-refuses c =
    let spelt = c.in_ok-records.ensures.records in
    refused_misshapen _ c.misshapen.result c.misshapen.ensures
    (λ (rs, are).
    let same : rs ≡ c.in_ok-records.records.items = records_same rs c.in_ok-records.records.items are.spelt.fit spelt.fit (are.spelt.exact ∙ sym spelt.exact) in
    c.rise.ensures.no c.if-not-rise.true (subst Rises (same ∙ sym c.deref.ensures.value) are.rise))
