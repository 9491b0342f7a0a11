use Rattle.std.proofs.Common.{◌∙◌, sym, subst, Option}
use Rattle.dsc_base.specs.declared.fault.Finding.{Finding}
use Rattle.std.proofs.lemmas.Result.{err_from_is_err_and}
use Rattle.cache_header.specs.Findings.{head_finding}
use Rattle.dsc_base.specs.Refusals.{IsViewRefusal}
use Rattle.cache_header.proofs.FindingLaws.{finding-not_cache, finding-short, finding-outside, finding-names}
use Rattle.cache_header.proofs.reading.read_cache_head.Goals as goal

pub returns-then-not-is_cache-clause-cause : goal.returns-then-not-is_cache-clause-cause
returns-then-not-is_cache-clause-cause c =
    subst (IsViewRefusal (head_finding c.args.bytes.now)) (sym c.found.ensures) (finding-not_cache c.args.bytes.now (sym c.is_cache.ensures ∙ c.if-not-is_cache.true))

pub returns-then-not-has_header-clause-cause : goal.returns-then-not-has_header-clause-cause
returns-then-not-has_header-clause-cause c =
    subst (IsViewRefusal (head_finding c.args.bytes.now)) (sym c.found-then-not-has_header.ensures)
    (finding-short c.args.bytes.now (sym c.is_cache.ensures ∙ c.if-not-is_cache.false) (sym c.has_header.ensures.test ∙ c.if-not-has_header.true))

pub returns-in-Some-clause-cause : goal.returns-in-Some-clause-cause
returns-in-Some-clause-cause c =
    subst (IsViewRefusal (head_finding c.args.bytes.now)) (sym c.found-in-Some.ensures)
    (finding-outside c.args.bytes.now c.in-Some.at (sym c.is_cache.ensures ∙ c.if-not-is_cache.false) (sym c.has_header.ensures.test ∙ c.if-not-has_header.false)
    (sym c.table_outside.ensures.test ∙ c.in-Some.is))

pub returns-in_err-head-clause-cause : goal.returns-in_err-head-clause-cause
returns-in_err-head-clause-cause c =
    let names = finding-names c.args.bytes.now (sym c.is_cache.ensures ∙ c.if-not-is_cache.false) (sym c.has_header.ensures.test ∙ c.if-not-has_header.false)
    (sym c.table_outside.ensures.test ∙ c.in_default.is) in
    let p = err_from_is_err_and c.from_residual.result c.from_residual.ensures.1 in
    rw (p.1, p.2) (subst (λ (found : Option Finding). IsViewRefusal found c.in_err-head.field-0.0) (sym names) c.in_err-head.ensures.cause)

pub returns-clause-sound : goal.returns-clause-sound
returns-clause-sound c =
    finding-names c.args.bytes.now (sym c.is_cache.ensures ∙ c.if-not-is_cache.false) (sym c.has_header.ensures.test ∙ c.if-not-has_header.false)
    (sym c.table_outside.ensures.test ∙ c.in_default.is)
    ∙ c.in_ok-head.ensures.named
