use Rattle.std.proofs.Common.{ap, sym, subst, ◌∙◌}
use Rattle.std.specs.Prelude.{Option}
use Rattle.dsc_base.specs.Refusals.{IsViewRefusal}
use Rattle.dsc_base.specs.declared.fault.Finding.{Finding}
use Rattle.dsc_base.specs.declared.fault.Site.{Site}
use Rattle.dsc_base.specs.declared.finding_kind.FindingKind.TheVariants.{StreamBroken}
use Rattle.cache_check.specs.Images.{rule_finding, linkedit_break, stream_finding}
use Rattle.cache_check.proofs.EachLaws.{rule_refused, found_at}
use Rattle.cache_check.proofs.ImageLaws.{rebased_found, unrebased}
use Rattle.cache_check.proofs.streams.check_image.Goals as goal

pub returns-then-is_rebased : goal.returns-then-is_rebased
returns-then-is_rebased c =
    found_at (stream_finding c.args.number c.args.image.now) StreamBroken c.args.number 21 c.from.result c.found.result
    (rebased_found c.args.number c.args.image.now (sym c.is_rebased.ensures ∙ c.if-is_rebased.true)) (c.from.ensures ∙ c.number.ensures) c.found.ensures

pub returns-in-Ok : goal.returns-in-Ok
returns-in-Ok c =
    unrebased c.args.number c.args.image.now (sym c.is_rebased.ensures ∙ c.if-is_rebased.false) ∙ ap (λ (o : Option Site). rule_finding StreamBroken c.args.number o) c.in-Ok.ensures

pub returns-in-Err : goal.returns-in-Err
returns-in-Err c =
    subst (λ (o : Option Finding). IsViewRefusal o c.rule_found.result) (sym (unrebased c.args.number c.args.image.now (sym c.is_rebased.ensures ∙ c.if-is_rebased.false)))
    (rule_refused StreamBroken c.args.number (linkedit_break c.args.image.now) c.in-Err.fault c.rule_found.result c.in-Err.ensures c.rule_found.ensures)
