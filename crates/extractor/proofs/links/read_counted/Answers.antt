use Rattle.std.proofs.Common.{◌≡◌, ◌+◌, List, sym, ap, ap₂, subst, ◌∙◌}
use Rattle.std.specs.Prelude.{Option}
use Rattle.dsc_base.specs.declared.fault.Site.{Site}
use Rattle.dsc_base.specs.Refusals.{IsRefusal}
use Rattle.export_trie.specs.declared.export.Export.{Export}
use Rattle.prebind.specs.Sets.{StreamLists}
use Rattle.load_model.specs.Sums.{count_in, bytes_in, sums_break}
use Rattle.extractor.proofs.links.read_counted.Goals as goal

pub returns-in-Err-clause-cause : goal.returns-in-Err-clause-cause
returns-in-Err-clause-cause c =
    let same =
    ap₂ (λ (s : StreamLists) (es : List Export). sums_break (c.args.before.records + count_in s) (c.args.before.names + bytes_in es)) c.in_ok-streams.ensures (c.deref.ensures.value ∙ c.in_ok-exports.ensures) in
    subst (λ (o : Option Site). IsRefusal o c.in-Err.fault) same c.in-Err.ensures.cause

pub returns-clause-records : goal.returns-clause-records
returns-clause-records c = c.in-Ok.ensures.records ∙ ap (λ (s : StreamLists). c.args.before.records + count_in s) c.in_ok-streams.ensures

pub returns-clause-names : goal.returns-clause-names
returns-clause-names c = c.in-Ok.ensures.names ∙ ap (λ (es : List Export). c.args.before.names + bytes_in es) (c.deref.ensures.value ∙ c.in_ok-exports.ensures)

pub returns-clause-cause : goal.returns-clause-cause
returns-clause-cause c =
    let same =
    ap₂ (λ (s : StreamLists) (es : List Export). sums_break (c.args.before.records + count_in s) (c.args.before.names + bytes_in es)) c.in_ok-streams.ensures (c.deref.ensures.value ∙ c.in_ok-exports.ensures) in
    sym same ∙ c.in-Ok.ensures.cause
