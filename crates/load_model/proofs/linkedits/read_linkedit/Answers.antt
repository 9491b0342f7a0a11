use Rattle.std.proofs.Common.{◌+◌, List, refl, sym, ap, ap₂, subst, ◌∙◌}
use Rattle.std.specs.Prelude.{Option}
use Rattle.dsc_base.specs.declared.fault.Site.{Site}
use Rattle.dsc_base.specs.Refusals.{IsRefusal}
use Rattle.export_trie.specs.declared.export.Export.{Export}
use Rattle.prebind.specs.Sets.{StreamLists}
use Rattle.load_model.specs.Sums.{count_in, bytes_in, record_count, name_bytes, sums_break}
use Rattle.load_model.proofs.LinkeditLaws.{linkedit_none, linkedit_refused}
use Rattle.load_model.proofs.linkedits.read_linkedit.Goals as goal

pub returns-in-Err-clause-cause : goal.returns-in-Err-clause-cause
returns-in-Err-clause-cause c =
    let same =
    ap₂ (λ (s : StreamLists) (es : List Export). sums_break (c.args.before.records + count_in s) (c.args.before.names + bytes_in es)) c.in_ok-streams.ensures.lists (c.deref.ensures.value ∙ c.in_ok-streams.ensures.exports) in
    linkedit_refused c.args.before.records c.args.before.names c.args.image.now c.in-Err.fault c.in_ok-streams.ensures.cause c.in_ok-tables.ensures.cause
    (subst (λ (o : Option Site). IsRefusal o c.in-Err.fault) same c.in-Err.ensures.cause)

pub returns-clause-records : goal.returns-clause-records
returns-clause-records c = c.in-Ok.ensures.records ∙ ap (λ (s : StreamLists). c.args.before.records + count_in s) c.in_ok-streams.ensures.lists

pub returns-clause-names : goal.returns-clause-names
returns-clause-names c = c.in-Ok.ensures.names ∙ ap (λ (es : List Export). c.args.before.names + bytes_in es) (c.deref.ensures.value ∙ c.in_ok-streams.ensures.exports)

pub returns-clause-cause : goal.returns-clause-cause
returns-clause-cause c =
    let same =
    ap₂ (λ (s : StreamLists) (es : List Export). sums_break (c.args.before.records + count_in s) (c.args.before.names + bytes_in es)) c.in_ok-streams.ensures.lists (c.deref.ensures.value ∙ c.in_ok-streams.ensures.exports) in
    linkedit_none c.args.before.records c.args.before.names (c.args.before.records + record_count c.args.image.now) (c.args.before.names + name_bytes c.args.image.now) c.args.image.now c.in_ok-streams.ensures.cause c.in_ok-tables.ensures.cause
    refl refl (sym same ∙ c.in-Ok.ensures.cause)
