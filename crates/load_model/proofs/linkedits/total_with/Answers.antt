use Rattle.std.proofs.Common.{◌+◌, sym, subst, ◌∙◌, arith}
use Rattle.std.specs.Prelude.{Option}
use Rattle.dsc_base.specs.declared.fault.Site.{Site}
use Rattle.dsc_base.specs.Refusals.{IsRefusal}
use Rattle.load_model.specs.Sums.{count_in, bytes_in}
use Rattle.load_model.proofs.SumLaws.{capped_sums, few_sums, exact_sum}
use Rattle.load_model.proofs.linkedits.total_with.Goals as goal

pub returns-in-Err-clause-cause : goal.returns-in-Err-clause-cause
returns-in-Err-clause-cause c =
    subst (λ (o : Option Site). IsRefusal o c.in-Err.fault)
    (capped_sums (c.args.before.records + count_in c.args.streams.now) (c.args.before.names + bytes_in c.args.exports.now) c.records_with-records.result c.names_with-names.result c.records_with-records.ensures c.names_with-names.ensures) c.in-Err.ensures

pub returns-in-Ok-clause-records : goal.returns-in-Ok-clause-records
returns-in-Ok-clause-records c =
    let few = few_sums c.records_with-records.result c.names_with-names.result c.in-Ok.ensures in
    exact_sum c.records_with-records.result (c.args.before.records + count_in c.args.streams.now) c.records_with-records.ensures (omega (arith, few.records))

pub returns-in-Ok-clause-names : goal.returns-in-Ok-clause-names
returns-in-Ok-clause-names c =
    let few = few_sums c.records_with-records.result c.names_with-names.result c.in-Ok.ensures in
    exact_sum c.names_with-names.result (c.args.before.names + bytes_in c.args.exports.now) c.names_with-names.ensures (omega (arith, few.names))

pub returns-in-Ok-clause-few : goal.returns-in-Ok-clause-few
returns-in-Ok-clause-few c = (few_sums c.records_with-records.result c.names_with-names.result c.in-Ok.ensures).records

pub returns-in-Ok-clause-short : goal.returns-in-Ok-clause-short
returns-in-Ok-clause-short c = (few_sums c.records_with-records.result c.names_with-names.result c.in-Ok.ensures).names

pub returns-in-Ok-clause-cause : goal.returns-in-Ok-clause-cause
returns-in-Ok-clause-cause c =
    sym (capped_sums (c.args.before.records + count_in c.args.streams.now) (c.args.before.names + bytes_in c.args.exports.now) c.records_with-records.result c.names_with-names.result c.records_with-records.ensures c.names_with-names.ensures) ∙ c.in-Ok.ensures
