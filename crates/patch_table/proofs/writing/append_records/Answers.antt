use Rattle.std.proofs.Common.{◌∙◌, ◌++◌, sym, ap, subst, List, All}
use Rattle.std.specs.List.{flat_map}
use Rattle.std.proofs.lemmas.List.{append-nil, take_all}
use Rattle.std.proofs.lemmas.List.Elements.{All-nil, All-more}
use Rattle.patch_table.specs.declared.patches.Record.{Record}
use Rattle.patch_table.specs.Spelling.{record_bytes, FitsRecord}
use Rattle.patch_table.proofs.RecordLaws.{records_more}
use Rattle.patch_table.proofs.writing.append_records.Goals as goal

pub loop-record-init : goal.loop-record-init
loop-record-init c = (sym (append-nil c.args.out.now.items), All-nil FitsRecord)

pub loop-record-preserved : goal.loop-record-preserved
loop-record-preserved c = (
  c.in_ok-append_record.ensures.bytes ∙ records_more c.args.records.now c.loop-record.record-index _ c.args.out.now.items c.loop-record.out.items c.loop-record-test.true c.loop-record.invariant.0,
  All-more FitsRecord c.args.records.now c.loop-record.record-index _ c.loop-record-test.true c.loop-record.invariant.1 c.append_record.ensures.fits,
)

pub returns-clause-bytes : goal.returns-clause-bytes
returns-clause-bytes c =
    c.loop-record.invariant.0
    ∙ ap (λ (l : List Record). c.args.out.now.items ++ flat_map record_bytes l) (take_all c.loop-record.record-index c.args.records.now c.loop-record-test.false)

pub returns-clause-fit : goal.returns-clause-fit
returns-clause-fit c =
    subst (All FitsRecord) (take_all c.loop-record.record-index c.args.records.now c.loop-record-test.false) c.loop-record.invariant.1
