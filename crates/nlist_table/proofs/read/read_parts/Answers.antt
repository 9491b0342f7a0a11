use Rattle.std.proofs.Common.{sym, ◌∙◌}
use Rattle.nlist_table.proofs.BreakLaws.{rules_kept, indices_inside}
use Rattle.nlist_table.proofs.read.read_parts.Goals as goal

pub renumber_all-requires : goal.renumber_all-requires
renumber_all-requires c =
    let es = c.in_ok-numbering.numbering.entries.now in
    let kept = rules_kept c.args.strings.now c.args.sections es c.args.groups c.deref-2.result.now (sym c.in_default.ensures) in
    indices_inside es c.deref-2.result.now c.deref-4.result.now (c.deref-2.ensures.value ∙ sym c.deref-4.ensures.value) kept.symbols

pub regroup_all-requires : goal.regroup_all-requires
regroup_all-requires c =
    let es = c.in_ok-numbering.numbering.entries.now in
    (rules_kept c.args.strings.now c.args.sections es c.args.groups c.deref-2.result.now (sym c.in_default.ensures)).groups_end
