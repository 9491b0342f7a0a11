use Rattle.std.proofs.Common.{◌++◌, ◌+◌, drop, ap, ◌∙◌, List, ℕ}
use Rattle.dsc_base.specs.Fields.{spelled}
use Rattle.dsc_base.proofs.FieldLaws.{spelled_more, spelled_end}
use Rattle.dsc_base.proofs.fields.spell_fields.Goals as goal

pub loop-field-preserved : goal.loop-field-preserved
loop-field-preserved c =
    ap (λ (l : List ℕ). l ++ spelled (drop (c.loop-field.field-index + 1) c.args.fields.now)) (c.in_ok-append_field.ensures)
    ∙ spelled_more c.args.fields.now c.loop-field.field-index _ c.loop-field.out.items (spelled c.args.fields.now) c.loop-field-test.true c.loop-field.invariant

pub returns : goal.returns
returns c = spelled_end c.args.fields.now c.loop-field.field-index c.loop-field.out.items (spelled c.args.fields.now) c.loop-field-test.false c.loop-field.invariant
