use Rattle.std.proofs.Common.{◌≡◌, ◌++◌, drop}
use Rattle.dsc_base.specs.Fields.{spelled}
use Rattle.dsc_base.proofs.fields.spell_fields.Given as goal

-- what is written, and then the fields that are left, are all fields
abbrev pub invariant-loop-field : goal.invariant-loop-field
invariant-loop-field l = l.out.items ++ spelled (drop l.field-index l.fields) ≡ spelled l.fields
