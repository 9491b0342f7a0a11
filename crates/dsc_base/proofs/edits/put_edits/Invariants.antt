use Rattle.std.proofs.Common.{◌≡◌, drop}
use Rattle.dsc_base.specs.Edits.{put_all}
use Rattle.dsc_base.proofs.edits.put_edits.Given as goal

-- what the edits behind leave is what all of them leave
abbrev pub invariant-loop-edit : goal.invariant-loop-edit
invariant-loop-edit l = put_all (drop l.edit-index l.edits) l.bytes ≡ put_all l.edits l.initial.bytes
