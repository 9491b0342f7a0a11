-- The end so far, behind which the others end where all do.
use Rattle.std.proofs.Common.{◌≡◌, ◌≤◌, drop}
use Rattle.linkedit_merge.specs.Parts.{end_behind}
use Rattle.linkedit_merge.proofs.sizes.end_behind.Given as goal

abbrev pub invariant-loop-len : goal.invariant-loop-len
invariant-loop-len l = (end_behind l.end (drop l.len-index l.lens) ≡ end_behind l.initial.end l.lens) × (l.end ≤ l.limit)
