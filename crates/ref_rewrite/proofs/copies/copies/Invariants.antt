use Rattle.std.proofs.Common.{◌≡◌, take}
use Rattle.ref_rewrite.specs.Planned.{copies_of}
use Rattle.ref_rewrite.proofs.copies.copies.Given as goal

abbrev pub invariant-loop-number : goal.invariant-loop-number
invariant-loop-number l = l.copies.items ≡ copies_of l.moving.layout.now l.moving.number (take l.number l.segments)
