use Rattle.std.proofs.Common.{arith}
use Rattle.ref_rewrite.specs.Planned.{is_copied, copy_of}
use Rattle.ref_rewrite.proofs.CopyLaws.{passed-grown}
use Rattle.ref_rewrite.proofs.copies.copies.Goals as goal

pub loop-number-preserved : goal.loop-number-preserved
loop-number-preserved c =
    passed-grown (copy_of c.args.moving.now.layout.now c.args.moving.now.number) is_copied c.args.moving.now.segments.now c.loop-number.number c.index-segments-number.result c.loop-number.copies.items c.push_copy.new.copies.items (omega arith)
    c.index-segments-number.is c.loop-number.invariant c.in_ok-push_copy.ensures
