-- The pointers so far and those that are left.
use Rattle.std.proofs.Common.{◌≡◌, drop, length}
use Rattle.dsc_base.specs.Edits.{put_all}
use Rattle.dsc_gen.specs.Contents.{pointer_edits}
use Rattle.dsc_gen.proofs.contents.put_pointers.Given as goal

abbrev pub invariant-loop-i : goal.invariant-loop-i
invariant-loop-i l = record {
  set : put_all (pointer_edits l.size l.i (drop l.i l.pointers)) l.bytes ≡ put_all (pointer_edits l.size 0 l.pointers) l.fn.bytes;
  same : length l.bytes ≡ length l.fn.bytes;
}
