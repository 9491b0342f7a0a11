-- The deltas so far and those that are left.
use Rattle.std.proofs.Common.{◌≡◌, drop, length}
use Rattle.dsc_base.specs.Edits.{put_all}
use Rattle.dsc_gen.specs.Contents.{delta_edits}
use Rattle.dsc_gen.proofs.contents.put_deltas.Given as goal

abbrev pub invariant-loop-i : goal.invariant-loop-i
invariant-loop-i l = record {
  set : put_all (delta_edits l.size l.i (drop l.i l.targets)) l.bytes ≡ put_all (delta_edits l.size 0 l.targets) l.fn.bytes;
  same : length l.bytes ≡ length l.fn.bytes;
}
