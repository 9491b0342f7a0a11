use Rattle.std.proofs.Common.{◌≡◌}
use Rattle.load_model.specs.Corresponds.{shape_of}
use Rattle.cache_check.proofs.PartLaws.{AreAllShaped}
use Rattle.cache_check.proofs.shapes.shape_of.Given as goal

abbrev pub invariant-loop-number : goal.invariant-loop-number
invariant-loop-number l = record {
  shaped : AreAllShaped l.image l.numbers.items l.number (shape_of l.image);
  segments : l.segment-items ≡ l.image.segments;
}
