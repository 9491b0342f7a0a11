use Rattle.std.proofs.Common.{◌≡◌, take, map}
use Rattle.prebind.specs.Indexed.{span_of}
use Rattle.prebind.proofs.index.image_frame.Given as goal

abbrev pub invariant-loop-segment : goal.invariant-loop-segment
invariant-loop-segment l = l.segments.items ≡ map span_of (take l.segment-index l.image.segments)
