use Rattle.std.proofs.Common.{◌≡◌, ◌++◌, List, take, length}
use Rattle.macho_image.specs.Records.{Seg}
use Rattle.cache_check.specs.Steps.Pages.{AreMarked}
use Rattle.cache_check.proofs.segments.mark_all.Given as goal

abbrev pub invariant-loop-segment : goal.invariant-loop-segment
invariant-loop-segment l = record {
  marked : (earlier : List Seg) → AreMarked l.initial.marks earlier → AreMarked l.marks (earlier ++ take l.segment-index l.segments);
  count : length l.marks ≡ length l.initial.marks;
}
