use Rattle.std.proofs.Common.{◌≡◌, ◌/◌, take, length}
use Rattle.cache_check.specs.Images.{segment_finding, segments_of}
use Rattle.cache_check.specs.Steps.Pages.{AreMarked, AreAligned}
use Rattle.cache_check.proofs.EachLaws.{AreClear}
use Rattle.cache_check.proofs.segments.check_each.Given as goal

abbrev pub invariant-loop-number : goal.invariant-loop-number
invariant-loop-number l = record {
  clear : AreClear (segment_finding l.mappings l.images) l.images l.number;
  marked : AreMarked l.marks (segments_of (take l.number l.images));
  aligned : AreAligned (segments_of (take l.number l.images));
  count : length l.marks ≡ l.size / 4096;
}
