-- The moves so far, and those that are left.
use Rattle.std.proofs.Common.{◌≡◌, ◌≤◌, ◌+◌, ◌%◌, ◌++◌, drop}
use Rattle.extractor.specs.ExtractOf.{moves_from}
use Rattle.extractor.specs.Files.{all_pages}
use Rattle.extractor.proofs.pages.moves_of.Given as goal

abbrev pub invariant-loop-segment : goal.invariant-loop-segment
invariant-loop-segment l = record {
  moves : moves_from 0 l.segments ≡ l.moves.items ++ moves_from l.file (drop l.segment-index l.segments);
  whole : l.file % 4096 ≡ 0;
  low : l.file + all_pages (drop l.segment-index l.segments) ≤ 0x8000_0000_0000;
}
