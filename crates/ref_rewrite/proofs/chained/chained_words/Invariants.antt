use Rattle.std.proofs.Common.{◌≡◌, take}
use Rattle.std.specs.List.{flat_map, enumerate_from}
use Rattle.ref_rewrite.specs.Planned.{chained_in}
use Rattle.ref_rewrite.proofs.chained.chained_words.Given as goal

abbrev pub invariant-loop-segment : goal.invariant-loop-segment
invariant-loop-segment l =
    l.offsets.items ≡ flat_map (chained_in l.moving.layout.now l.moving.number l.moving.segments.now l.words) (enumerate_from 0 (take l.segment-index l.segments))
