-- The spots so far, and how many bytes of the tables belong to their images.
use Rattle.std.proofs.Common.{◌≡◌, take}
use Rattle.cache_layout.specs.Places.{numbered}
use Rattle.linkedit_merge.specs.Sizes.{symbols_size, indirect_size}
use Rattle.linkedit_merge.specs.Spots.{spots_from}
use Rattle.linkedit_merge.proofs.spots.all_spots.Given as goal

abbrev pub invariant-loop-number : goal.invariant-loop-number
invariant-loop-number l = record {
  spots : l.spots.items ≡ numbered (spots_from l.frame l.tables) (take l.number l.streams);
  symbols : l.symbols_before ≡ symbols_size (take l.number l.tables);
  indirect : l.indirect_before ≡ indirect_size (take l.number l.tables);
}
