-- The exports of the images so far.
use Rattle.std.proofs.Common.{◌≡◌, map, take, All}
use Rattle.export_trie.specs.Writing.{IsWritable}
use Rattle.cache_layout.specs.Places.{numbered}
use Rattle.linkedit_merge.specs.Sizes.{moved_at}
use Rattle.linkedit_merge.proofs.images.move_all.Given as goal

abbrev pub invariant-loop-number : goal.invariant-loop-number
invariant-loop-number l = record {
  moved : map (λ e. e.items) l.exports.items ≡ numbered (moved_at l.layout.moves) (take l.number l.images);
  writable : All (λ e. IsWritable e.items) l.exports.items;
}
