-- Each visit marks a node, and adds at most 255 that are still to come.
use Rattle.std.proofs.Common.{◌≡◌, reverse}
use Rattle.export_trie.specs.Reading.{Stands, weight}
use Rattle.export_trie.proofs.reading.walk_all.Given as goal

abbrev pub invariant-loop-next : goal.invariant-loop-next
invariant-loop-next l =
    (l.walk.bytes.now ≡ l.bytes) × Stands l.bytes l.walk.marks.items l.walk.name.items (reverse l.walk.pending.items) l.walk.exports.items l.walk.size

abbrev pub decreases-loop-next : goal.decreases-loop-next
decreases-loop-next l = weight l.walk.marks.items l.walk.pending.items
