-- The edges and plans so far, and those of the exports that are left, are those of all.
use Rattle.std.proofs.Common.{length}
use Rattle.export_trie.proofs.EdgeLaws.{EdgesSoFar}
use Rattle.export_trie.proofs.writing.put_edges.Given as goal

abbrev pub invariant-loop-group : goal.invariant-loop-group
invariant-loop-group l = EdgesSoFar l.depth l.exports l.rest l.fn.out.items l.out.items l.fn.pending.items l.pending.items l.count

abbrev pub decreases-loop-group : goal.decreases-loop-group
decreases-loop-group l = length l.rest
