-- The groups so far, and those of the exports that are left, are those of all.
use Rattle.std.proofs.Common.{length}
use Rattle.export_trie.proofs.MeasureLaws.{GroupsSoFar}
use Rattle.export_trie.proofs.measuring.measure_edges.Given as goal

abbrev pub invariant-loop-group : goal.invariant-loop-group
invariant-loop-group l = GroupsSoFar l.depth l.exports l.rest l.len l.fn.pending.items l.pending.items

abbrev pub decreases-loop-group : goal.decreases-loop-group
decreases-loop-group l = length l.rest
