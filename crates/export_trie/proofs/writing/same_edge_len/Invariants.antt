-- The exports so far have the byte.
use Rattle.std.proofs.Common.{◌≡◌, ◌+◌, drop}
use Rattle.std.specs.List.{prefix_len}
use Rattle.export_trie.specs.Writing.{goes_with}
use Rattle.export_trie.proofs.writing.same_edge_len.Given as goal

abbrev pub invariant-loop-count : goal.invariant-loop-count
invariant-loop-count l = l.count + prefix_len (goes_with l.depth l.first) (drop l.count l.exports) ≡ prefix_len (goes_with l.depth l.first) l.exports
