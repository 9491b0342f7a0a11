-- What is written and what is to come make the whole trie.
use Rattle.std.proofs.Common.{◌-◌, length, reverse}
use Rattle.export_trie.specs.Planning.{IsWriting}
use Rattle.export_trie.specs.Writing.{trie_bytes}
use Rattle.export_trie.proofs.writing.write_trie.Given as goal

abbrev pub invariant-loop-next : goal.invariant-loop-next
invariant-loop-next l = IsWriting (trie_bytes l.exports) l.out.items (reverse l.pending.items)

abbrev pub decreases-loop-next : goal.decreases-loop-next
decreases-loop-next l = length (trie_bytes l.exports) - length l.out.items
