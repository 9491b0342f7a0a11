-- What was measured and what is to come make the whole length.
use Rattle.std.proofs.Common.{◌≡◌, ◌+◌, length}
use Rattle.std.specs.Prelude.{sum_by}
use Rattle.export_trie.specs.Measuring.{part_len, AllHeld}
use Rattle.export_trie.specs.Writing.{trie_bytes}
use Rattle.export_trie.proofs.measuring.trie_len.Given as goal

abbrev pub invariant-loop-next : goal.invariant-loop-next
invariant-loop-next l = (l.len + sum_by part_len l.pending.items ≡ length (trie_bytes l.exports)) × AllHeld l.pending.items

abbrev pub decreases-loop-next : goal.decreases-loop-next
decreases-loop-next l = sum_by part_len l.pending.items
