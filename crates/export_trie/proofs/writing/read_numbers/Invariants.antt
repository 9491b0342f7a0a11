-- The numbers so far are of 64 bits.
use Rattle.std.proofs.Common.{◌<◌, ℕ, get_or}
use Rattle.export_trie.specs.declared.export.Export.{Export}
use Rattle.export_trie.specs.Planning.{HasNumber}
use Rattle.export_trie.proofs.writing.read_numbers.Given as goal

abbrev pub invariant-loop-export : goal.invariant-loop-export
invariant-loop-export l = (k : ℕ) (d : Export) → k < l.export-index → HasNumber (get_or l.exports k d).target
