-- The exports so far, and those that are left.
use Rattle.std.proofs.Common.{◌≡◌, ◌++◌}
use Rattle.std.specs.Vec.Iter.{into_iter_items}
use Rattle.export_trie.specs.Index.{exports_in}
use Rattle.export_trie.proofs.index.names_of.Given as goal

abbrev pub invariant-loop-export : goal.invariant-loop-export
invariant-loop-export l =
    (goal.iterator-loop-export).can_next l.export-iterator ×
    (goal.iterator-loop-export).is_finite l.export-iterator ×
    (exports_in l.names.entries ++ into_iter_items l.export-iterator ≡ l.fn.exports.items)
