-- The exports moved so far, and those that are left.
use Rattle.std.proofs.Common.{◌≡◌, ◌++◌}
use Rattle.std.specs.Vec.Iter.{into_iter_items}
use Rattle.linkedit_merge.specs.Exports.{moved_exports}
use Rattle.linkedit_merge.proofs.exports.move_each.Given as goal

abbrev pub invariant-loop-export : goal.invariant-loop-export
invariant-loop-export l =
    (goal.iterator-loop-export).can_next l.export-iterator ×
    (goal.iterator-loop-export).is_finite l.export-iterator ×
    (l.moved.items ++ moved_exports l.segments l.moves (into_iter_items l.export-iterator) ≡ moved_exports l.segments l.moves l.fn.exports.items)
