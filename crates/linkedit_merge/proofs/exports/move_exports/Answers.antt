-- Moved exports can be written, since those of a trie can.
use Rattle.std.proofs.Common.{sym, subst}
use Rattle.export_trie.specs.Writing.{IsWritable}
use Rattle.linkedit_merge.proofs.ExportLaws.{moved_writable}
use Rattle.linkedit_merge.proofs.exports.move_exports.Goals as goal

pub returns-clause-writable : goal.returns-clause-writable
returns-clause-writable c =
    subst IsWritable (sym c.in_ok-moved.ensures)
    (moved_writable c.deref.result.now c.args.moves.now c.in_ok-exports.exports.items c.in_ok-exports.ensures.writable)
