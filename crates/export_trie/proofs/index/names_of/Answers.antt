-- Each name is new, since names rise.
use Rattle.std.specs.Vec.Iter.{into_iter_items}
use Rattle.export_trie.specs.Index.{exports_in}
use Rattle.export_trie.proofs.IndexLaws.{next_new, next_kept}
use Rattle.export_trie.proofs.index.names_of.Goals as goal

pub keep_name-requires : goal.keep_name-requires
keep_name-requires c =
    next_new (exports_in c.loop-export.names.entries) (into_iter_items c.loop-export.export-iterator) (into_iter_items c.next.new.self) c.args.exports.items c.in-Some.export c.requires c.loop-export.invariant.2 c.in-Some.ensures.steps.0

pub loop-export-preserved : goal.loop-export-preserved
loop-export-preserved c =
    (tt, tt, next_kept (exports_in c.loop-export.names.entries) (exports_in c.keep_name.new.names.entries) (into_iter_items c.loop-export.export-iterator) (into_iter_items c.next.new.self) c.args.exports.items c.in-Some.export c.in_ok-keep_name.ensures c.loop-export.invariant.2 c.in-Some.ensures.steps.0)
