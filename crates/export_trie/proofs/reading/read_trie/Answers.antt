-- The sort puts the exports of the walk in order of their names.
use Rattle.std.proofs.Common.{rules}
use Rattle.std.proofs.lemmas.List.Sorted.{ranks_by, answers_always}
use Rattle.std.specs.Cmp.Lexicographic.{nat_list_cmp_total}
use Rattle.export_trie.specs.declared.export.Export.{Export}
use Rattle.export_trie.proofs.KeptLaws.{kept_list}
use Rattle.export_trie.proofs.ListLaws.{comes_before, sorted_exports}
use Rattle.export_trie.proofs.ExportLaws.{exports_only}
use Rattle.export_trie.proofs.reading.read_trie.Goals as goal

pub returns-clause-paths : goal.returns-clause-paths
returns-clause-paths c =
    sorted_exports c.args.bytes.now c.in_ok-exports.exports.items c.sort_by.new.self.items c.in_ok-exports.ensures.walked c.in_ok-sort_by.ensures.permutation
    (c.in_ok-sort_by.ensures.sorted comes_before (ranks_by nat_list_cmp_total (λ (e : Export). e.name)) (answers_always _ _ _ (λ f a r f' called. search rules)))

pub returns-clause-exports : goal.returns-clause-exports
returns-clause-exports c =
    exports_only c.args.bytes.now c.sort_by.new.self.items c.in_ok-exports.ensures.accepted
    (sorted_exports c.args.bytes.now c.in_ok-exports.exports.items c.sort_by.new.self.items c.in_ok-exports.ensures.walked c.in_ok-sort_by.ensures.permutation
    (c.in_ok-sort_by.ensures.sorted comes_before (ranks_by nat_list_cmp_total (λ (e : Export). e.name)) (answers_always _ _ _ (λ f a r f' called. search rules))))

pub returns-clause-writable : goal.returns-clause-writable
returns-clause-writable c =
    kept_list c.args.bytes.now c.in_ok-exports.exports.items c.sort_by.new.self.items c.in_ok-exports.ensures.walked c.in_ok-sort_by.ensures.permutation
    (sorted_exports c.args.bytes.now c.in_ok-exports.exports.items c.sort_by.new.self.items c.in_ok-exports.ensures.walked c.in_ok-sort_by.ensures.permutation
    (c.in_ok-sort_by.ensures.sorted comes_before (ranks_by nat_list_cmp_total (λ (e : Export). e.name)) (answers_always _ _ _ (λ f a r f' called. search rules))))
