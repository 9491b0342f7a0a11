-- The others are ready as all are.
use Rattle.std.proofs.lemmas.List.{take_rest}
use Rattle.export_trie.proofs.GroupLaws.{ready-longer, ready-part}
use Rattle.export_trie.proofs.writing.next_group.Goals as goal

pub same_edge_len-same-requires-clause-others : goal.same_edge_len-same-requires-clause-others
same_edge_len-same-requires-clause-others c = ready-longer c.args.depth c.args.exports.now _ (take_rest c.args.exports.now 1) c.requires

pub group_len-len-requires : goal.group_len-len-requires
group_len-len-requires c =
    ready-part c.args.depth c.same_edge_len-same.result c.first-item.result c.args.exports.now _ (take_rest c.args.exports.now 1) c.in-len1-up.len_at_least c.first-item.is c.requires
