-- The loop's steps and its end.
use Rattle.std.proofs.Common.{◌≡◌, ℕ, List, length, set, ap, subst, arith, rules}
use Rattle.export_trie.specs.declared.export.Export.{Export}
use Rattle.export_trie.specs.Planning.{IsReady}
use Rattle.export_trie.proofs.GroupLaws.{deeper, within}
use Rattle.export_trie.proofs.EdgeLaws.{edges_none, edges_more, edges_all}
use Rattle.export_trie.proofs.writing.put_edges.Goals as goal

pub loop-group-init : goal.loop-group-init
loop-group-init c = edges_none c.args.depth c.args.exports.now c.args.out.now.items c.push.new.self.items c.args.pending.now.items c.requires c.in_ok-push.ensures.items

pub put_group-requires-clause-order : goal.put_group-requires-clause-order
put_group-requires-clause-order c =
    let is = c.in-Some.ensures in
    let ready = subst (λ (l : List Export). IsReady c.args.depth l) is.whole c.loop-group.invariant.ready in
    omega (arith, deeper c.args.depth _ is.others ready, is.len_is)

pub put_group-requires-clause-within : goal.put_group-requires-clause-within
put_group-requires-clause-within c =
    let is = c.in-Some.ensures in
    let ready = subst (λ (l : List Export). IsReady c.args.depth l) is.whole c.loop-group.invariant.ready in
    omega (arith, within c.args.depth _ is.others ready, is.len_is)

pub loop-group-preserved : goal.loop-group-preserved
loop-group-preserved c =
    edges_more c.args.depth c.args.exports.now c.loop-group.rest.now c.args.out.now.items c.loop-group.out.items c.put_group.new.out.items c.args.pending.now.items c.loop-group.pending.items c.put_group.new.pending.items
    c.loop-group.count c.in-Some.group.len c.in-Some.group.first.now c.in-Some.group.exports.now c.in-Some.group.rest.now c.loop-group.invariant c.in-Some.ensures
    c.in_ok-put_group.ensures.edge c.in_ok-put_group.ensures.plan

pub returns : goal.returns
returns c =
    let base : c.len-base.result ≡ length c.args.pending.now.items = search rules in
    let at : c.len-count_at.result ≡ length c.args.out.now.items = search rules in
    edges_all c.args.depth c.args.exports.now c.loop-group.rest.now c.args.out.now.items c.loop-group.out.items (set c.loop-group.out.items c.len-count_at.result c.loop-group.count)
    c.args.pending.now.items c.loop-group.pending.items c.turn_from.new.pending.items c.len-base.result c.loop-group.count c.loop-group.invariant c.in_default.ensures base
    (ap (λ (n : ℕ). set c.loop-group.out.items n c.loop-group.count) at) c.turn_from.ensures.turned
