-- The loop's steps and its end.
use Rattle.std.proofs.Common.{arith}
use Rattle.export_trie.proofs.MeasureLaws.{groups_more, group_within, groups_all}
use Rattle.export_trie.proofs.measuring.measure_edges.Goals as goal

pub overflow_sub-len : goal.overflow_sub-len
overflow_sub-len c =
    (group_within c.args.depth c.args.exports.now c.loop-group.rest.now c.in-Some.group.rest.now c.in-Some.group.first.now c.in-Some.group.exports.now c.loop-group.len c.in-Some.group.len c.args.pending.now.items c.loop-group.pending.items c.loop-group.invariant c.in-Some.ensures).0

pub overflow_add-len : goal.overflow_add-len
overflow_add-len c =
    let within = group_within c.args.depth c.args.exports.now c.loop-group.rest.now c.in-Some.group.rest.now c.in-Some.group.first.now c.in-Some.group.exports.now c.loop-group.len c.in-Some.group.len c.args.pending.now.items c.loop-group.pending.items c.loop-group.invariant c.in-Some.ensures in
    omega (arith, within.1, c.requires.small)

pub overflow_add-len-in-Some : goal.overflow_add-len-in-Some
overflow_add-len-in-Some c =
    let within = group_within c.args.depth c.args.exports.now c.loop-group.rest.now c.in-Some.group.rest.now c.in-Some.group.first.now c.in-Some.group.exports.now c.loop-group.len c.in-Some.group.len c.args.pending.now.items c.loop-group.pending.items c.loop-group.invariant c.in-Some.ensures in
    omega (arith, within.1, c.requires.small)

pub loop-group-preserved : goal.loop-group-preserved
loop-group-preserved c =
    groups_more c.args.depth c.args.exports.now c.loop-group.rest.now c.in-Some.group.rest.now c.in-Some.group.first.now c.in-Some.group.exports.now c.loop-group.len c.in-Some.group.len c.args.pending.now.items c.loop-group.pending.items c.push.new.self.items c.loop-group.invariant c.in-Some.ensures c.in_ok-push.ensures.items

pub returns : goal.returns
returns c =
    groups_all c.args.depth c.args.exports.now c.loop-group.rest.now c.loop-group.len c.args.pending.now.items c.loop-group.pending.items c.loop-group.invariant c.in_default.ensures
