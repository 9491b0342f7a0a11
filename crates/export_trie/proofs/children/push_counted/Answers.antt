-- The loop's steps and its end.
use Rattle.std.proofs.Common.{◌≡◌, ◌++◌, ◌∷◌, [], arith, rules}
use Rattle.std.proofs.lemmas.Result.{err_from_is_err_and}
use Rattle.export_trie.specs.Nodes.{Child}
use Rattle.export_trie.specs.Reading.{pend}
use Rattle.export_trie.proofs.ChildLaws.{so_far_none, so_far_more, so_far_fault, so_far_all, gives_pushed}
use Rattle.export_trie.proofs.children.push_counted.Goals as goal

pub loop-init : goal.loop-init
loop-init c = so_far_none c.args.total c.args.prefix c.args.count c.args.bytes.now c.args.pending.now.items

pub returns-in_err-child-clause-pushed : goal.returns-in_err-child-clause-pushed
returns-in_err-child-clause-pushed c =
    let p = err_from_is_err_and c.from_residual.result c.from_residual.ensures.1 in
    rw (p.1, p.2)
    (so_far_fault c.args.total c.args.prefix c.args.count c.loop.counter c.args.bytes.now c.loop.rest.now c.loop.seen _ c.loop.pending.items
    c.in_err-child.field-0.0 c.loop.invariant (omega arith) c.in_err-child.ensures.read)

pub loop-preserved : goal.loop-preserved
loop-preserved c =
    let child : Child = (c.in_ok-child.child.edge.now, c.in_ok-child.child.offset) in
    let pushed : c.push.new.self.items ≡ c.loop.pending.items ++ pend c.args.prefix child ∷ [] = c.in_ok-push.ensures.items in
    rw pushed
    (so_far_more c.args.total c.args.prefix c.args.count c.loop.counter c.args.bytes.now c.loop.rest.now c.in_ok-child.after.now c.loop.seen _ c.loop.pending.items
    child c.loop.invariant (omega arith) c.in_ok-child.ensures.byte c.in_ok-child.ensures.read)

pub returns-clause-pushed : goal.returns-clause-pushed
returns-clause-pushed c =
    let all = so_far_all c.args.total c.args.prefix c.args.count c.loop.counter c.args.bytes.now c.loop.rest.now c.loop.seen c.args.pending.now.items c.loop.pending.items c.loop.invariant (omega arith) in
    gives_pushed c.args.total c.args.prefix c.args.count c.len-base.result c.args.bytes.now c.args.pending.now.items c.loop.pending.items c.turn_from.new.pending.items
    all (search rules) c.turn_from.ensures.turned
