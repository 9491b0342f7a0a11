-- Node by node, until nothing is to come.
use Rattle.std.proofs.Common.{arith, rules, sym, subst, ap}
use Rattle.std.specs.Prelude.{sum_by, length}
use Rattle.export_trie.specs.Planning.{IsHeld}
use Rattle.export_trie.specs.Measuring.{Part, part_len}
use Rattle.export_trie.proofs.SizeLaws.{trie_small}
use Rattle.export_trie.proofs.WriteLaws.{written_none, all_held}
use Rattle.export_trie.proofs.MeasureLaws.{whole_len, popped_held}
use Rattle.export_trie.proofs.measuring.trie_len.Goals as goal

pub returns-then-is_empty : goal.returns-then-is_empty
returns-then-is_empty c = ap length (written_none c.args.exports.now (search rules))

pub measure_node-requires-clause-node : goal.measure_node-requires-clause-node
measure_node-requires-clause-node c = all_held c.args.exports.now (search rules) c.requires

pub measure_node-requires-clause-small : goal.measure_node-requires-clause-small
measure_node-requires-clause-small c =
    let whole = whole_len c.args.exports.now c.requires (search rules) in omega (arith, whole, trie_small c.args.exports.now c.requires)

pub loop-next-init : goal.loop-next-init
loop-next-init c =
    let whole = whole_len c.args.exports.now c.requires (search rules) in
    (omega (arith, whole, c.in_ok-len.ensures.all, ap (sum_by part_len) c.new-pending.ensures.items), c.in_ok-len.ensures.held)

pub measure_node-requires-in-Some-clause-node : goal.measure_node-requires-in-Some-clause-node
measure_node-requires-in-Some-clause-node c =
    subst (λ (p : Part). IsHeld p.depth p.exports) (sym c.next.view_is) (popped_held c.loop-next.pending.items c.pop.new.self.items c.in-Some.next c.loop-next.invariant.1 c.in-Some.ensures.items).1

pub measure_node-requires-in-Some-clause-held : goal.measure_node-requires-in-Some-clause-held
measure_node-requires-in-Some-clause-held c =
    (popped_held c.loop-next.pending.items c.pop.new.self.items c.in-Some.next c.loop-next.invariant.1 c.in-Some.ensures.items).0

pub measure_node-requires-in-Some-clause-small : goal.measure_node-requires-in-Some-clause-small
measure_node-requires-in-Some-clause-small c =
    let popped = popped_held c.loop-next.pending.items c.pop.new.self.items c.in-Some.next c.loop-next.invariant.1 c.in-Some.ensures.items in
    omega (arith, ap part_len c.next.view_is, popped.2, c.loop-next.invariant.0, trie_small c.args.exports.now c.requires)

pub overflow_add-len : goal.overflow_add-len
overflow_add-len c =
    let popped = popped_held c.loop-next.pending.items c.pop.new.self.items c.in-Some.next c.loop-next.invariant.1 c.in-Some.ensures.items in
    omega (arith, ap part_len c.next.view_is, popped.2, c.in_ok-len-2.ensures.all, c.loop-next.invariant.0, trie_small c.args.exports.now c.requires)
