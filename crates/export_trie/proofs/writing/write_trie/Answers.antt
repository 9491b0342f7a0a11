-- Node by node, until nothing is to come.
use Rattle.std.proofs.Common.{◌≡◌, ◌∙◌, [], List, reverse, subst, ap, arith, rules}
use Rattle.std.proofs.lemmas.List.{nil_from_length}
use Rattle.export_trie.specs.Writing.{trie_bytes}
use Rattle.export_trie.specs.Planning.{Plan, IsWriting}
use Rattle.export_trie.proofs.ExportLaws.{read_back}
use Rattle.export_trie.proofs.SizeLaws.{trie_small}
use Rattle.export_trie.proofs.WriteLaws.{written_none, all_held, first_written, popped_plan, next_written, next_longer, writing_all, writing_within}
use Rattle.export_trie.proofs.writing.write_trie.Goals as goal

pub returns-then-is_empty-clause-bytes : goal.returns-then-is_empty-clause-bytes
returns-then-is_empty-clause-bytes c = c.new-out.ensures.items ∙ written_none c.args.exports.now (search rules)

pub returns-then-is_empty-clause-accepted : goal.returns-then-is_empty-clause-accepted
returns-then-is_empty-clause-accepted c =
    (read_back c.args.exports.now c.new-out.result.items (c.new-out.ensures.items ∙ written_none c.args.exports.now (search rules)) c.requires c.read_numbers.ensures).0

pub returns-then-is_empty-clause-read_back : goal.returns-then-is_empty-clause-read_back
returns-then-is_empty-clause-read_back c =
    (read_back c.args.exports.now c.new-out.result.items (c.new-out.ensures.items ∙ written_none c.args.exports.now (search rules)) c.requires c.read_numbers.ensures).1

pub put_node-requires : goal.put_node-requires
put_node-requires c = all_held c.args.exports.now (search rules) c.requires

pub loop-next-init : goal.loop-next-init
loop-next-init c =
    first_written c.args.exports.now c.new-out.result.items c.put_node.new.out.items c.new-pending.result.items (reverse c.put_node.new.pending.items)
    (all_held c.args.exports.now (search rules) c.requires) c.new-out.ensures.items c.new-pending.ensures.items c.in_ok-put_node.ensures

pub put_next-requires-clause-small : goal.put_next-requires-clause-small
put_next-requires-clause-small c =
    omega (arith, writing_within (trie_bytes c.args.exports.now) c.loop-next.out.items (reverse c.loop-next.pending.items) c.loop-next.invariant, trie_small c.args.exports.now c.requires)

pub loop-next-preserved : goal.loop-next-preserved
loop-next-preserved c =
    let popped = popped_plan c.loop-next.pending.items c.pop.new.self.items _ c.in-Some.ensures.items in
    let writing = subst (λ (l : List Plan). IsWriting (trie_bytes c.args.exports.now) c.loop-next.out.items l) popped c.loop-next.invariant in
    next_written (trie_bytes c.args.exports.now) c.loop-next.out.items c.put_next.new.out.items _ (reverse c.pop.new.self.items) (reverse c.put_next.new.pending.items) writing c.in_ok-put_next.ensures

pub loop-next-smaller : goal.loop-next-smaller
loop-next-smaller c =
    let popped = popped_plan c.loop-next.pending.items c.pop.new.self.items _ c.in-Some.ensures.items in
    let writing = subst (λ (l : List Plan). IsWriting (trie_bytes c.args.exports.now) c.loop-next.out.items l) popped c.loop-next.invariant in
    let more = next_written (trie_bytes c.args.exports.now) c.loop-next.out.items c.put_next.new.out.items _ (reverse c.pop.new.self.items) (reverse c.put_next.new.pending.items) writing c.in_ok-put_next.ensures in
    let longer = next_longer (trie_bytes c.args.exports.now) c.loop-next.out.items c.put_next.new.out.items _ (reverse c.pop.new.self.items) (reverse c.put_next.new.pending.items) writing c.in_ok-put_next.ensures in
    omega (arith, longer, writing_within (trie_bytes c.args.exports.now) c.put_next.new.out.items (reverse c.put_next.new.pending.items) more)

pub returns-clause-bytes : goal.returns-clause-bytes
returns-clause-bytes c =
    let none : reverse c.loop-next.pending.items ≡ [] = ap reverse (nil_from_length c.loop-next.pending.items (search rules)) in
    writing_all (trie_bytes c.args.exports.now) c.loop-next.out.items (subst (λ (l : List Plan). IsWriting (trie_bytes c.args.exports.now) c.loop-next.out.items l) none c.loop-next.invariant)

pub returns-clause-accepted : goal.returns-clause-accepted
returns-clause-accepted c =
    let none : reverse c.loop-next.pending.items ≡ [] = ap reverse (nil_from_length c.loop-next.pending.items (search rules)) in
    (read_back c.args.exports.now c.loop-next.out.items
    (writing_all (trie_bytes c.args.exports.now) c.loop-next.out.items (subst (λ (l : List Plan). IsWriting (trie_bytes c.args.exports.now) c.loop-next.out.items l) none c.loop-next.invariant))
    c.requires c.read_numbers.ensures).0

pub returns-clause-read_back : goal.returns-clause-read_back
returns-clause-read_back c =
    let none : reverse c.loop-next.pending.items ≡ [] = ap reverse (nil_from_length c.loop-next.pending.items (search rules)) in
    (read_back c.args.exports.now c.loop-next.out.items
    (writing_all (trie_bytes c.args.exports.now) c.loop-next.out.items (subst (λ (l : List Plan). IsWriting (trie_bytes c.args.exports.now) c.loop-next.out.items l) none c.loop-next.invariant))
    c.requires c.read_numbers.ensures).1
