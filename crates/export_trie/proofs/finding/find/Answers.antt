-- The name is followed to its one node, or to a node where no edge goes on.
use Rattle.std.proofs.Common.{◌<◌, length, arith, rules, sym, subst, ◌∙◌}
use Rattle.std.specs.Prelude.{Option, None}
use Rattle.export_trie.specs.declared.export.Target.{Target}
use Rattle.export_trie.specs.Exports.{exports_of}
use Rattle.export_trie.specs.Finding.{IsTargetOf, target_of}
use Rattle.export_trie.proofs.EntryLaws.{absent_from_nothing, followed_none, followed_more, followed_shorter, followed_absent, followed_all, read_inside, entry_of_target}
use Rattle.export_trie.proofs.ExportLaws.{exports_are}
use Rattle.export_trie.proofs.finding.find.Goals as goal

pub returns-then-is_empty-clause-path : goal.returns-then-is_empty-clause-path
returns-then-is_empty-clause-path c = absent_from_nothing c.args.bytes.now c.args.name.now (search rules)

pub returns-then-is_empty-clause-entry : goal.returns-then-is_empty-clause-entry
returns-then-is_empty-clause-entry c =
    entry_of_target c.args.bytes.now c.args.name.now None (exports_of c.args.bytes.now) (absent_from_nothing c.args.bytes.now c.args.name.now (search rules)) (exports_are c.args.bytes.now c.requires)

pub loop-rest-init : goal.loop-rest-init
loop-rest-init c =
    let some : 0 < length c.args.bytes.now = search rules in
    (some, omega arith, followed_none c.args.bytes.now c.args.name.now c.requires some)

pub returns-in_default-clause-path : goal.returns-in_default-clause-path
returns-in_default-clause-path c =
    let so = c.loop-rest.invariant in
    followed_absent c.args.bytes.now c.args.name.now c.loop-rest.at c.loop-rest.rest.now so.2 (search rules)
    (c.in_default.ensures so.2.node.terminal so.2.node.children so.2.node.node)

pub returns-in_default-clause-entry : goal.returns-in_default-clause-entry
returns-in_default-clause-entry c =
    let so = c.loop-rest.invariant in
    entry_of_target c.args.bytes.now c.args.name.now None (exports_of c.args.bytes.now)
    (followed_absent c.args.bytes.now c.args.name.now c.loop-rest.at c.loop-rest.rest.now so.2 (search rules)
    (c.in_default.ensures so.2.node.terminal so.2.node.children so.2.node.node)) (exports_are c.args.bytes.now c.requires)

pub loop-rest-smaller : goal.loop-rest-smaller
loop-rest-smaller c =
    let so = c.loop-rest.invariant in
    followed_shorter c.args.bytes.now c.args.name.now c.loop-rest.at c.loop-rest.rest.now c.in-Some.next c.in-Some.left.now so.2
    (c.in-Some.ensures so.2.node.terminal so.2.node.children so.2.node.node)

pub loop-rest-preserved : goal.loop-rest-preserved
loop-rest-preserved c =
    let so = c.loop-rest.invariant in
    let more = followed_more c.args.bytes.now c.args.name.now c.loop-rest.at c.loop-rest.rest.now c.in-Some.next c.in-Some.left.now c.requires so.0 so.2
    (c.in-Some.ensures so.2.node.terminal so.2.node.children so.2.node.node) in
    let inside = read_inside c.args.bytes.now c.in-Some.next more.node in
    (so.0, omega arith, more)

pub returns-clause-path : goal.returns-clause-path
returns-clause-path c =
    let so = c.loop-rest.invariant in
    subst (λ (t : Option Target). IsTargetOf c.args.bytes.now c.args.name.now t) (sym (c.entry_at.ensures so.2.node.terminal so.2.node.children so.2.node.node))
    (followed_all c.args.bytes.now c.args.name.now c.loop-rest.at c.loop-rest.rest.now so.2 (search rules))

pub returns-clause-entry : goal.returns-clause-entry
returns-clause-entry c =
    let so = c.loop-rest.invariant in
    c.entry_at.ensures so.2.node.terminal so.2.node.children so.2.node.node
    ∙ entry_of_target c.args.bytes.now c.args.name.now (target_of so.2.node.terminal) (exports_of c.args.bytes.now)
    (followed_all c.args.bytes.now c.args.name.now c.loop-rest.at c.loop-rest.rest.now so.2 (search rules)) (exports_are c.args.bytes.now c.requires)
