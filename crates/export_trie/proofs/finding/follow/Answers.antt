-- The children stand behind the terminal.
use Rattle.std.proofs.Common.{◌≡◌, ◌∙◌, [], sym, ap, length, get_or}
use Rattle.std.proofs.lemmas.List.{take_rest}
use Rattle.export_trie.specs.Nodes.{edges_at, children_at}
use Rattle.export_trie.proofs.FindLaws.{behind_head, edges_at-some, edges_at-none, some-value}
use Rattle.export_trie.proofs.finding.follow.Goals as goal

pub returns-in_default : goal.returns-in_default
returns-in_default c terminal children is child member more front =
    let behind = behind_head c.args.bytes.now c.args.at terminal children _ c.in_default.ensures is in let e = behind.1.0 in absurd (cc)

pub returns-in-empty : goal.returns-in-empty
returns-in-empty c terminal children is child member more front =
    let behind = behind_head c.args.bytes.now c.args.at terminal children _ c.in-Some.ensures is in
    let rest : c.in-Some.rest.now ≡ behind.0 = some-value c.in-Some.rest.now behind.0 behind.1.0 in
    absurd (edges_at-none (length c.args.bytes.now) c.in-Some.rest.now children c.in-empty.len_below (ap (edges_at (length c.args.bytes.now)) rest ∙ behind.1.1))

pub returns-in-len1-up : goal.returns-in-len1-up
returns-in-len1-up c terminal children is =
    let behind = behind_head c.args.bytes.now c.args.at terminal children _ c.in-Some.ensures is in
    let rest : c.in-Some.rest.now ≡ behind.0 = some-value c.in-Some.rest.now behind.0 behind.1.0 in
    c.follow_edge.ensures (length c.args.bytes.now) [] children
    (ap (children_at (length c.args.bytes.now) (get_or c.in-Some.rest.now 0 0) []) (take_rest c.in-Some.rest.now 1)
    ∙ (sym (edges_at-some (length c.args.bytes.now) c.in-Some.rest.now c.in-len1-up.len_at_least) ∙ (ap (edges_at (length c.args.bytes.now)) rest ∙ behind.1.1)))
