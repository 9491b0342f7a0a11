-- A node is its head and its children.
use Rattle.export_trie.proofs.ReadLaws.{opens_read}
use Rattle.export_trie.specs.Reading.{some_terminal_in}
use Rattle.std.proofs.Common.{reverse, sym, ap, ◌∙◌}
use Rattle.std.proofs.lemmas.List.{take_rest}
use Rattle.export_trie.specs.Nodes.{head_at}
use Rattle.export_trie.proofs.reading.open_node.Goals as goal

pub returns-clause-opens : goal.returns-clause-opens
returns-clause-opens c =
    opens_read c.args.bytes.now (c.args.name.now, c.args.offset) c.args.exports.now.items c.keep.new.exports.items c.keep.new.size
    (reverse c.args.pending.now.items) (reverse c.push_children.new.pending.items) (some_terminal_in c.in_ok-terminal.terminal) c.in_ok-terminal.rest.now c.push_children.result
    (sym (ap head_at (take_rest c.args.bytes.now c.args.offset)) ∙ c.in_ok-terminal.ensures) c.in_ok-keep.ensures c.push_children.ensures.pushed
