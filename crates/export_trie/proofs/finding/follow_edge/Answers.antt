-- Each child is read as the node has it, and is passed where its edge doesn't begin the name.
use Rattle.std.proofs.Common.{ℕ, List, ◌++◌, ◌∙◌, sym, ap}
use Rattle.export_trie.proofs.FindLaws.{no_text_fault, no_number_fault, still_found, still_more, still_none, stripped, not_stripped}
use Rattle.export_trie.proofs.finding.follow_edge.Goals as goal

pub returns-in_default : goal.returns-in_default
returns-in_default c total firsts children read child member more front =
    absurd (no_text_fault total children c.args.name.now c.loop.rest.now c.args.count c.loop.counter c.in_default.field-0
    (c.loop.invariant total firsts children read) c.loop-test.true c.in_default.ensures.read)

pub returns-in_default-read_number : goal.returns-in_default-read_number
returns-in_default-read_number c total firsts children read child member more front =
    absurd (no_number_fault total children c.args.name.now c.loop.rest.now c.in-Ok.edge.now c.in-Ok.after.now c.args.count c.loop.counter c.in_default-read_number.field-0
    (c.loop.invariant total firsts children read) c.loop-test.true c.in-Ok.ensures.read c.in_default-read_number.ensures.read)

pub returns-in-Some : goal.returns-in-Some
returns-in-Some c total firsts children read = (
  c.in-Ok.edge.now,
  (
    still_found total children c.args.name.now c.loop.rest.now c.in-Ok.edge.now c.in-Ok.after.now c.in-Ok-read_number.after.now c.args.count c.loop.counter c.in-Ok-read_number.offset
        (c.loop.invariant total firsts children read) c.loop-test.true c.in-Ok.ensures.read c.in-Ok-read_number.ensures.read,
    stripped c.args.name.now c.in-Ok.edge.now c.in-Some.ensures.cases.0 ∙ ap (λ (l : List ℕ). c.in-Ok.edge.now ++ l) (sym c.in-Some.ensures.cases.1),
  ),
)

pub loop-preserved : goal.loop-preserved
loop-preserved c total firsts children read =
    still_more total children c.args.name.now c.loop.rest.now c.in-Ok.edge.now c.in-Ok.after.now c.in-Ok-read_number.after.now c.args.count c.loop.counter c.in-Ok-read_number.offset
    (c.loop.invariant total firsts children read) c.loop-test.true c.in-Ok.ensures.read c.in-Ok-read_number.ensures.read
    (not_stripped c.args.name.now c.in-Ok.edge.now c.in_default-strip_prefix.ensures.cases)

pub returns : goal.returns
returns c total firsts children read =
    still_none total children c.args.name.now c.loop.rest.now c.args.count c.loop.counter (c.loop.invariant total firsts children read) c.loop-test.false
