-- Where nothing is to come there was no fault.
use Rattle.std.proofs.Common.{[], arith, rules}
use Rattle.std.specs.Prelude.{count_by, not}
use Rattle.export_trie.specs.Reading.{Reaches}
use Rattle.export_trie.proofs.BreakLaws.{trie_break-none}
use Rattle.export_trie.proofs.reading.walk_all.Goals as goal

pub returns-clause-accepted : goal.returns-clause-accepted
returns-clause-accepted c =
    let stands = c.loop-next.invariant.1 in
    let reached : Reaches c.args.bytes.now stands.made [] = search rules in
    trie_break-none c.args.bytes.now stands.made (count_by not c.loop-next.walk.marks.items) reached (omega (arith, stands.counted))
