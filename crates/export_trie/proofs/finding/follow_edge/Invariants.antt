-- No edge so far begins the name.
use Rattle.export_trie.proofs.FindLaws.{Beyond}
use Rattle.export_trie.proofs.finding.follow_edge.Given as goal

abbrev pub invariant-loop : goal.invariant-loop
invariant-loop l = Beyond l.count l.bytes l.name l.counter l.rest
