-- The children so far and those in the bytes left are the children of all the bytes.
use Rattle.export_trie.proofs.ChildLaws.{SoFar}
use Rattle.export_trie.proofs.children.push_counted.Given as goal

abbrev pub invariant-loop : goal.invariant-loop
invariant-loop l = SoFar l.total l.prefix l.count l.counter l.bytes l.rest l.seen l.initial.pending.items l.pending.items
