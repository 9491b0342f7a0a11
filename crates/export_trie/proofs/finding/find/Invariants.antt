-- The edges so far spell the front of the name, and any path of the whole name goes on from here.
use Rattle.std.proofs.Common.{◌<◌, ◌≤◌, length}
use Rattle.export_trie.proofs.EntryLaws.{IsFollowed}
use Rattle.export_trie.proofs.finding.find.Given as goal

abbrev pub invariant-loop-rest : goal.invariant-loop-rest
invariant-loop-rest l = (0 < length l.bytes) × (l.at ≤ length l.bytes) × IsFollowed l.bytes l.name l.at l.rest

abbrev pub decreases-loop-rest : goal.decreases-loop-rest
decreases-loop-rest l = length l.rest
