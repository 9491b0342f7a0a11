-- The bytes so far are in common.
use Rattle.std.proofs.Common.{◌≡◌, ◌≤◌, ◌+◌, drop, length}
use Rattle.std.specs.Prelude.{nat_eq}
use Rattle.std.specs.List.{common_prefix_len}
use Rattle.export_trie.proofs.writing.common_len.Given as goal

abbrev pub invariant-loop-len : goal.invariant-loop-len
invariant-loop-len l =
    (l.len ≤ length l.b) × (l.len + common_prefix_len nat_eq (drop l.len l.a) (drop l.len l.b) ≡ common_prefix_len nat_eq l.a l.b)
