-- The second name ends, or the bytes differ.
use Rattle.std.proofs.Common.{inl, inr}
use Rattle.export_trie.proofs.PrefixLaws.{common-stops}
use Rattle.export_trie.proofs.writing.common_len.Goals as goal
use Rattle.export_trie.proofs.writing.common_len.Goals.{then-len-b-via-then-len-b, then-len-b-via-else-len-b+then-b-len}

pub returns-then-len-b : goal.returns-then-len-b
returns-then-len-b c =
    common-stops c.args.a.now c.args.b.now c.loop-len.len c.loop-len.invariant.1
    (elim c.then-len-b.branch [
      | then-len-b-via-then-len-b w ↦ inl w.if-len-b.true
      | then-len-b-via-else-len-b+then-b-len w ↦ inr (c.loop-len-test.true, w.if-len-b.false, w.if-b-len.true)
    ])
