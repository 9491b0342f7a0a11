-- The last name of the group has the front of the first one.
use Rattle.std.proofs.Common.{◌∙◌, ◌-◌, length, sym, inl, inr, refl, ap, ap₂, take, arith}
use Rattle.export_trie.specs.Paths.{Member}
use Rattle.export_trie.proofs.PrefixLaws.{common}
use Rattle.export_trie.proofs.GroupLaws.{last-Member, shared-last}
use Rattle.export_trie.proofs.writing.group_len.Goals as goal

pub common_from-requires-clause-second : goal.common_from-requires-clause-second
common_from-requires-clause-second c =
    let member : Member c.last-item.result c.args.others.now = last-Member c.last-item.result c.args.others.now (length c.args.others.now - 1) (omega arith) c.last-item.is in
    omega (arith, ap length c.as_slice.ensures, c.requires.longer c.last-item.result (inr member))

pub common_from-requires-clause-same : goal.common_from-requires-clause-same
common_from-requires-clause-same c =
    let member : Member c.last-item.result c.args.others.now = last-Member c.last-item.result c.args.others.now (length c.args.others.now - 1) (omega arith) c.last-item.is in
    ap (take c.args.depth) c.as_slice-name.ensures
    ∙ (c.requires.begins c.args.first.now (inl refl) ∙ (sym (c.requires.begins c.last-item.result (inr member)) ∙ sym (ap (take c.args.depth) c.as_slice.ensures)))

pub returns-in-len1-up : goal.returns-in-len1-up
returns-in-len1-up c =
    c.common_from.ensures
    ∙ (ap₂ common c.as_slice-name.ensures c.as_slice.ensures
    ∙ sym (shared-last c.args.first.now c.args.others.now c.last-item.result c.requires.rising.0 c.requires.rising.1 (omega arith) c.last-item.is))
