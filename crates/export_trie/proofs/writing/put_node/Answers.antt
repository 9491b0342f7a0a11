-- The exports below the node are ready.
use Rattle.std.proofs.Common.{◌∙◌, List, Bor, ap, length, arith}
use Rattle.std.proofs.lemmas.List.{take_rest}
use Rattle.export_trie.specs.declared.export.Export.{Export}
use Rattle.export_trie.proofs.EdgeLaws.{held-own, held-other}
use Rattle.export_trie.proofs.writing.put_node.Goals as goal
use Rattle.export_trie.proofs.writing.put_node.Goals.{then-as_slice-depth, else-as_slice-depth}

pub put_edges-requires : goal.put_edges-requires
put_edges-requires c =
    elim c.if-as_slice-depth.branch [
      | then-as_slice-depth w ↦
          held-own c.args.depth c.first-item.result c.args.exports.now c.if-as_slice-depth.below.now c.requires c.first-item.is c.in-len1-up.len_at_least (omega (arith, ap length c.as_slice.ensures, w.if-as_slice-depth.true))
          (ap (λ (b : Bor (List Export)). b.now) w.below-is ∙ take_rest c.args.exports.now 1)
      | else-as_slice-depth w ↦
          held-other c.args.depth c.first-item.result c.args.exports.now c.if-as_slice-depth.below.now c.requires c.first-item.is c.in-len1-up.len_at_least
          (λ e. w.if-as_slice-depth.false (ap length c.as_slice.ensures ∙ e)) (ap (λ (b : Bor (List Export)). b.now) w.below-is)
    ]
