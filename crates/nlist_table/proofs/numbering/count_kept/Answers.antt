use Rattle.std.proofs.Common.{◌≡◌, ◌+◌, true, false, ap, arith}
use Rattle.macho_image.specs.Nlists.{Nlist}
use Rattle.nlist_table.proofs.CountLaws.{kept_more, counted_more}
use Rattle.nlist_table.proofs.numbering.count_kept.Goals as goal
use Rattle.nlist_table.proofs.numbering.count_kept.Goals.{then-not-is_stab, else-not-is_stab}

pub loop-entry-preserved : goal.loop-entry-preserved
loop-entry-preserved c =
    let kind = ap (λ (e : Nlist). e.kind) c.entry.view_is in
    let step = kept_more c.args.entries.now c.loop-entry.entry-index c.entry-item.result c.entry.inside.kind in
    counted_more c.args.entries.now c.loop-entry.entry-index c.entry-item.result c.loop-entry.before.items c.push-in-loop-entry.new.self.items c.loop-entry.kept c.if-not-is_stab.kept
    c.loop-entry.invariant c.loop-entry-test.true
    (elim c.if-not-is_stab.branch [
      | then-not-is_stab w ↦ step false c.loop-entry.kept c.if-not-is_stab.kept c.entry-item.is kind w.if-not-is_stab.ensures w.kept-is
      | else-not-is_stab w ↦
          let same : c.if-not-is_stab.kept ≡ c.loop-entry.kept + 0 = omega (arith, w.kept-is) in
          step true c.loop-entry.kept c.if-not-is_stab.kept c.entry-item.is kind w.if-not-is_stab.ensures same
    ])
    c.in_ok-push-2.ensures.items
