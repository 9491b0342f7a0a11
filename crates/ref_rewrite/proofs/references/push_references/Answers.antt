use Rattle.std.proofs.Common.{Bool, ◌||◌, sym, ap, ◌∙◌, arith}
use Rattle.ref_rewrite.specs.Steps.{misfits}
use Rattle.ref_rewrite.proofs.ReferenceLaws.{edits_more, misfits_more}
use Rattle.ref_rewrite.proofs.references.push_references.Goals as goal
use Rattle.ref_rewrite.proofs.references.push_references.Goals.{then-misfit, else-misfit}

pub loop-reference-preserved : goal.loop-reference-preserved
loop-reference-preserved c =
    let l = c.args.moving.now.layout.now in
    let k = c.args.moving.now.number in
    let ss = c.args.moving.now.segments.now in
    let i = c.loop-reference.reference-index in
    let more = misfits_more (misfits l k ss) c.args.references.now i _ c.loop-reference.misfit c.in_ok-last.last (omega arith) c.loop-reference.invariant.misfits c.in_ok-last.ensures.misfits in
    record {
      edits = edits_more l k ss c.args.references.now i _ c.args.edits.now.items c.loop-reference.edits.items c.push_reference.new.edits.items (omega arith) c.loop-reference.invariant.edits c.in_ok-last.ensures.edits;
      fit = λ before. c.in_ok-last.ensures.fit (c.loop-reference.invariant.fit before);
      misfits = elim c.if-misfit.branch [
        | then-misfit w ↦ w.misfit-is ∙ (w.if-misfit.true ∙ (sym (ap (λ (b : Bool). b || c.in_ok-last.last) w.if-misfit.true) ∙ more))
        | else-misfit w ↦ w.misfit-is ∙ (sym (ap (λ (b : Bool). b || c.in_ok-last.last) w.if-misfit.false) ∙ more)
      ];
    }
