use Rattle.std.proofs.Common.{◌++◌, ◌∷◌, [], ap, ◌∙◌, arith}
use Rattle.dsc_base.specs.declared.edits.Edit.{Edit}
use Rattle.prebind.specs.Words.{pointer_word}
use Rattle.ref_rewrite.specs.Moving.{edit_of}
use Rattle.ref_rewrite.proofs.EditFits.{mapped_more, fit_pushed}
use Rattle.ref_rewrite.proofs.pointers.push_pointers.Goals as goal

pub loop-word-preserved : goal.loop-word-preserved
loop-word-preserved c =
    let old = c.loop-word.edits.items in
    record {
      edits = mapped_more (edit_of c.args.moving.now.layout.now c.args.moving.now.number c.args.moving.now.segments.now) pointer_word c.args.words.now c.loop-word.word-index _ c.args.edits.now.items old c.push.new.self.items (omega arith)
          c.loop-word.invariant.edits (c.in_ok-push.ensures.items ∙ ap (λ (e : Edit). old ++ e ∷ []) c.pointer_edit.ensures.edit);
      fit = λ before. fit_pushed old c.push.new.self.items c.pointer_edit.result c.in_ok-push.ensures.items c.pointer_edit.ensures.fits (c.loop-word.invariant.fit before);
    }
