-- Each turn sets the first of the edits that are left; at the end none is left.
use Rattle.std.proofs.Common.{◌≡◌, ◌∙◌, ◌+◌, ℕ, List, [], drop, sym, ap}
use Rattle.std.proofs.lemmas.List.{drop_all}
use Rattle.dsc_base.specs.declared.edits.Edit.{Edit}
use Rattle.dsc_base.specs.Edits.{put_all}
use Rattle.dsc_base.proofs.EditLaws.{put_all-drop}
use Rattle.dsc_base.proofs.edits.put_edits.Goals as goal

pub loop-edit-preserved : goal.loop-edit-preserved
loop-edit-preserved c =
    ap (λ (b : List ℕ). put_all (drop (c.loop-edit.edit-index + 1) c.args.edits.now) b) c.put_bytes.ensures
    ∙ (sym (put_all-drop c.args.edits.now c.loop-edit.edit-index c.loop-edit.bytes
    record { at = 0; width = 0; value = 0 } c.loop-edit-test.true) ∙ c.loop-edit.invariant)

pub returns : goal.returns
unfolding put_all
returns c =
    let none : drop c.loop-edit.edit-index c.args.edits.now ≡ [] = drop_all c.loop-edit.edit-index c.args.edits.now c.loop-edit-test.false in
    ap (λ (es : List Edit). put_all es c.loop-edit.bytes) (sym none) ∙ c.loop-edit.invariant
