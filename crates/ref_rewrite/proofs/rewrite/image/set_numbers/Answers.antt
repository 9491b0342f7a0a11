-- Each turn sets the first of the edits that are left in the spans; at the end none is left.
use Rattle.dsc_base.specs.Edits.{put_all}
use Rattle.ref_rewrite.specs.Rewritten.{edits_in}
use Rattle.ref_rewrite.proofs.SpanLaws.{edits_turn, edits_end, fits_at}
use Rattle.ref_rewrite.proofs.rewrite.image.set_numbers.Goals as goal

pub set_in-requires-clause-value : goal.set_in-requires-clause-value
set_in-requires-clause-value c = fits_at c.args.edits.now c.loop-edit.edit-index record { at = 0; width = 0; value = 0 } c.loop-edit-test.true c.requires.values

pub set_in-requires-in-loop-edit-clause-value : goal.set_in-requires-in-loop-edit-clause-value
set_in-requires-in-loop-edit-clause-value c = fits_at c.args.edits.now c.loop-edit.edit-index record { at = 0; width = 0; value = 0 } c.loop-edit-test.true c.requires.values

pub set_in-requires-in-loop-edit-2-clause-value : goal.set_in-requires-in-loop-edit-2-clause-value
set_in-requires-in-loop-edit-2-clause-value c = fits_at c.args.edits.now c.loop-edit.edit-index record { at = 0; width = 0; value = 0 } c.loop-edit-test.true c.requires.values

pub loop-edit-preserved : goal.loop-edit-preserved
loop-edit-preserved c = record {
  text = edits_turn c.args.spans.text c.args.edits.now c.loop-edit.edit-index record { at = 0; width = 0; value = 0 } c.loop-edit.text c.set_in.new.area (put_all (edits_in c.args.spans.text c.args.edits.now) c.args.text.now) c.loop-edit-test.true c.loop-edit.invariant.text c.set_in.ensures;
  writable = edits_turn c.args.spans.writable c.args.edits.now c.loop-edit.edit-index record { at = 0; width = 0; value = 0 } c.loop-edit.writable c.set_in-in-loop-edit.new.area (put_all (edits_in c.args.spans.writable c.args.edits.now) c.args.writable.now) c.loop-edit-test.true c.loop-edit.invariant.writable c.set_in-in-loop-edit.ensures;
  fixed = edits_turn c.args.spans.fixed c.args.edits.now c.loop-edit.edit-index record { at = 0; width = 0; value = 0 } c.loop-edit.fixed c.set_in-in-loop-edit-2.new.area (put_all (edits_in c.args.spans.fixed c.args.edits.now) c.args.fixed.now) c.loop-edit-test.true c.loop-edit.invariant.fixed c.set_in-in-loop-edit-2.ensures;
}

pub returns-clause-text : goal.returns-clause-text
returns-clause-text c = edits_end c.args.spans.text c.args.edits.now c.loop-edit.edit-index c.loop-edit.text (put_all (edits_in c.args.spans.text c.args.edits.now) c.args.text.now) c.loop-edit-test.false c.loop-edit.invariant.text

pub returns-clause-writable : goal.returns-clause-writable
returns-clause-writable c = edits_end c.args.spans.writable c.args.edits.now c.loop-edit.edit-index c.loop-edit.writable (put_all (edits_in c.args.spans.writable c.args.edits.now) c.args.writable.now) c.loop-edit-test.false c.loop-edit.invariant.writable

pub returns-clause-fixed : goal.returns-clause-fixed
returns-clause-fixed c = edits_end c.args.spans.fixed c.args.edits.now c.loop-edit.edit-index c.loop-edit.fixed (put_all (edits_in c.args.spans.fixed c.args.edits.now) c.args.fixed.now) c.loop-edit-test.false c.loop-edit.invariant.fixed
