use Rattle.ref_rewrite.specs.Steps.{new_count}
use Rattle.ref_rewrite.proofs.EditFits.{fit_pushed}
use Rattle.ref_rewrite.proofs.ReferenceLaws.{pointer_fits}
use Rattle.ref_rewrite.proofs.references.push_reference.Goals as goal

pub returns-then-is_pointer-clause-misfits : goal.returns-then-is_pointer-clause-misfits
returns-then-is_pointer-clause-misfits c =
    pointer_fits c.args.reference.now.kind (new_count c.args.moving.now.layout.now c.args.moving.now.number c.args.moving.now.segments.now c.args.reference.now) c.is_pointer.result c.is_pointer.ensures c.if-is_pointer.true

pub returns-clause-fit : goal.returns-clause-fit
returns-clause-fit c = fit_pushed c.args.edits.now.items c.push.new.self.items c.reference_edit.result c.in_ok-push.ensures.items c.reference_edit.ensures.fits
