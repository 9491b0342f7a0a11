-- A sound set and its layout have what the images need.
use Rattle.std.proofs.Common.{◌∙◌, sym, ap, Some, Option}
use Rattle.dsc_base.specs.declared.fault.Break.{Break}
use Rattle.prebind.specs.Steps.{set_of}
use Rattle.linkedit_merge.specs.Shares.{shares_of}
use Rattle.linkedit_merge.proofs.MergeLaws.{slide_breaks}
use Rattle.linkedit_merge.proofs.SetLaws.{accepted, have_moves, segments_within}
use Rattle.linkedit_merge.proofs.merging.merge.Goals as goal

pub merge_images-requires-clause-accepted : goal.merge_images-requires-clause-accepted
merge_images-requires-clause-accepted c = accepted (set_of c.args.set.now) c.requires.sound

pub merge_images-requires-clause-moves : goal.merge_images-requires-clause-moves
merge_images-requires-clause-moves c = have_moves c.args.layout.now c.args.set.now.images.now c.requires.layout

pub merge_images-requires-clause-segments : goal.merge_images-requires-clause-segments
merge_images-requires-clause-segments c = segments_within c.args.layout.now c.args.set.now.images.now c.requires.layout c.requires.fits

pub returns-then-slide_size-gt-SPAN_LIMIT-clause-cause : goal.returns-then-slide_size-gt-SPAN_LIMIT-clause-cause
returns-then-slide_size-gt-SPAN_LIMIT-clause-cause c =
    slide_breaks c.args.layout.now c.args.slide_size (shares_of c.args.set.now.images.now c.args.tables.now c.args.layout.now.moves) c.if-slide_size-gt-SPAN_LIMIT.true
    ∙ ap (λ (x : Break). let o : Option Break = Some x in o) (sym c.too_large.ensures)
