use Rattle.std.proofs.Common.{List, map, ap, ◌∙◌}
use Rattle.std.proofs.lemmas.List.{take_all}
use Rattle.cache_header.specs.Records.{Entry}
use Rattle.cache_check.specs.Images.{image_in, broken_finding}
use Rattle.cache_check.proofs.EachLaws.{clear_start, clear_more, clear_refused, clear_none, grown}
use Rattle.cache_check.proofs.images.read_images.Goals as goal

pub loop-number-init : goal.loop-number-init
loop-number-init c = record { clear = clear_start (broken_finding c.args.flat.now) c.args.entries.now; images = c.in_ok-images.ensures.items }

pub loop-number-preserved : goal.loop-number-preserved
loop-number-preserved c = record {
  clear = clear_more (broken_finding c.args.flat.now) c.args.entries.now c.loop-number.number c.index-entries-number.result c.loop-number.invariant.clear c.loop-number-test.true c.index-entries-number.is c.in-Ok.ensures.cause;
  images = grown (image_in c.args.flat.now) c.args.entries.now c.loop-number.number c.index-entries-number.result c.loop-number.images.items c.push_image.new.images.items c.in-Ok.image c.loop-number-test.true c.index-entries-number.is
      c.loop-number.invariant.images c.in-Ok.ensures.image c.in_ok-push_image-in-Ok.ensures;
}

pub returns-in-Err-clause-cause : goal.returns-in-Err-clause-cause
returns-in-Err-clause-cause c =
    clear_refused (broken_finding c.args.flat.now) c.args.entries.now c.loop-number.number c.index-entries-number.result c.in-Err.fault c.loop-number.invariant.clear c.loop-number-test.true c.index-entries-number.is c.in-Err.ensures.cause

pub returns-clause-images : goal.returns-clause-images
returns-clause-images c = c.loop-number.invariant.images ∙ ap (λ (es : List Entry). map (image_in c.args.flat.now) es) (take_all c.loop-number.number c.args.entries.now c.loop-number-test.false)

pub returns-clause-cause : goal.returns-clause-cause
returns-clause-cause c = clear_none (broken_finding c.args.flat.now) c.args.entries.now c.loop-number.number c.loop-number.invariant.clear c.loop-number-test.false
