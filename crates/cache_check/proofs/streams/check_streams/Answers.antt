use Rattle.std.proofs.lemmas.Result.{err_from_is_err_and}
use Rattle.cache_check.specs.Images.{stream_finding}
use Rattle.cache_check.proofs.EachLaws.{clear_more, clear_refused, clear_none}
use Rattle.cache_check.proofs.streams.check_streams.Goals as goal

pub loop-number-preserved : goal.loop-number-preserved
loop-number-preserved c =
    clear_more stream_finding c.args.images.now c.loop-number.number c.index-images-number.result c.loop-number.invariant c.loop-number-test.true c.index-images-number.is c.in_ok-check_image.ensures

pub returns-in_err-check_image : goal.returns-in_err-check_image
returns-in_err-check_image c =
    let p = err_from_is_err_and c.from_residual.result c.from_residual.ensures.1 in
    rw (p.1, p.2) (clear_refused stream_finding c.args.images.now c.loop-number.number c.index-images-number.result c.in_err-check_image.field-0.0 c.loop-number.invariant c.loop-number-test.true c.index-images-number.is c.in_err-check_image.ensures)

pub returns : goal.returns
returns c = clear_none stream_finding c.args.images.now c.loop-number.number c.loop-number.invariant c.loop-number-test.false
