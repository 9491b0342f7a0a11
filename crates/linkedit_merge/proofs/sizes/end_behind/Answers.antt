use Rattle.std.proofs.Common.{ℕ, ◌+◌, drop, ap, ◌∙◌, sym, arith, get_or}
use Rattle.linkedit_merge.specs.Parts.{end_with, end_behind}
use Rattle.linkedit_merge.proofs.SizeLaws.{end_more, end_all, exceeds_exit}
use Rattle.linkedit_merge.proofs.PartLaws.{end-rises}
use Rattle.linkedit_merge.proofs.sizes.end_behind.Goals as goal

pub loop-len-preserved : goal.loop-len-preserved
loop-len-preserved c =
    let size = c.in_ok-end.ensures.size in (
      ap (λ (n : ℕ). end_behind n (drop (c.loop-len.len-index + 1) c.args.lens.now)) size.0
          ∙ (sym (end_more c.loop-len.end c.args.lens.now c.loop-len.len-index c.loop-len-test.true) ∙ c.loop-len.invariant.0),
      omega (arith, size.0, size.1),
    )

pub returns-in_err-end-clause-cause : goal.returns-in_err-end-clause-cause
returns-in_err-end-clause-cause c =
    let next = end_with c.loop-len.end (get_or c.args.lens.now c.loop-len.len-index 0) in
    let whole = sym c.loop-len.invariant.0 ∙ end_more c.loop-len.end c.args.lens.now c.loop-len.len-index c.loop-len-test.true in
    exceeds_exit c.args.limit next (end_behind c.args.before c.args.lens.now) c.from_residual.result c.in_err-end.field-0.0
    (omega (arith, whole, end-rises next (drop (c.loop-len.len-index + 1) c.args.lens.now)))
    c.from_residual.ensures.1 c.in_err-end.ensures.cause

pub returns-clause-size : goal.returns-clause-size
returns-clause-size c =
    let whole = sym (end_all c.loop-len.end c.args.lens.now c.loop-len.len-index c.loop-len-test.false) ∙ c.loop-len.invariant.0 in
    (whole, omega (arith, whole, c.loop-len.invariant.1))
