use Rattle.std.proofs.Common.{◌*◌, arith}
use Rattle.linkedit_merge.proofs.SizeLaws.{exceeds_exit}
use Rattle.extractor.specs.ExtractOf.{linkedit_limit}
use Rattle.extractor.specs.Prepared.{own_size}
use Rattle.extractor.proofs.PreparedLaws.{all_below}
use Rattle.extractor.proofs.linkedit.measure.Goals as goal

pub returns-in_err-symbols-clause-cause : goal.returns-in_err-symbols-clause-cause
returns-in_err-symbols-clause-cause c =
    let below = all_below c.args.image.now c.args.rebase c.args.symbols c.args.indirect c.args.pool in
    exceeds_exit linkedit_limit (16 * c.args.symbols) (own_size c.args.image.now c.args.rebase c.args.symbols c.args.indirect c.args.pool) c.from_residual.result c.in_err-symbols.field-0.0
    (omega (arith, below.symbols_below)) c.from_residual.ensures.1 c.in_err-symbols.ensures.cause

pub returns-in_err-indirect-clause-cause : goal.returns-in_err-indirect-clause-cause
returns-in_err-indirect-clause-cause c =
    let below = all_below c.args.image.now c.args.rebase c.args.symbols c.args.indirect c.args.pool in
    exceeds_exit linkedit_limit (4 * c.args.indirect) (own_size c.args.image.now c.args.rebase c.args.symbols c.args.indirect c.args.pool) c.from_residual-in_err-indirect.result c.in_err-indirect.field-0.0
    (omega (arith, below.indirect_below)) c.from_residual-in_err-indirect.ensures.1 c.in_err-indirect.ensures.cause
