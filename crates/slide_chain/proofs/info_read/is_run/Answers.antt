use Rattle.std.proofs.Common.{◌∙◌, sym, arith}
use Rattle.slide_chain.proofs.InfoLaws.{shifted-fits, is_run-true, is_run-low}
use Rattle.slide_chain.proofs.info_read.is_run.Goals as goal

pub is_low_run-requires : goal.is_low_run-requires
is_low_run-requires c = shifted-fits c.args.mask _ (omega arith) c.if-low-lt64.true.0

pub returns-then-low-lt64-clause-run : goal.returns-then-low-lt64-clause-run
returns-then-low-lt64-clause-run c = λ passes.
    is_run-true c.args.mask (omega arith) (is_run-low c.args.mask c.if-low-lt64.true.0 c.if-low-lt64.true.1 ∙ (sym c.is_low_run.ensures ∙ passes))
