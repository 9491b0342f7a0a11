use Rattle.std.proofs.Common.{◌∙◌, get_or, sym}
use Rattle.slide_chain.proofs.RunLaws.{run_ends-is, endless-more, endless-found, endless-none}
use Rattle.slide_chain.proofs.runs.endless_page.Goals as goal

pub loop-page-preserved : goal.loop-page-preserved
loop-page-preserved c =
    endless-more c.args.extras.now c.args.starts.now c.loop-page.page _ c.loop-page-test.true
    (run_ends-is c.args.extras.now (get_or c.args.starts.now c.loop-page.page 0) c.runs_end-end.result c.runs_end-end.ensures.behind c.runs_end-end.ensures.last ∙ (sym c.run_ends.ensures ∙ c.if-not-run_ends.false)) c.loop-page.invariant

pub returns-then-not-run_ends : goal.returns-then-not-run_ends
returns-then-not-run_ends c =
    endless-found c.args.extras.now c.args.starts.now c.loop-page.page _ c.loop-page-test.true
    (run_ends-is c.args.extras.now (get_or c.args.starts.now c.loop-page.page 0) c.runs_end-end.result c.runs_end-end.ensures.behind c.runs_end-end.ensures.last ∙ (sym c.run_ends.ensures ∙ c.if-not-run_ends.true)) c.loop-page.invariant

pub returns : goal.returns
returns c = endless-none c.args.extras.now c.args.starts.now c.loop-page.page _ c.loop-page-test.false c.loop-page.invariant
