use Rattle.std.proofs.Common.{◌≡◌, drop}
use Rattle.slide_chain.specs.Chains.{endless_page}
use Rattle.slide_chain.proofs.runs.endless_page.Given as goal

-- the runs of the pages passed end
abbrev pub invariant-loop-page : goal.invariant-loop-page
invariant-loop-page l = endless_page l.extras l.page (drop l.page l.starts) ≡ endless_page l.extras 0 l.starts
