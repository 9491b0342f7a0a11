use Rattle.std.proofs.Common.{◌≡◌, [], take}
use Rattle.slide_chain.specs.Chains.{page_leaving, each_page}
use Rattle.slide_chain.proofs.reading.first_leaving.Given as goal

-- no chain leaves the pages passed
abbrev pub invariant-loop-i : goal.invariant-loop-i
invariant-loop-i l = each_page (page_leaving l.mask l.extras l.area) 0 (take l.i l.starts) ≡ []
