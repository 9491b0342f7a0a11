use Rattle.std.proofs.Common.{◌*◌, drop}
use Rattle.slide_chain.specs.Chains.{page_reached, each_page}
use Rattle.slide_chain.proofs.MovingLaws.{Moving}
use Rattle.slide_chain.proofs.unsliding.unslide_pages.Given as goal

-- the words of the pages passed were set, and the others are as they were
abbrev pub invariant-loop-i : goal.invariant-loop-i
invariant-loop-i l =
    Moving l.mask l.value_add l.initial.area l.area (each_page (page_reached l.mask l.extras l.initial.area) (l.i * 4096) (drop l.i l.starts)) (each_page (page_reached l.mask l.extras l.initial.area) 0 l.starts)
