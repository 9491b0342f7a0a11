use Rattle.dep_closure.specs.SearchOrder.{reexports_of}
use Rattle.dep_closure.proofs.LinkLaws.{AreMade}
use Rattle.dep_closure.proofs.links.all_reexports.Given as goal

abbrev pub invariant-loop-image : goal.invariant-loop-image
invariant-loop-image l = AreMade (reexports_of l.images) l.images l.found.items l.image-index
