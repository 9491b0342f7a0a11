use Rattle.dep_closure.specs.Dependencies.{dependencies_of}
use Rattle.dep_closure.proofs.LinkLaws.{AreMade, IsUnbroken}
use Rattle.dep_closure.proofs.links.all_dependencies.Given as goal

abbrev pub invariant-loop-number : goal.invariant-loop-number
invariant-loop-number l = record {
  made : AreMade (dependencies_of l.images) l.images l.found.items l.number;
  unbroken : IsUnbroken l.images l.number;
}
