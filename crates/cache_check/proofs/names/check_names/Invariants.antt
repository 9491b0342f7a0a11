use Rattle.cache_check.specs.Images.{name_finding}
use Rattle.cache_check.proofs.EachLaws.{AreClear}
use Rattle.cache_check.proofs.names.check_names.Given as goal

abbrev pub invariant-loop-number : goal.invariant-loop-number
invariant-loop-number l = AreClear (name_finding l.flat) l.entries l.number
