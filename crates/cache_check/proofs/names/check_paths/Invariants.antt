use Rattle.std.specs.Map.{lookup}
use Rattle.macho_image.specs.Rules.{same_bytes}
use Rattle.cache_check.specs.Images.{twice_finding}
use Rattle.cache_check.proofs.EachLaws.{AreClear}
use Rattle.cache_check.proofs.PathLaws.{AreNumbered}
use Rattle.cache_check.proofs.names.check_paths.Given as goal

abbrev pub invariant-loop-number : goal.invariant-loop-number
invariant-loop-number l = record {
  clear : AreClear (twice_finding l.entries) l.entries l.number;
  numbered : AreNumbered l.entries (λ name. lookup (λ k. same_bytes name k.now) l.numbers.entries) l.number;
}
