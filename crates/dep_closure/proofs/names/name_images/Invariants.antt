use Rattle.std.specs.Map.{lookup}
use Rattle.macho_image.specs.Rules.{same_bytes}
use Rattle.dep_closure.proofs.NameLaws.{AreNumberedTo}
use Rattle.dep_closure.proofs.names.name_images.Given as goal

abbrev pub invariant-loop-number : goal.invariant-loop-number
invariant-loop-number l = AreNumberedTo l.images (λ name. lookup (λ k. same_bytes name k.now) l.numbers.entries) l.number
