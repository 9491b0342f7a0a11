-- The files so far and those that are left.
use Rattle.std.proofs.Common.{◌≡◌, ◌-◌, ◌++◌, map}
use Rattle.dsc_gen.specs.Draws.{seeded}
use Rattle.dsc_gen.specs.Files.{files_from}
use Rattle.dsc_gen.proofs.files.generate.Given as goal

abbrev pub invariant-loop-k : goal.invariant-loop-k
invariant-loop-k l = map (λ file. file.items) l.files.items ++ files_from l.shape l.k (l.count - l.k) l.generator ≡ files_from l.shape 0 l.count (seeded l.seed)
