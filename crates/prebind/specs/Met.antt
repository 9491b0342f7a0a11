-- The view of the re-exports that were met.
use Rattle.std.specs.Prelude.{ℕ, List}
use Rattle.std.specs.Borrow.{Bor}
use Rattle.prebind.specs.Resolves.{Pair}

abbrev pub pair_of : ℕ × Bor (List ℕ) → Pair
pair_of k = (k.0, k.1.now)
