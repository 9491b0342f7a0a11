-- Which of several comes first, where they are tried by their numbers.
use Rattle.std.specs.Prelude.{ℕ, zero, suc, Option, None}
use Rattle.std.specs.Option.{option_or}

-- the first of those of 0, .., n - 1
unfoldable pub first_below : {X : Type 0} → (ℕ → Option X) → ℕ → Option X
first_below f zero = None
first_below f (suc n) = option_or (first_below f n) (f n)
