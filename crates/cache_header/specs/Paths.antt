-- The paths of a cache's tables.
use Rattle.std.specs.Prelude.{ℕ, Bool, nat_eq}

abbrev pub is_nul : ℕ → Bool
is_nul x = nat_eq x 0
