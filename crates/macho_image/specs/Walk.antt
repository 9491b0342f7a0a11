-- Load commands, one after the other.
use Rattle.std.specs.Prelude.{◌≡◌, ◌<◌, ℕ, ◌+◌, ◌^◌, List, length, None}
use Rattle.macho_image.specs.Rules.{misshapen}

-- so many whole commands from an offset on are all of the rest of a header
pub record AreWhole (left at : ℕ) (rest : List ℕ) : Type 0 where
  pub shape : misshapen left at rest ≡ None
  pub short : at + length rest < 2 ^ 64
