-- What is true of a command that is at least as long as its structure.
use Rattle.std.specs.Prelude.{◌≡◌, ◌≤◌, ℕ, List, length}
use Rattle.macho_image.specs.Macho.{number_of}
use Rattle.macho_image.specs.Rules.{least_size}

-- a command with the number n
pub record IsWhole (n : ℕ) (c : List ℕ) : Type 0 where
  pub number : n ≡ number_of c
  pub size : least_size n ≤ length c
