-- The fact that a map of install names keeps.
use Rattle.std.specs.Prelude.{◌≡◌, ℕ, List}
use Rattle.std.specs.Map.{lookup}
use Rattle.macho_image.specs.Rules.{same_bytes}
use Rattle.dep_closure.specs.declared.names.Names.TheInside.{Inside}
use Rattle.dep_closure.specs.Dependencies.{image_named}

-- each name has the number of the first image that has it
abbrev pub AreNumbered : Inside → Type 0
AreNumbered n = (name : List ℕ) → lookup (λ k. same_bytes name k.now) n.numbers.entries ≡ image_named n.images.now name
