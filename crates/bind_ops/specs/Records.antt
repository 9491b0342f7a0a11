-- The values by which contracts see binds: names as lists of bytes.
use Rattle.std.specs.Prelude.{ℕ, ℤ, Bool, List}
use Rattle.macho_image.specs.declared.place.Location.{Location}

-- a symbol, which may be absent where it is weak
pub record SymbolName : Type 0 where
  pub name : List ℕ
  pub weak : Bool

-- a word that is bound: its place, the dylib in which the symbol is sought, the symbol, and what is added to its address
pub record BoundWord : Type 0 where
  pub at : Location
  pub ordinal : ℕ
  pub name : List ℕ
  pub weak : Bool
  pub addend : ℤ
