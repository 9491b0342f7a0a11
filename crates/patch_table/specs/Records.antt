-- The value by which contracts see a table of patches.
use Rattle.std.specs.Prelude.{ℕ, Bool, List}
use Rattle.patch_table.specs.declared.patches.Record.{Record}

pub record Table : Type 0 where
  pub cache_uuid : List ℕ
  pub program : Bool
  pub image : ℕ
  pub cached : List Record
  pub own : List Record
