-- Exports by their names.
use Rattle.std.specs.Prelude.{ℕ, List, map, Vec}
use Rattle.std.specs.declared.alloc.Global.{Global}
use Rattle.export_trie.specs.declared.export.Export.{Export}
use Rattle.export_trie.specs.declared.index.Meaning.{Meaning}

-- the exports that names stand for
abbrev pub export_named : Vec ℕ Global × Meaning → Export
export_named entry = record { name = entry.0.items; flags = entry.1.flags; target = entry.1.target }

abbrev pub exports_in : List (Vec ℕ Global × Meaning) → List Export
exports_in entries = map export_named entries
