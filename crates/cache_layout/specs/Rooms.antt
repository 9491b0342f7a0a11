-- A number for each mapping.
use Rattle.std.specs.Prelude.{ℕ}
use Rattle.cache_layout.specs.declared.mapping.Mapping.{Mapping}
use Rattle.cache_layout.specs.declared.mapping.Mapping.TheVariants.{Text, Writable, Fixed}
use Rattle.cache_layout.specs.declared.room.Room.{Room}

abbrev pub held : Room → Mapping → ℕ
held r Text = r.text
held r Writable = r.writable
held r Fixed = r.fixed
