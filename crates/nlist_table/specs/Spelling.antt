-- How entries of symbol tables are spelled.
use Rattle.std.specs.Prelude.{◌<◌, ℕ, ◌^◌, List, ◌∷◌, ◌++◌}
use Rattle.dsc_base.specs.Numbers.{little_bytes}
use Rattle.macho_image.specs.Nlists.{Nlist}

-- the bytes that spell an entry, where its fields fit
abbrev pub nlist_bytes : Nlist → List ℕ
nlist_bytes e = little_bytes 4 e.strx ++ (e.kind ∷ (e.section ∷ (little_bytes 2 e.desc ++ little_bytes 8 e.value)))

pub record FitsNlist (e : Nlist) : Type 0 where
  pub strx : e.strx < 2 ^ 32
  pub desc : e.desc < 2 ^ 16
  pub value : e.value < 2 ^ 64
