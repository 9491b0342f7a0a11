-- What the code makes ready for a linkedit of its own: the parts by what they are made of, and their sizes.
use Rattle.std.specs.Prelude.{ℕ, ◌*◌, List, [], ◌∷◌, length}
use Rattle.std.specs.List.{flat_map}
use Rattle.dsc_base.specs.Numbers.{little_bytes}
use Rattle.macho_image.specs.Records.{Img}
use Rattle.nlist_table.specs.Symbols.{Tabs}
use Rattle.linkedit_merge.specs.Linkedit.{symbol_bytes}
use Rattle.linkedit_merge.specs.Parts.{end_behind}
use Rattle.linkedit_merge.specs.Pool.{pooled_behind, pool_bytes, symbol_names}
use Rattle.linkedit_merge.specs.Indices.{pool_len}

-- the names of a table's symbols, in a pool
abbrev pub names_in : Tabs → List (List ℕ)
names_in t = pooled_behind [] (flat_map symbol_names t.symbols)

-- all parts, by the rebase stream, the tables and the names of the pool
abbrev pub own_parts : Img → List ℕ → Tabs → List (List ℕ) → List (List ℕ)
own_parts i rebase t names =
    rebase ∷ i.streams.bind ∷ i.streams.lazy ∷ i.streams.exports ∷ i.streams.function_starts ∷ i.streams.data_in_code
    ∷ flat_map (symbol_bytes names) t.symbols ∷ flat_map (little_bytes 4) t.indirect ∷ pool_bytes names ∷ []

-- and by lengths alone, of so many symbols and indices
abbrev pub own_lens : Img → ℕ → ℕ → ℕ → ℕ → List ℕ
own_lens i rebase symbols indirect pool =
    rebase ∷ length i.streams.bind ∷ length i.streams.lazy ∷ length i.streams.exports ∷ length i.streams.function_starts ∷ length i.streams.data_in_code
    ∷ 16 * symbols ∷ 4 * indirect ∷ pool ∷ []

abbrev pub own_size : Img → ℕ → ℕ → ℕ → ℕ → ℕ
own_size i rebase symbols indirect pool = end_behind 0 (own_lens i rebase symbols indirect pool)

-- the same of tables
abbrev pub table_size : Img → ℕ → Tabs → ℕ
table_size i rebase t = own_size i rebase (length t.symbols) (length t.indirect) (pool_len (names_in t))
