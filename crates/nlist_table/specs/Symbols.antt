-- The tables of an image without its stabs: symbols with their names, and the indices that lead to them.
use Rattle.std.specs.Prelude.{ℕ, ◌+◌, List, [], ◌∷◌, length, map, filter, take, drop, count_by, slice_index, Option, None, unwrap_or, if◌then◌else◌}
use Rattle.std.specs.List.{flat_map, range_with_len}
use Rattle.macho_image.specs.Records.{Img}
use Rattle.macho_image.specs.Nlists.{Nlist, nlists_of, is_kept, is_alias, name_at, indirect_of, is_flag}

-- a symbol
pub record Sym : Type 0 where
  pub name : List ℕ
  pub alias : Option (List ℕ)
  pub kind : ℕ
  pub section : ℕ
  pub desc : ℕ
  pub value : ℕ

-- the tables
pub record Tabs : Type 0 where
  pub symbols : List Sym
  pub indirect : List ℕ
  pub groups : List ℕ

-- the symbol of an entry. The value of an alias is the name that its number tells
abbrev pub alias_of : List ℕ → Nlist → Option (List ℕ)
alias_of strings e = if is_alias e.kind then name_at strings e.value else None

abbrev pub value_of : Nlist → ℕ
value_of e = if is_alias e.kind then 0 else e.value

unfoldable pub symbol_of : List ℕ → Nlist → Sym
symbol_of strings e = record { name = unwrap_or (name_at strings e.strx) []; alias = alias_of strings e; kind = e.kind; section = e.section; desc = e.desc; value = value_of e }

abbrev pub symbols_of : List ℕ → List Nlist → List Sym
symbols_of strings es = map (symbol_of strings) (filter is_kept es)

-- an entry that is kept gets as its index the number of kept entries before it
abbrev pub kept_before : List Nlist → ℕ → ℕ
kept_before es index = count_by is_kept (take index es)

abbrev pub renumbered : List Nlist → ℕ → ℕ
renumbered es index = if is_flag index then index else kept_before es index

-- the indices of all entries, and of the place behind the last
abbrev pub indices_of : List Nlist → List ℕ
indices_of es = map (kept_before es) (range_with_len 0 (length es + 1))

-- a group of n entries from an index has those of them that are kept
abbrev pub regrouped : List Nlist → ℕ → ℕ → List ℕ
regrouped es index n = kept_before es index ∷ count_by is_kept (take n (drop index es)) ∷ []

abbrev pub kept_groups : List Nlist → List ℕ → List ℕ
kept_groups es groups = flat_map (λ k. regrouped es (slice_index groups k) (slice_index groups (k + 1))) (0 ∷ 2 ∷ 4 ∷ [])

abbrev pub tables_from : List ℕ → List Nlist → List ℕ → List ℕ → Tabs
tables_from strings es groups indirect = record { symbols = symbols_of strings es; indirect = map (renumbered es) indirect; groups = kept_groups es groups }

-- the tables of an image
unfoldable pub tables_of : Img → Tabs
tables_of image = tables_from image.streams.strings (nlists_of image.streams.symbols) image.groups (indirect_of image.streams.indirect)
