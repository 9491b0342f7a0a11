-- What is true of the tables of every image that keeps the rules, and what they keep of its own tables.
use Rattle.std.specs.Prelude.{◌≡◌, ◌≤◌, ◌<◌, ℕ, ◌+◌, Bool, true, false, List, length, take, drop, slice_index, slice_get, All, Option, Some, None}
use Rattle.std.specs.List.{AllZip}
use Rattle.macho_image.specs.Records.{Img}
use Rattle.macho_image.specs.Nlists.{Nlist, nlists_of, is_stab, is_in_section, is_alias, indirect_of, is_flag}
use Rattle.nlist_table.specs.Symbols.{Sym, Tabs, symbol_of, symbols_of}

-- a name that a string table may hold
pub record IsName (name : List ℕ) : Type 0 where
  pub short : length name < 16384
  pub plain : All (λ x. 0 < x) name

-- what stands beside a symbol: where it is another name for one, that one's name, and no value; and nothing where it isn't
abbrev pub HasAlias : Bool → Option (List ℕ) → ℕ → Type 0
HasAlias true (Some name) value = IsName name × (value ≡ 0)
HasAlias true None value = ⊥
HasAlias false alias value = alias ≡ None

-- a symbol that is defined in a section names one of the n sections, which count from 1
abbrev pub HasSection : ℕ → ℕ → ℕ → Type 0
HasSection n kind section = is_in_section kind ≡ true → (1 ≤ section) × (section ≤ n)

pub record IsSymbol (n : ℕ) (s : Sym) : Type 0 where
  pub kept : is_stab s.kind ≡ false
  pub name : IsName s.name
  pub alias : HasAlias (is_alias s.kind) s.alias s.value
  pub section : HasSection n s.kind s.section

-- of each of the three groups, by the number of its first field among the six
abbrev pub EachGroup : (ℕ → Type 0) → Type 0
EachGroup P = P 0 × P 2 × P 4

-- tables of an image with n sections: no symbol is a stab, and each index and each group lies in the table of symbols
pub record AreTables (n : ℕ) (t : Tabs) : Type 0 where
  pub symbols : All (IsSymbol n) t.symbols
  pub indirect : All (λ index. is_flag index ≡ false → index < length t.symbols) t.indirect
  pub groups : EachGroup (λ k. slice_index t.groups k + slice_index t.groups (k + 1) ≤ length t.symbols)

-- a flag stays, and an index leads to the symbol of the entry to which it led
pub record IsRenumbered (strings : List ℕ) (es : List Nlist) (symbols : List Sym) (old new : ℕ) : Type 0 where
  pub flag : is_flag old ≡ true → new ≡ old
  pub index : is_flag old ≡ false → is_flag new ≡ false
  pub leads : is_flag old ≡ false → (e : Nlist) → slice_get es old ≡ Some e → slice_get symbols new ≡ Some (symbol_of strings e)

-- what a group has of a list
abbrev pub group_in : {X : Type 0} → List X → List ℕ → ℕ → List X
group_in xs groups k = take (slice_index groups (k + 1)) (drop (slice_index groups k) xs)

-- indices and groups tell the same as those of the entries
pub record LeadAsBefore (strings : List ℕ) (es : List Nlist) (old_groups old_indirect : List ℕ) (t : Tabs) : Type 0 where
  pub indirect : AllZip (IsRenumbered strings es t.symbols) old_indirect t.indirect
  pub groups : EachGroup (λ k. group_in t.symbols t.groups k ≡ symbols_of strings (group_in es old_groups k))

abbrev pub LeadAsIn : Img → Tabs → Type 0
LeadAsIn image t = LeadAsBefore image.streams.strings (nlists_of image.streams.symbols) image.groups (indirect_of image.streams.indirect) t
