-- The bytes of a table of patches: 0x30 bytes, and then the records of the cache and the file's own, 24 bytes each.
use Rattle.std.specs.Prelude.{◌≡◌, ◌<◌, ℕ, ◌+◌, ◌^◌, Bool, true, false, List, [], ◌∷◌, ◌++◌, length, get_or, All}
use Rattle.std.specs.List.{flat_map}
use Rattle.dsc_base.specs.Fields.{spelled}
use Rattle.dsc_base.specs.declared.fields.Field.{Field}
use Rattle.dsc_base.specs.declared.fields.Field.TheVariants.{U32, U64, Identifier}
use Rattle.patch_table.specs.declared.patches.Base.{Base}
use Rattle.patch_table.specs.declared.patches.Base.TheVariants.{Constant, Cache, File}
use Rattle.patch_table.specs.declared.patches.Record.{Record}
use Rattle.patch_table.specs.Records.{Table}

-- "dsc_patches_v1" and two NULs
abbrev pub magic : List ℕ
magic = 100 ∷ 115 ∷ 99 ∷ 95 ∷ 112 ∷ 97 ∷ 116 ∷ 99 ∷ 104 ∷ 101 ∷ 115 ∷ 95 ∷ 118 ∷ 49 ∷ 0 ∷ 0 ∷ []

abbrev pub base_number : Base → ℕ
base_number Constant = 0
base_number Cache = 1
base_number File = 2

-- 1 for a file that takes the place of an image, 2 for a program
abbrev pub kind_number : Bool → ℕ
kind_number false = 1
kind_number true = 2

abbrev pub record_fields : Record → List Field
record_fields r = U64 r.at ∷ U32 (base_number r.base) ∷ U32 0 ∷ U64 r.value ∷ []

unfoldable pub record_bytes : Record → List ℕ
record_bytes r = spelled (record_fields r)

-- the identifier of the cache, the kind, the image, and how many records of the cache and own ones there are
abbrev pub head_fields : List ℕ → Bool → ℕ → ℕ → ℕ → List Field
head_fields uuid program image cached own =
    Identifier magic ∷ Identifier uuid ∷ U32 (kind_number program) ∷ U32 image ∷ U32 cached ∷ U32 own ∷ []

unfoldable pub table_bytes : Table → List ℕ
table_bytes t =
    spelled (head_fields t.cache_uuid t.program t.image (length t.cached) (length t.own))
    ++ (flat_map record_bytes t.cached ++ flat_map record_bytes t.own)

-- the records rise strictly by their places
abbrev pub Rises : List Record → Type 0
Rises rs = (i : ℕ) (d : Record) → i + 1 < length rs → (get_or rs i d).at < (get_or rs (i + 1) d).at

-- what a table must be to be written
pub record IsTable (t : Table) : Type 0 where
  pub few_cached : length t.cached < 2 ^ 32
  pub few_own : length t.own < 2 ^ 32
  pub cached_rise : Rises t.cached
  pub own_rise : Rises t.own
  pub alone : t.program ≡ true → (t.image ≡ 0) × (t.cached ≡ [])

-- numbers that fit their fields, as those of the code's types do
pub record FitsRecord (r : Record) : Type 0 where
  pub at : r.at < 2 ^ 64
  pub value : r.value < 2 ^ 64

pub record FitsTable (t : Table) : Type 0 where
  pub uuid : length t.cache_uuid ≡ 16
  pub image : t.image < 2 ^ 32
  pub cached : All FitsRecord t.cached
  pub own : All FitsRecord t.own

-- the bytes spell these records, one after another
pub record SpellRecords (rs : List Record) (bytes : List ℕ) : Type 0 where
  pub fit : All FitsRecord rs
  pub exact : flat_map record_bytes rs ≡ bytes

-- and they rise
pub record AreRecords (rs : List Record) (bytes : List ℕ) : Type 0 where
  pub spelt : SpellRecords rs bytes
  pub rise : Rises rs

-- the bytes are those of a table
pub record Spells (t : Table) (bytes : List ℕ) : Type 0 where
  pub sound : IsTable t
  pub fits : FitsTable t
  pub exact : table_bytes t ≡ bytes
