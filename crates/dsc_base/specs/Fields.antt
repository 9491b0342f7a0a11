-- The fields of a table or a header as bytes, one after another.
use Rattle.std.specs.Prelude.{◌≡◌, ℕ, ◌+◌, ◌-◌, nat_eq, nat_lt, if◌then◌else◌, Option, Some, None, List, [], ◌∷◌, ◌++◌, replicate, length}
use Rattle.byteorder.specs.Endian.{little_bytes}
use Rattle.dsc_base.specs.declared.fields.Field.{Field}
use Rattle.dsc_base.specs.declared.fields.Field.TheVariants.{U16, U32, U64, Identifier, Zeros}
pub use Rattle.dsc_base.specs.declared.fields.Field.{Field}
pub use Rattle.dsc_base.specs.declared.fields.Field.TheVariants.{U16, U32, U64, Identifier, Zeros}

abbrev pub width_of : Field → ℕ
width_of (U16 v) = 2
width_of (U32 v) = 4
width_of (U64 v) = 8
width_of (Identifier bytes) = 16
width_of (Zeros n) = n

abbrev pub bytes_of : Field → List ℕ
bytes_of (U16 v) = little_bytes 2 v
bytes_of (U32 v) = little_bytes 4 v
bytes_of (U64 v) = little_bytes 8 v
bytes_of (Identifier bytes) = bytes
bytes_of (Zeros n) = replicate n 0

unfoldable pub spelled : List Field → List ℕ
spelled [] = []
spelled (f ∷ fs) = bytes_of f ++ spelled fs

abbrev pub total_width : List Field → ℕ
total_width [] = 0
total_width (f ∷ fs) = width_of f + total_width fs

-- the field that begins at a place, if one does
abbrev pub field_at : List Field → ℕ → Option Field
field_at [] at = None
field_at (f ∷ fs) at =
    if nat_eq at 0 then Some f else (if nat_lt at (width_of f) then None else field_at fs (at - width_of f))

-- each identifier has its 16 bytes
abbrev pub IsWhole : Field → Type 0
IsWhole (U16 v) = Unit {0}
IsWhole (U32 v) = Unit {0}
IsWhole (U64 v) = Unit {0}
IsWhole (Identifier bytes) = length bytes ≡ 16
IsWhole (Zeros n) = Unit {0}

abbrev pub AreWhole : List Field → Type 0
AreWhole [] = Unit {0}
AreWhole (f ∷ fs) = IsWhole f × AreWhole fs
