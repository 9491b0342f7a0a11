-- The values of symbols whose segments move.
use Rattle.std.specs.Prelude.{ℕ, ◌+◌, ◌-◌, ◌%◌, ◌^◌, List, slice_get, option_map, unwrap_or, if◌then◌else◌}
use Rattle.macho_image.specs.Records.{Img}
use Rattle.macho_image.specs.declared.place.Moved.{Moved}
use Rattle.macho_image.specs.Nlists.{is_in_section}
use Rattle.nlist_table.specs.Symbols.{Sym}

-- the number of the segment of a section, which counts from 1
abbrev pub segment_number : Img → ℕ → ℕ
segment_number image section = unwrap_or (option_map (λ x. x.segment) (slice_get image.sections (section - 1))) 0

-- the new address of a segment less its old one, modulo 2^64
abbrev pub shift_in : Img → List Moved → ℕ → ℕ
shift_in image moves g =
    (unwrap_or (option_map (λ m. m.address) (slice_get moves g)) 0 + (2 ^ 64 - unwrap_or (option_map (λ s. s.vmaddr) (slice_get image.segments g)) 0)) % 2 ^ 64

-- a symbol that is defined in a section moves with its segment; another one keeps its value
unfoldable pub moved_value : Sym → Img → List Moved → ℕ
moved_value s image moves =
    if is_in_section s.kind then (s.value + shift_in image moves (segment_number image s.section)) % 2 ^ 64 else s.value
