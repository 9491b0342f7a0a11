-- The streams of the linkedit but for the split-segment information, in the opcodes of mach-o/loader.h.
use Rattle.std.specs.Prelude.{◌≡◌, Some, slice_get, ℕ, zero, suc, ◌+◌, ◌-◌, ◌%◌, List, [], ◌∷◌, ◌++◌}
use Rattle.dsc_base.specs.Uleb.{uleb_bytes}
use Rattle.macho_image.specs.Records.{Img, Seg}
use Rattle.macho_image.specs.declared.place.Location.{Location}
use Rattle.rebase_ops.specs.Writing.{rebase_bytes}
use Rattle.export_trie.specs.declared.export.Export.{Export}
use Rattle.export_trie.specs.declared.export.Target.TheVariants.{Offset}
use Rattle.dsc_gen.specs.Draws.{text_start}
use Rattle.dsc_gen.specs.Contents.{pointer_place}

-- SET_SEGMENT_AND_OFFSET_ULEB in the data, which is segment 1, and DO_REBASE_IMM_TIMES once
abbrev pub rebase_opcodes : ℕ → List ℕ
rebase_opcodes i = 0x21 ∷ (uleb_bytes (pointer_place i) ++ 0x51 ∷ [])

-- of so many pointers, from pointer i on
unfoldable pub rebases_from : ℕ → ℕ → List ℕ
rebases_from i zero = []
rebases_from i (suc more) = rebase_opcodes i ++ rebases_from (suc i) more

-- SET_TYPE_IMM with the pointer type, the pointers, and DONE
unfoldable pub rebase_stream : ℕ → List ℕ
rebase_stream pointers = 0x11 ∷ (rebases_from 0 pointers ++ 0 ∷ [])

-- so many pointers from pointer i on, as locations of the data, which is segment 1, in section 2, and begins at an address
abbrev pub pointers_from : ℕ → ℕ → ℕ → List Location
pointers_from start i zero = []
pointers_from start i (suc more) = record { segment = 1; section = 2; address = start + pointer_place i } ∷ pointers_from start (suc i) more

-- what the rebase writer makes of the pointers of an image with this data segment
abbrev pub IsWritten : ℕ → List ℕ → Type 0
IsWritten pointers stream = (image : Img) (area : Seg) → slice_get image.segments 1 ≡ Some area → stream ≡ rebase_bytes image (pointers_from area.vmaddr 0 pointers)

-- the name `_s` and a digit
abbrev pub symbol_name : ℕ → List ℕ
symbol_name digit = 95 ∷ 115 ∷ (48 + digit) ∷ []

-- SET_DYLIB_ORDINAL_IMM, SET_SYMBOL_TRAILING_FLAGS_IMM, SET_SEGMENT_AND_OFFSET_ULEB and DO_BIND, for the pointer with number i
abbrev pub bind_opcodes : ℕ → ℕ → ℕ → List ℕ
bind_opcodes ordinal i digit = (0x10 + ordinal) ∷ 0x40 ∷ (symbol_name digit ++ (0 ∷ 0x71 ∷ (uleb_bytes (pointer_place i) ++ 0x90 ∷ [])))

-- of links to one of eight symbols each, by their words
unfoldable pub binds_from : ℕ → ℕ → List ℕ → List ℕ
binds_from ordinal i [] = []
binds_from ordinal i (word ∷ more) = bind_opcodes ordinal i (word % 8) ++ binds_from ordinal (suc i) more

-- the links, which stand behind the pointers, and DONE
unfoldable pub bind_stream : ℕ → ℕ → List ℕ → List ℕ
bind_stream ordinal pointers symbols = binds_from ordinal pointers symbols ++ 0 ∷ []

-- exports from number i on, at places in the text's section
abbrev pub exports_from : ℕ → ℕ → List ℕ → List Export
exports_from size i [] = []
exports_from size i (word ∷ more) =
    record { name = symbol_name i; flags = 0; target = Offset (text_start + word % (size - text_start)) } ∷ exports_from size (suc i) more
