-- The definitions tried on small sets.
use Rattle.std.proofs.Common.{◌≡◌, ℕ, List, [], ◌∷◌, ◌++◌, refl, None}
use Rattle.std.specs.Prelude.{replicate}
use Rattle.dsc_base.specs.Numbers.{little_bytes}
use Rattle.macho_image.specs.Records.{Seg}
use Rattle.macho_image.specs.declared.place.Moved.{Moved}
use Rattle.macho_image.specs.Places.{above}
use Rattle.macho_image.specs.Segments.{is_text_segment, header_address, inside}
use Rattle.nlist_table.specs.Symbols.{Sym}
use Rattle.linkedit_merge.specs.Exports.{new_header, moved_offset}
use Rattle.linkedit_merge.specs.Linkedit.{parts_of, linkedit_of, linkedit_size, spots_in}
use Rattle.linkedit_merge.specs.Parts.{with_part, joined_behind, end_with, end_behind, span_behind}
use Rattle.linkedit_merge.specs.Pool.{pooled_behind, pool_bytes, found_from, index_in}
use Rattle.linkedit_merge.specs.Shares.{Share}

-- two symbols of a file that has nothing else, `_a` and `_b`: 32 bytes of entries and 7 of names
abbrev symbol : List ℕ → ℕ → ℕ → Sym
symbol name kind value = record { name = name; alias = None; kind = kind; section = 1; desc = 0; value = value }

abbrev two_symbols : Share
two_symbols = record {
  bind = [];
  lazy = [];
  exports = [];
  function_starts = [];
  data_in_code = [];
  tables = record { symbols = symbol (0x5f ∷ 0x61 ∷ []) 0x0E 0x7FFF20001800 ∷ symbol (0x5f ∷ 0x62 ∷ []) 0x0F 0x7FFF20001900 ∷ []; indirect = []; groups = 0 ∷ 1 ∷ 1 ∷ 1 ∷ 2 ∷ 0 ∷ [] };
}

two_symbols-size : linkedit_size (two_symbols ∷ []) ≡ 39
unfolding linkedit_size parts_of end_with end_behind pooled_behind pool_bytes
two_symbols-size = refl

two_symbols-bytes : linkedit_of (two_symbols ∷ []) ≡
    (1 ∷ 0 ∷ 0 ∷ 0 ∷ 0x0E ∷ 1 ∷ 0 ∷ 0 ∷ little_bytes 8 0x7FFF20001800)
    ++ ((4 ∷ 0 ∷ 0 ∷ 0 ∷ 0x0F ∷ 1 ∷ 0 ∷ 0 ∷ little_bytes 8 0x7FFF20001900) ++ (0x00 ∷ 0x5f ∷ 0x61 ∷ 0x00 ∷ 0x5f ∷ 0x62 ∷ 0x00 ∷ []))
unfolding linkedit_of parts_of with_part joined_behind pooled_behind pool_bytes found_from index_in
two_symbols-bytes = refl

-- the pool of it stands at 0x3020 of a cache whose linkedit starts at 0x3000
two_symbols-pool : (spots_in 0x3000 (two_symbols ∷ []) 0 two_symbols).strings ≡ record { at = 0x3020; len = 7 }
unfolding spots_in parts_of end_with end_behind span_behind pooled_behind pool_bytes
two_symbols-pool = refl

-- two images with a bind stream of 3 bytes each, that share a name, the second one with an indirect entry: parts at multiples of 8, each name once
abbrev one_name : List ℕ → Share
one_name indirect = record {
  bind = 1 ∷ 2 ∷ 3 ∷ [];
  lazy = [];
  exports = [];
  function_starts = [];
  data_in_code = [];
  tables = record { symbols = symbol (0x5f ∷ 0x61 ∷ []) 0x01 0 ∷ []; indirect = indirect; groups = 0 ∷ 0 ∷ 0 ∷ 0 ∷ 0 ∷ 1 ∷ [] };
}

abbrev entry : List ℕ
entry = 1 ∷ 0 ∷ 0 ∷ 0 ∷ 0x01 ∷ 1 ∷ replicate 10 0

shared_name-bytes : linkedit_of (one_name [] ∷ one_name (0 ∷ []) ∷ []) ≡
    1 ∷ 2 ∷ 3 ∷ 0 ∷ 0 ∷ 0 ∷ 0 ∷ 0 ∷ 1 ∷ 2 ∷ 3 ∷ 0 ∷ 0 ∷ 0 ∷ 0 ∷ 0 ∷ entry ++ (entry ++ (0 ∷ 0 ∷ 0 ∷ 0 ∷ 0 ∷ 0 ∷ 0 ∷ 0 ∷ 0x00 ∷ 0x5f ∷ 0x61 ∷ 0x00 ∷ []))
unfolding linkedit_of parts_of with_part joined_behind pooled_behind pool_bytes found_from index_in
shared_name-bytes = refl

-- an export of the data segment, 0x1010 behind the header, in a cache where the text stands at 0x2000 and the data at 0x4000: 0x2010; one of the text stays
abbrev segment : List ℕ → ℕ → ℕ → Seg
segment name vmaddr vmsize = record { name = name; vmaddr = vmaddr; vmsize = vmsize; fileoff = vmaddr; filesize = vmsize; maxprot = 3; initprot = 3; flags = 0; bytes = [] }

abbrev text_name : List ℕ
text_name = 0x5f ∷ 0x5f ∷ 0x54 ∷ 0x45 ∷ 0x58 ∷ 0x54 ∷ 0 ∷ 0 ∷ 0 ∷ 0 ∷ 0 ∷ 0 ∷ 0 ∷ 0 ∷ 0 ∷ 0 ∷ []

abbrev data_name : List ℕ
data_name = 0x5f ∷ 0x5f ∷ 0x44 ∷ 0x41 ∷ 0x54 ∷ 0x41 ∷ 0 ∷ 0 ∷ 0 ∷ 0 ∷ 0 ∷ 0 ∷ 0 ∷ 0 ∷ 0 ∷ 0 ∷ []

abbrev segments : List Seg
segments = segment text_name 0 0x1000 ∷ segment data_name 0x1000 0x1000 ∷ []

abbrev moves : List Moved
moves = record { address = 0x7FFF20002000; file = 0x2000 } ∷ record { address = 0x7FFF20004000; file = 0x4000 } ∷ []

data_export : moved_offset segments moves 0x1010 ≡ 0x2010
unfolding moved_offset new_header header_address inside above is_text_segment
data_export = refl

text_export : moved_offset segments moves 0x500 ≡ 0x500
unfolding moved_offset new_header header_address inside above is_text_segment
text_export = refl
