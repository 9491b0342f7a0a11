-- Symbol tables: the entries and names of mach-o/nlist.h, and the indirect symbol table of mach-o/loader.h.
use Rattle.std.specs.Prelude.{ℕ, ◌+◌, ◌*◌, ◌/◌, Bool, not, ◌&&◌, List, [], take, drop, length, map, slice_index, Option, Some, position, option_map, bit_and, nat_eq, nat_le, if◌then◌else◌}
use Rattle.std.specs.List.{range_with_len}
use Rattle.dsc_base.specs.Numbers.{number_at}

-- nlist_64: n_strx, n_type, n_sect, n_desc and n_value
pub record Nlist : Type 0 where
  pub strx : ℕ
  pub kind : ℕ
  pub section : ℕ
  pub desc : ℕ
  pub value : ℕ

unfoldable pub nlist_at : List ℕ → ℕ → Nlist
nlist_at bytes at = record { strx = number_at 4 bytes at; kind = slice_index bytes (at + 4); section = slice_index bytes (at + 5); desc = number_at 2 bytes (at + 6); value = number_at 8 bytes (at + 8) }

-- the entries of a symbol table, of 16 bytes each
abbrev pub nlists_of : List ℕ → List Nlist
nlists_of bytes = map (λ k. nlist_at bytes (16 * k)) (range_with_len 0 (length bytes / 16))

-- an n_type with any of the bits N_STAB, 0xE0, is that of a symbol for debuggers
unfoldable pub is_stab : ℕ → Bool
is_stab kind = not (nat_eq (bit_and kind 0xE0) 0)

abbrev pub is_kept : Nlist → Bool
is_kept e = not (is_stab e.kind)

-- other symbols have a type in the bits N_TYPE, 0x0E: N_SECT, 0xE, is defined in a section
unfoldable pub is_in_section : ℕ → Bool
is_in_section kind = not (is_stab kind) && nat_eq (bit_and kind 0x0E) 0xE

-- and N_INDR, 0xA, is another name for the symbol whose name n_value tells
unfoldable pub is_alias : ℕ → Bool
is_alias kind = not (is_stab kind) && nat_eq (bit_and kind 0x0E) 0xA

-- the text before the first NUL, if there is one
abbrev pub before_nul : List ℕ → Option (List ℕ)
before_nul bytes = option_map (λ n. take n bytes) (position (λ x. nat_eq x 0) bytes)

-- the name at an index of the string table: at 0 the empty one, and elsewhere the text before a NUL, which is one of the 16,384 bytes from there
unfoldable pub name_at : List ℕ → ℕ → Option (List ℕ)
name_at strings index = if nat_eq index 0 then Some [] else before_nul (take 16384 (drop index strings))

-- the indirect symbol table: indices of entries, of 4 bytes each
abbrev pub indirect_of : List ℕ → List ℕ
indirect_of bytes = map (λ k. number_at 4 bytes (4 * k)) (range_with_len 0 (length bytes / 4))

-- in place of an index INDIRECT_SYMBOL_LOCAL, 0x80000000, INDIRECT_SYMBOL_ABS, 0x40000000, or both: the highest bits of 32
abbrev pub is_flag : ℕ → Bool
is_flag index = nat_le 0x4000_0000 index
