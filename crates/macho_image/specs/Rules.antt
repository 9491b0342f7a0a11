-- The rules that a dylib of this profile keeps, each by the least place at which it is broken. A place is an offset from the start of the header.
use Rattle.std.specs.Prelude.{ℕ, zero, suc, ◌+◌, ◌-◌, ◌*◌, ◌/◌, ◌%◌, min, max, Bool, true, false, not, ◌&&◌, ◌||◌, List, [], ◌∷◌, ◌++◌, drop, length, filter, find, Option, Some, None, option_map, codes, if◌then◌else◌, nat_eq, nat_lt, nat_le, slice_get}
use Rattle.std.specs.List.{list_any, list_all, slice_split}
use Rattle.dsc_base.specs.Numbers.{number_at}
use Rattle.dsc_base.specs.Texts.{is_plain_text}
use lib.Pointwise.{pointwise}
use Rattle.macho_image.specs.declared.form.Form.{Form}
use Rattle.macho_image.specs.declared.form.Form.TheVariants.{Standalone, Cached}
use Rattle.macho_image.specs.Format.{header_magic, header_cputype, header_filetype, header_ncmds, header_sizeofcmds, header_flags, size_of_header, size_of_segment_command, size_of_section, dyld_info_rebase_off, dyld_info_rebase_size, dyld_info_bind_off, dyld_info_bind_size, dyld_info_weak_bind_off, dyld_info_weak_bind_size, dyld_info_lazy_bind_off, dyld_info_lazy_bind_size, dyld_info_export_off, dyld_info_export_size, linkedit_data_dataoff, linkedit_data_datasize, symtab_symoff, symtab_nsyms, symtab_stroff, symtab_strsize, dysymtab_indirectsymoff, dysymtab_nindirectsyms, dysymtab_nextrel, dysymtab_nlocrel, dylib_name_offset}
use Rattle.macho_image.specs.Records.{Seg, Load, SegmentLoad, SectionLoad}
use Rattle.macho_image.specs.Macho.{header_size, number_of, size_of, is_segment, is_install_name, is_uuid, is_symtab, is_dysymtab, is_dyld_info, is_split_info, is_function_starts, is_data_in_code, is_dylib, dylib_name}
use Rattle.dsc_base.specs.Refusals.{least}

-- the place of the first command, or of the first segment command, that passes a test
abbrev pub first_load : (Load → Bool) → List Load → Option ℕ
first_load p ls = option_map (λ l. l.at) (find p ls)

abbrev pub first_segment : (SegmentLoad → Bool) → List SegmentLoad → Option ℕ
first_segment p ss = option_map (λ s. s.at) (find p ss)

-- whether two names have the same bytes
abbrev pub same_bytes : List ℕ → List ℕ → Bool
same_bytes xs ys = pointwise nat_eq xs ys

-- Rule 3: the header is not there, or has another magic.
abbrev pub breaks_not_mach_o : List ℕ → Option ℕ
breaks_not_mach_o header = if nat_lt (length header) size_of_header || not (nat_eq (number_at 4 header header_magic) 0xFEED_FACF) then Some 0 else None

-- Rule 5: another processor, another type of file, or flags that don't say MH_TWOLEVEL and the form.
abbrev pub says_cached : ℕ → Bool
says_cached flags = nat_le 0x8000_0000 flags

abbrev pub flags_fit : Form → ℕ → Bool
flags_fit Standalone flags = nat_eq (flags / 0x80 % 2) 1 && not (says_cached flags)
flags_fit Cached flags = nat_eq (flags / 0x80 % 2) 1 && says_cached flags

abbrev pub breaks_wrong_kind : Form → List ℕ → Option ℕ
breaks_wrong_kind form header =
    if not (nat_eq (number_at 4 header header_cputype) 0x0100_0007) then Some header_cputype else
    (if not (nat_eq (number_at 4 header header_filetype) 6) then Some header_filetype else
    (if not (flags_fit form (number_at 4 header header_flags)) then Some header_flags else None))

-- Rule 6: the commands end past the bytes; or one is misshapen; or they don't end where sizeofcmds says.
abbrev pub is_linkedit_data : ℕ → Bool
is_linkedit_data n = is_split_info n || (is_function_starts n || (is_data_in_code n || (nat_eq n 0x1D || nat_eq n 0x2B)))

-- the size of a command's structure; 8 for one that isn't known
abbrev pub least_size : ℕ → ℕ
least_size n =
    if is_segment n then 72 else
    (if is_dylib n || nat_eq n 0x32 then 24 else
    (if is_dyld_info n then 48 else
    (if is_symtab n || is_uuid n then 24 else
    (if is_dysymtab n then 80 else
    (if is_linkedit_data n || (nat_eq n 0x24 || nat_eq n 0x2A) then 16 else
    (if nat_eq n 0x8000_001C || (nat_eq n 0x12 || nat_eq n 0x14) then 12 else 8))))))

-- whether the bytes begin with a whole command
abbrev pub begins_whole : List ℕ → Bool
begins_whole bytes =
    nat_le 8 (length bytes) && (nat_le 8 (size_of bytes) && (nat_eq (size_of bytes % 8) 0
    && (nat_le (size_of bytes) (length bytes) && nat_le (least_size (number_of bytes)) (size_of bytes))))

abbrev pub misshapen : ℕ → ℕ → List ℕ → Option ℕ
misshapen zero at bytes = if nat_eq (length bytes) 0 then None else Some header_sizeofcmds
misshapen (suc n) at bytes =
    if begins_whole bytes then misshapen n (at + size_of bytes) (drop (size_of bytes) bytes) else Some at

abbrev pub breaks_command_shape : List ℕ → Option ℕ
breaks_command_shape header =
    if nat_lt (length header) (header_size header) then Some header_sizeofcmds else misshapen (number_at 4 header header_ncmds) size_of_header (drop size_of_header header)

-- Rule 7: a command that isn't known.
abbrev pub is_known : ℕ → Bool
is_known n =
    is_segment n || (is_dylib n || (is_dyld_info n || (is_symtab n || (is_dysymtab n || (is_linkedit_data n
    || (is_uuid n || (nat_eq n 0x24 || (nat_eq n 0x2A || (nat_eq n 0x32 || (nat_eq n 0x8000_001C || (nat_eq n 0x12 || nat_eq n 0x14)))))))))))

abbrev pub breaks_unknown_command : List Load → Option ℕ
breaks_unknown_command ls = first_load (λ l. not (is_known (number_of l.bytes))) ls

-- Rule 8: a second command of a kind that stands once. The two numbers of LC_DYLD_INFO are one kind.
abbrev pub once_kinds : List (ℕ × ℕ)
once_kinds = (0xD, 0xD) ∷ (0x1B, 0x1B) ∷ (2, 2) ∷ (0xB, 0xB) ∷ (0x22, 0x8000_0022) ∷ (0x1E, 0x1E) ∷ (0x26, 0x26) ∷ (0x29, 0x29) ∷ (0x1D, 0x1D) ∷ (0x2B, 0x2B) ∷ []

abbrev pub is_of_kind : (ℕ × ℕ) → ℕ → Bool
is_of_kind kind n = nat_eq n kind.0 || nat_eq n kind.1

abbrev pub second_of : List Load → (ℕ × ℕ) → Option ℕ
second_of ls kind = option_map (λ l. l.at) (slice_get (filter (λ l. is_of_kind kind (number_of l.bytes)) ls) 1)

abbrev pub second_of_any : List Load → List (ℕ × ℕ) → Option ℕ
second_of_any ls [] = None
second_of_any ls (kind ∷ kinds) = least (second_of ls kind) (second_of_any ls kinds)

abbrev pub breaks_command_twice : List Load → Option ℕ
breaks_command_twice ls = second_of_any ls once_kinds

-- Rule 9: no install name.
abbrev pub breaks_no_install_name : List Load → Option ℕ
breaks_no_install_name ls = if list_any (λ l. is_install_name (number_of l.bytes)) ls then None else Some 0

-- Rule 10, as far as the header tells: fewer than two segments; a segment of bad shape, or one that shares an address with an earlier one; `__TEXT` and `__LINKEDIT` not in their places.
abbrev pub is_text_name : List ℕ → Bool
is_text_name name = same_bytes name (codes "__TEXT" ++ (0 ∷ 0 ∷ 0 ∷ 0 ∷ 0 ∷ 0 ∷ 0 ∷ 0 ∷ 0 ∷ 0 ∷ []))

abbrev pub is_text : SegmentLoad → Bool
is_text s = is_text_name s.name

abbrev pub is_linkedit_name : List ℕ → Bool
is_linkedit_name name = same_bytes name (codes "__LINKEDIT" ++ (0 ∷ 0 ∷ 0 ∷ 0 ∷ 0 ∷ 0 ∷ []))

abbrev pub is_linkedit : SegmentLoad → Bool
is_linkedit s = is_linkedit_name s.name

-- the same of a segment with its bytes
abbrev pub is_linkedit_segment : Seg → Bool
is_linkedit_segment s = is_linkedit_name s.name

abbrev pub is_well_shaped : SegmentLoad → Bool
is_well_shaped s =
    nat_eq s.size (size_of_segment_command + size_of_section * s.nsects) && (nat_eq (s.vmaddr % 4096) 0 && (nat_le s.filesize s.vmsize && nat_le (s.vmaddr + s.vmsize) 0x8000_0000_0000))

abbrev pub shares_address : SegmentLoad → SegmentLoad → Bool
shares_address s t = nat_lt (max s.vmaddr t.vmaddr) (min (s.vmaddr + s.vmsize) (t.vmaddr + t.vmsize))

-- the first segment that shares an address with one of the earlier ones
abbrev pub first_crossing : List SegmentLoad → List SegmentLoad → Option ℕ
first_crossing earlier [] = None
first_crossing earlier (s ∷ ss) = if list_any (λ t. shares_address t s) earlier then Some s.at else first_crossing (earlier ++ s ∷ []) ss

abbrev pub is_good_text : ℕ → SegmentLoad → Bool
is_good_text size s = is_text s && (nat_eq s.initprot 5 && nat_le size s.filesize)

abbrev pub is_good_linkedit : SegmentLoad → Bool
is_good_linkedit s = is_linkedit s && (nat_eq s.initprot 1 && nat_eq s.nsects 0)

abbrev pub has_reserved_name : SegmentLoad → Bool
has_reserved_name s = is_text s || is_linkedit s

-- the segments behind the first one: the last of them is a good `__LINKEDIT`, and no other has a name of the two
abbrev pub misplaced_behind : List SegmentLoad → Option ℕ
misplaced_behind [] = None
misplaced_behind (s ∷ []) = if is_good_linkedit s then None else Some s.at
misplaced_behind (s ∷ t ∷ ss) = if has_reserved_name s then Some s.at else misplaced_behind (t ∷ ss)

abbrev pub misplaced : ℕ → List SegmentLoad → Option ℕ
misplaced size [] = None
misplaced size (s ∷ ss) = if is_good_text size s then misplaced_behind ss else Some s.at

abbrev pub breaks_segment_shape : ℕ → List SegmentLoad → Option ℕ
breaks_segment_shape size ss =
    if nat_lt (length ss) 2 then Some 0 else
    least (first_segment (λ s. not (is_well_shaped s)) ss) (least (first_crossing [] ss) (misplaced size ss))

-- Rule 10, as far as the file tells: a segment's bytes are not in the file's n bytes, or the first one doesn't begin with the header, at place h.
abbrev pub starts_elsewhere : ℕ → List SegmentLoad → Option ℕ
starts_elsewhere h [] = None
starts_elsewhere h (s ∷ ss) = if nat_eq s.fileoff h then None else Some s.at

abbrev pub breaks_segment_place : ℕ → ℕ → List SegmentLoad → Option ℕ
breaks_segment_place n h ss = least (first_segment (λ s. nat_lt n (s.fileoff + s.filesize)) ss) (starts_elsewhere h ss)

-- Rule 11: a protection other than read and execute, read and write, and read; or SG_PROTECTED_VERSION_1.
abbrev pub breaks_segment_prot : List SegmentLoad → Option ℕ
breaks_segment_prot ss =
    first_segment (λ s. not (nat_eq s.initprot 5 || (nat_eq s.initprot 3 || nat_eq s.initprot 1)) || nat_eq (s.flags / 8 % 2) 1) ss

-- Rule 12: a section outside its segment, below the end of the one before it, or in the header; one with bytes that aren't the segment's at its address; a 256th section.
abbrev pub section_type : SectionLoad → ℕ
section_type x = x.flags % 256

abbrev pub is_zero_fill : ℕ → Bool
is_zero_fill flags = nat_eq (flags % 256) 1 || (nat_eq (flags % 256) 0xC || nat_eq (flags % 256) 0x12)

abbrev pub is_in_file_bytes : SegmentLoad → SectionLoad → Bool
is_in_file_bytes s x =
    nat_le (x.addr - s.vmaddr + x.size) s.filesize && nat_eq x.offset (s.fileoff + (x.addr - s.vmaddr))

-- a section that begins at or above the floor, in a segment whose sections begin at or above its start
abbrev pub section_stands : SegmentLoad → ℕ → ℕ → SectionLoad → Bool
section_stands s start floor x =
    nat_le start x.addr && (nat_le floor x.addr && (nat_le (x.addr + x.size) (s.vmaddr + s.vmsize)
    && (nat_eq x.size 0 || (is_zero_fill x.flags || is_in_file_bytes s x))))

abbrev pub sections_stand : SegmentLoad → ℕ → ℕ → List SectionLoad → Bool
sections_stand s start floor [] = true
sections_stand s start floor (x ∷ xs) = section_stands s start floor x && sections_stand s start (x.addr + x.size) xs

-- where the first section may begin: in `__TEXT` behind the header
abbrev pub sections_start : ℕ → SegmentLoad → ℕ
sections_start size s = if is_text s then s.vmaddr + size else s.vmaddr

-- the first segment with a 256th section, after so many sections
abbrev pub first_crowded : ℕ → List SegmentLoad → Option ℕ
first_crowded before [] = None
first_crowded before (s ∷ ss) =
    if nat_lt 255 (before + length s.sections) then Some s.at else first_crowded (before + length s.sections) ss

abbrev pub breaks_section_shape : ℕ → List SegmentLoad → Option ℕ
breaks_section_shape size ss =
    least (first_segment (λ s. not (sections_stand s (sections_start size s) 0 s.sections)) ss) (first_crowded 0 ss)

-- Rule 13: a section of type S_INTERPOSING.
abbrev pub breaks_interposing : List SegmentLoad → Option ℕ
breaks_interposing ss = first_segment (λ s. list_any (λ x. nat_eq (section_type x) 0xD) s.sections) ss

-- Rule 14: relocations of a section, or those of LC_DYSYMTAB.
abbrev pub names_relocations : Load → Bool
names_relocations l = is_dysymtab (number_of l.bytes) && not (nat_eq (number_at 4 l.bytes dysymtab_nextrel) 0 && nat_eq (number_at 4 l.bytes dysymtab_nlocrel) 0)

abbrev pub breaks_has_relocations : List SegmentLoad → List Load → Option ℕ
breaks_has_relocations ss ls =
    least (first_segment (λ s. list_any (λ x. not (nat_eq x.nreloc 0)) s.sections) ss)
    (first_load names_relocations ls)

-- Rule 15: a dylib name that isn't plain text of 1 to 1,024 bytes from 0x20 to 0x7E, ended by a NUL in its command.
abbrev pub is_plain_name : List ℕ → Bool
is_plain_name c =
    nat_le 24 (number_at 4 c dylib_name_offset) && (nat_lt (number_at 4 c dylib_name_offset + length (dylib_name c)) (length c) && is_plain_text (dylib_name c))

abbrev pub breaks_name_text : List Load → Option ℕ
breaks_name_text ls = first_load (λ l. is_dylib (number_of l.bytes) && not (is_plain_name l.bytes)) ls

-- Rule 16: an install name that isn't an absolute path without empty parts, `.` and `..`.
abbrev pub is_safe_part : List ℕ → Bool
is_safe_part part = not (nat_eq (length part) 0 || (same_bytes part (codes ".") || same_bytes part (codes "..")))

abbrev pub is_safe_path : List ℕ → Bool
is_safe_path [] = false
is_safe_path (x ∷ rest) = nat_eq x 0x2F && list_all is_safe_part (slice_split (λ y. nat_eq y 0x2F) rest)

abbrev pub breaks_unsafe_name : List Load → Option ℕ
breaks_unsafe_name ls = first_load (λ l. is_install_name (number_of l.bytes) && not (is_safe_path (dylib_name l.bytes))) ls

-- Rule 17: a stream or table that isn't empty lies outside the file range of `__LINKEDIT`.
abbrev pub leaves_range : ℕ → ℕ → ℕ → ℕ → Bool
leaves_range low high offset size = nat_lt 0 size && not (nat_le low offset && nat_le (offset + size) high)

-- the same of the range whose offset and size, in entries of so many bytes, stand at two fields of a command
abbrev pub leaves : ℕ → ℕ → List ℕ → ℕ → ℕ → ℕ → Bool
leaves low high c entry offset size = leaves_range low high (number_at 4 c offset) (entry * number_at 4 c size)

abbrev pub info_leaves : ℕ → ℕ → List ℕ → Bool
info_leaves low high c =
    leaves low high c 1 dyld_info_rebase_off dyld_info_rebase_size || (leaves low high c 1 dyld_info_bind_off dyld_info_bind_size || (leaves low high c 1 dyld_info_weak_bind_off dyld_info_weak_bind_size
    || (leaves low high c 1 dyld_info_lazy_bind_off dyld_info_lazy_bind_size || leaves low high c 1 dyld_info_export_off dyld_info_export_size)))

abbrev pub is_data_stream : ℕ → Bool
is_data_stream n = is_split_info n || (is_function_starts n || is_data_in_code n)

abbrev pub names_outside : ℕ → ℕ → List ℕ → Bool
names_outside low high c =
    if is_dyld_info (number_of c) then info_leaves low high c else
    (if is_symtab (number_of c) then leaves low high c 16 symtab_symoff symtab_nsyms || leaves low high c 1 symtab_stroff symtab_strsize else
    (if is_dysymtab (number_of c) then leaves low high c 4 dysymtab_indirectsymoff dysymtab_nindirectsyms else
    (if is_data_stream (number_of c) then leaves low high c 1 linkedit_data_dataoff linkedit_data_datasize else false)))

abbrev pub outside_of : Option SegmentLoad → List Load → Option ℕ
outside_of None ls = None
outside_of (Some s) ls = first_load (λ l. names_outside s.fileoff (s.fileoff + s.filesize) l.bytes) ls

abbrev pub breaks_linkedit_range : List SegmentLoad → List Load → Option ℕ
breaks_linkedit_range ss ls = outside_of (find is_linkedit ss) ls
