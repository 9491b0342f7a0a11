-- What the bytes of a Mach-O dylib spell, after mach-o/loader.h of Apple's published sources. Offsets of fields count from the start of their structure.
use Rattle.std.specs.Prelude.{ℕ, zero, suc, ◌+◌, ◌-◌, ◌*◌, ◌/◌, Bool, ◌||◌, List, [], ◌∷◌, ◌++◌, take, drop, length, map, filter, find, Option, Some, None, option_map, replicate, if◌then◌else◌, nat_eq, is_some}
use Rattle.std.specs.List.{filter_map, before_first}
use Rattle.dsc_base.specs.Numbers.{number_at}
use Rattle.macho_image.specs.declared.form.LinkKind.{LinkKind}
use Rattle.macho_image.specs.declared.form.LinkKind.TheVariants.{Load as LoadLink, Weak, Reexport, Upward}
use Rattle.macho_image.specs.declared.section.Section.{Section}
use Rattle.macho_image.specs.Format.{header_ncmds, header_sizeofcmds, size_of_header, command_cmd, command_cmdsize, segment_segname, segment_vmaddr, segment_vmsize, segment_fileoff, segment_filesize, segment_maxprot, segment_initprot, segment_nsects, segment_flags, size_of_segment_command, section_segname, section_addr, section_size, section_offset, section_nreloc, section_flags, size_of_section, dyld_info_rebase_off, dyld_info_rebase_size, dyld_info_bind_off, dyld_info_bind_size, dyld_info_weak_bind_off, dyld_info_weak_bind_size, dyld_info_lazy_bind_off, dyld_info_lazy_bind_size, dyld_info_export_off, dyld_info_export_size, linkedit_data_dataoff, linkedit_data_datasize, symtab_symoff, symtab_nsyms, symtab_stroff, symtab_strsize, dysymtab_ilocalsym, dysymtab_nlocalsym, dysymtab_iextdefsym, dysymtab_nextdefsym, dysymtab_iundefsym, dysymtab_nundefsym, dysymtab_indirectsymoff, dysymtab_nindirectsyms, dylib_name_offset, uuid_uuid}
use Rattle.macho_image.specs.Records.{Seg, Dep, StreamBytes, Img, Load, SegmentLoad, SectionLoad}

-- mach_header_64: the header and its commands end where sizeofcmds says
abbrev pub header_size : List ℕ → ℕ
header_size header = size_of_header + number_at 4 header header_sizeofcmds

-- the header at place h of the bytes, with its commands, as far as the bytes go
unfoldable pub header_in : List ℕ → ℕ → List ℕ
header_in b h = take (header_size (drop h b)) (drop h b)

-- load_command: cmd and cmdsize
abbrev pub number_of : List ℕ → ℕ
number_of c = number_at 4 c command_cmd

abbrev pub size_of : List ℕ → ℕ
size_of c = number_at 4 c command_cmdsize

-- the n commands at the front of the bytes, each as long as its cmdsize
abbrev pub commands_in : ℕ → List ℕ → List (List ℕ)
commands_in zero bytes = []
commands_in (suc n) bytes = take (size_of bytes) bytes ∷ commands_in n (drop (size_of bytes) bytes)

-- the ncmds commands behind a header
abbrev pub commands_of : List ℕ → List (List ℕ)
commands_of header = commands_in (number_at 4 header header_ncmds) (drop size_of_header header)

-- commands with their offsets, the first one at the given offset
abbrev pub loads_from : ℕ → List (List ℕ) → List Load
loads_from at [] = []
loads_from at (c ∷ cs) = record { at = at; bytes = c } ∷ loads_from (at + length c) cs

abbrev pub loads_of : List ℕ → List Load
loads_of header = loads_from size_of_header (commands_of header)

abbrev pub pieces_of : List Load → List (List ℕ)
pieces_of ls = map (λ l. l.bytes) ls

-- the kinds of command, by their numbers
abbrev pub is_segment : ℕ → Bool
is_segment n = nat_eq n 0x19

abbrev pub is_install_name : ℕ → Bool
is_install_name n = nat_eq n 0xD

abbrev pub is_uuid : ℕ → Bool
is_uuid n = nat_eq n 0x1B

abbrev pub is_symtab : ℕ → Bool
is_symtab n = nat_eq n 2

abbrev pub is_dysymtab : ℕ → Bool
is_dysymtab n = nat_eq n 0xB

abbrev pub is_dyld_info : ℕ → Bool
is_dyld_info n = nat_eq n 0x22 || nat_eq n 0x8000_0022

abbrev pub is_split_info : ℕ → Bool
is_split_info n = nat_eq n 0x1E

abbrev pub is_function_starts : ℕ → Bool
is_function_starts n = nat_eq n 0x26

abbrev pub is_data_in_code : ℕ → Bool
is_data_in_code n = nat_eq n 0x29

-- the four commands by which a dylib names another one
abbrev pub link_kind : ℕ → Option LinkKind
link_kind n =
    if nat_eq n 0xC then Some LoadLink else
    (if nat_eq n 0x8000_0018 then Some Weak else
    (if nat_eq n 0x8000_001F then Some Reexport else
    (if nat_eq n 0x8000_0023 then Some Upward else None)))

-- dylib_command: the name begins where its offset field says and ends before a NUL
abbrev pub is_dylib : ℕ → Bool
is_dylib n = is_install_name n || is_some (link_kind n)

unfoldable pub dylib_name : List ℕ → List ℕ
dylib_name c = before_first (λ x. nat_eq x 0) (drop (number_at 4 c dylib_name_offset) c)

abbrev pub dependency_of : List ℕ → Option Dep
dependency_of c = option_map (λ k. record { kind = k; name = dylib_name c }) (link_kind (number_of c))

-- section_64, of 80 bytes
unfoldable pub section_fields : List ℕ → SectionLoad
section_fields x = record { name = take 16 x; segment_name = take 16 (drop section_segname x); addr = number_at 8 x section_addr; size = number_at 8 x section_size; offset = number_at 4 x section_offset; nreloc = number_at 4 x section_nreloc; flags = number_at 4 x section_flags }

-- the n sections at the front of the bytes
abbrev pub sections_in : ℕ → List ℕ → List SectionLoad
sections_in zero bytes = []
sections_in (suc n) bytes = section_fields bytes ∷ sections_in n (drop size_of_section bytes)

-- segment_command_64, of 72 bytes, and as many sections as the command has room for
unfoldable pub segment_load : Load → SegmentLoad
segment_load l = record { at = l.at; size = length l.bytes; name = take 16 (drop segment_segname l.bytes); vmaddr = number_at 8 l.bytes segment_vmaddr; vmsize = number_at 8 l.bytes segment_vmsize; fileoff = number_at 8 l.bytes segment_fileoff; filesize = number_at 8 l.bytes segment_filesize; maxprot = number_at 4 l.bytes segment_maxprot; initprot = number_at 4 l.bytes segment_initprot; nsects = number_at 4 l.bytes segment_nsects; flags = number_at 4 l.bytes segment_flags; sections = sections_in ((length l.bytes - size_of_segment_command) / size_of_section) (drop size_of_segment_command l.bytes) }

-- the segment commands, in command order
abbrev pub segment_loads : List Load → List SegmentLoad
segment_loads ls = map segment_load (filter (λ l. is_segment (number_of l.bytes)) ls)

-- a segment is the fields of its command with the bytes that it maps
abbrev pub segment_with : List ℕ → SegmentLoad → Seg
segment_with bytes s = record { name = s.name; vmaddr = s.vmaddr; vmsize = s.vmsize; fileoff = s.fileoff; filesize = s.filesize; maxprot = s.maxprot; initprot = s.initprot; flags = s.flags; bytes = bytes }

unfoldable pub segment_of : List ℕ → SegmentLoad → Seg
segment_of b s = segment_with (take s.filesize (drop s.fileoff b)) s

-- a section of segment k
unfoldable pub section_of : ℕ → SectionLoad → Section
section_of k x = record { name = x.name; segment_name = x.segment_name; segment = k; addr = x.addr; size = x.size; flags = x.flags }

-- the sections of all segments, the first of which has number k
abbrev pub sections_from : ℕ → List SegmentLoad → List Section
sections_from k [] = []
sections_from k (s ∷ ss) = map (section_of k) s.sections ++ sections_from (k + 1) ss

-- the first command of a kind
abbrev pub command_where : (ℕ → Bool) → List (List ℕ) → Option (List ℕ)
command_where p cs = find (λ c. p (number_of c)) cs

-- the part of the file whose offset and size, in entries of so many bytes, stand at two fields of a command; no command names no bytes
abbrev pub part_in : List ℕ → Option (List ℕ) → ℕ → ℕ → ℕ → List ℕ
part_in b None entry offset size = []
part_in b (Some c) entry offset size = take (entry * number_at 4 c size) (drop (number_at 4 c offset) b)

-- dyld_info_command, linkedit_data_command, symtab_command and dysymtab_command
unfoldable pub streams_of : List ℕ → List (List ℕ) → StreamBytes
streams_of b cs =
    let info = command_where is_dyld_info cs in
    let split = command_where is_split_info cs in
    let symtab = command_where is_symtab cs in
    record {
      rebase = part_in b info 1 dyld_info_rebase_off dyld_info_rebase_size;
      bind = part_in b info 1 dyld_info_bind_off dyld_info_bind_size;
      weak = part_in b info 1 dyld_info_weak_bind_off dyld_info_weak_bind_size;
      lazy = part_in b info 1 dyld_info_lazy_bind_off dyld_info_lazy_bind_size;
      exports = part_in b info 1 dyld_info_export_off dyld_info_export_size;
      split = option_map (λ c. part_in b (Some c) 1 linkedit_data_dataoff linkedit_data_datasize) split;
      function_starts = part_in b (command_where is_function_starts cs) 1 linkedit_data_dataoff linkedit_data_datasize;
      data_in_code = part_in b (command_where is_data_in_code cs) 1 linkedit_data_dataoff linkedit_data_datasize;
      symbols = part_in b symtab 16 symtab_symoff symtab_nsyms;
      strings = part_in b symtab 1 symtab_stroff symtab_strsize;
      indirect = part_in b (command_where is_dysymtab cs) 4 dysymtab_indirectsymoff dysymtab_nindirectsyms;
    }

-- dysymtab_command: the first index and the count of local, external and undefined symbols
abbrev pub groups_of : Option (List ℕ) → List ℕ
groups_of None = 0 ∷ 0 ∷ 0 ∷ 0 ∷ 0 ∷ 0 ∷ []
groups_of (Some c) = number_at 4 c dysymtab_ilocalsym ∷ number_at 4 c dysymtab_nlocalsym ∷ number_at 4 c dysymtab_iextdefsym ∷ number_at 4 c dysymtab_nextdefsym ∷ number_at 4 c dysymtab_iundefsym ∷ number_at 4 c dysymtab_nundefsym ∷ []

-- uuid_command
abbrev pub uuid_of : Option (List ℕ) → List ℕ
uuid_of None = replicate 16 0
uuid_of (Some c) = take 16 (drop uuid_uuid c)

abbrev pub install_name_of : Option (List ℕ) → List ℕ
install_name_of None = []
install_name_of (Some c) = dylib_name c

-- the image that the bytes spell with a given header: the fields of its commands in command order, and the parts of the bytes that they name
unfoldable pub image_from : List ℕ → List ℕ → Img
image_from b header =
    let cs = commands_of header in
    let segments = segment_loads (loads_of header) in
    record {
      install_name = install_name_of (command_where is_install_name cs);
      segments = map (segment_of b) segments;
      sections = sections_from 0 segments;
      dependencies = filter_map dependency_of cs;
      streams = streams_of b cs;
      groups = groups_of (command_where is_dysymtab cs);
      uuid = uuid_of (command_where is_uuid cs);
      has_dyld_info = is_some (command_where is_dyld_info cs);
      header = header;
    }

-- the image that the bytes spell with its header at place h
abbrev pub image_of : List ℕ → ℕ → Img
image_of b h = image_from b (header_in b h)
