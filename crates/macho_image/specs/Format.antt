-- Where the fields of Mach-O headers, load commands and sections stand: offsets in bytes from the start of the structure that has the field, and sizes of structures. Names are those of mach-o/loader.h.
use Rattle.std.specs.Prelude.{ℕ}

-- mach_header_64
abbrev pub header_magic : ℕ
header_magic = 0

abbrev pub header_cputype : ℕ
header_cputype = 4

abbrev pub header_filetype : ℕ
header_filetype = 12

abbrev pub header_ncmds : ℕ
header_ncmds = 16

abbrev pub header_sizeofcmds : ℕ
header_sizeofcmds = 20

abbrev pub header_flags : ℕ
header_flags = 24

abbrev pub size_of_header : ℕ
size_of_header = 32

-- load_command
abbrev pub command_cmd : ℕ
command_cmd = 0

abbrev pub command_cmdsize : ℕ
command_cmdsize = 4

-- segment_command_64
abbrev pub segment_segname : ℕ
segment_segname = 8

abbrev pub segment_vmaddr : ℕ
segment_vmaddr = 24

abbrev pub segment_vmsize : ℕ
segment_vmsize = 32

abbrev pub segment_fileoff : ℕ
segment_fileoff = 40

abbrev pub segment_filesize : ℕ
segment_filesize = 48

abbrev pub segment_maxprot : ℕ
segment_maxprot = 56

abbrev pub segment_initprot : ℕ
segment_initprot = 60

abbrev pub segment_nsects : ℕ
segment_nsects = 64

abbrev pub segment_flags : ℕ
segment_flags = 68

abbrev pub size_of_segment_command : ℕ
size_of_segment_command = 72

-- section_64
abbrev pub section_sectname : ℕ
section_sectname = 0

abbrev pub section_segname : ℕ
section_segname = 16

abbrev pub section_addr : ℕ
section_addr = 32

abbrev pub section_size : ℕ
section_size = 40

abbrev pub section_offset : ℕ
section_offset = 48

abbrev pub section_nreloc : ℕ
section_nreloc = 60

abbrev pub section_flags : ℕ
section_flags = 64

abbrev pub size_of_section : ℕ
size_of_section = 80

-- dyld_info_command
abbrev pub dyld_info_rebase_off : ℕ
dyld_info_rebase_off = 8

abbrev pub dyld_info_rebase_size : ℕ
dyld_info_rebase_size = 12

abbrev pub dyld_info_bind_off : ℕ
dyld_info_bind_off = 16

abbrev pub dyld_info_bind_size : ℕ
dyld_info_bind_size = 20

abbrev pub dyld_info_weak_bind_off : ℕ
dyld_info_weak_bind_off = 24

abbrev pub dyld_info_weak_bind_size : ℕ
dyld_info_weak_bind_size = 28

abbrev pub dyld_info_lazy_bind_off : ℕ
dyld_info_lazy_bind_off = 32

abbrev pub dyld_info_lazy_bind_size : ℕ
dyld_info_lazy_bind_size = 36

abbrev pub dyld_info_export_off : ℕ
dyld_info_export_off = 40

abbrev pub dyld_info_export_size : ℕ
dyld_info_export_size = 44

-- linkedit_data_command
abbrev pub linkedit_data_dataoff : ℕ
linkedit_data_dataoff = 8

abbrev pub linkedit_data_datasize : ℕ
linkedit_data_datasize = 12

-- symtab_command
abbrev pub symtab_symoff : ℕ
symtab_symoff = 8

abbrev pub symtab_nsyms : ℕ
symtab_nsyms = 12

abbrev pub symtab_stroff : ℕ
symtab_stroff = 16

abbrev pub symtab_strsize : ℕ
symtab_strsize = 20

-- dysymtab_command, which begins with the first index and the count of each of three groups of symbols
abbrev pub dysymtab_ilocalsym : ℕ
dysymtab_ilocalsym = 8

abbrev pub dysymtab_nlocalsym : ℕ
dysymtab_nlocalsym = 12

abbrev pub dysymtab_iextdefsym : ℕ
dysymtab_iextdefsym = 16

abbrev pub dysymtab_nextdefsym : ℕ
dysymtab_nextdefsym = 20

abbrev pub dysymtab_iundefsym : ℕ
dysymtab_iundefsym = 24

abbrev pub dysymtab_nundefsym : ℕ
dysymtab_nundefsym = 28

abbrev pub dysymtab_indirectsymoff : ℕ
dysymtab_indirectsymoff = 56

abbrev pub dysymtab_nindirectsyms : ℕ
dysymtab_nindirectsyms = 60

abbrev pub dysymtab_nextrel : ℕ
dysymtab_nextrel = 68

abbrev pub dysymtab_nlocrel : ℕ
dysymtab_nlocrel = 76

-- dylib_command
abbrev pub dylib_name_offset : ℕ
dylib_name_offset = 8

-- uuid_command
abbrev pub uuid_uuid : ℕ
uuid_uuid = 8
