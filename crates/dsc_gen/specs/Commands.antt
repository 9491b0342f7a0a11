-- The header and the load commands of an image, field by field as in mach-o/loader.h.
use Rattle.std.specs.Prelude.{ℕ, ◌+◌, ◌-◌, ◌*◌, ◌/◌, ◌%◌, zero, suc, List, [], ◌∷◌, ◌++◌, codes}
use Rattle.dsc_base.specs.Fields.{spelled}
use Rattle.dsc_base.specs.Region.{padded, paged}
use Rattle.dsc_base.specs.declared.fields.Field.{Field}
use Rattle.dsc_base.specs.declared.fields.Field.TheVariants.{U32, U64, Identifier, Zeros}
use Rattle.dsc_gen.specs.declared.commands.Segment.{Segment}
use Rattle.dsc_gen.specs.declared.commands.Section.{Section}
use Rattle.dsc_gen.specs.declared.spots.Spot.{Spot}
use Rattle.dsc_gen.specs.declared.spots.Spots.{Spots}
use Rattle.dsc_gen.specs.Contents.{words_bytes}
use Rattle.dsc_gen.specs.Draws.{text_start}

-- a name of a segment or a section
abbrev pub name16 : List ℕ → List ℕ
name16 name = padded 16 name

-- mach_header_64: magic, cputype of x86_64, cpusubtype, filetype MH_DYLIB, ncmds, sizeofcmds, flags MH_TWOLEVEL, reserved
abbrev pub header_fields : ℕ → ℕ → List Field
header_fields ncmds sizeofcmds = U32 0xFEEDFACF ∷ U32 0x01000007 ∷ U32 0 ∷ U32 6 ∷ U32 ncmds ∷ U32 sizeofcmds ∷ U32 0x80 ∷ U32 0 ∷ []

-- segment_command_64: LC_SEGMENT_64, cmdsize, segname, vmaddr, vmsize, fileoff, filesize, maxprot, initprot, nsects, flags
abbrev pub segment_fields : Segment → List Field
segment_fields s =
    U32 0x19 ∷ U32 (72 + 80 * s.nsects) ∷ Identifier s.segname ∷ U64 s.address ∷ U64 s.vmsize ∷ U64 s.address ∷ U64 s.filesize ∷ U32 s.protection ∷ U32 s.protection ∷ U32 s.nsects ∷ U32 0 ∷ []

-- section_64: sectname, segname, addr, size, offset, and zeros for the other fields
abbrev pub section_fields : Section → List Field
section_fields s = Identifier s.sectname ∷ Identifier s.segname ∷ U64 s.address ∷ U64 s.size ∷ U32 s.address ∷ Zeros 28 ∷ []

-- dylib_command: its number, cmdsize, the offset of the name, timestamp, current and compatibility version
abbrev pub dylib_fields : ℕ → List Field
dylib_fields number = U32 number ∷ U32 48 ∷ U32 24 ∷ U32 0 ∷ U32 0x10000 ∷ U32 0x10000 ∷ []

-- a number below 10,000 in four digits
abbrev pub four_digits : ℕ → List ℕ
four_digits n = (48 + n / 1000 % 10) ∷ (48 + n / 100 % 10) ∷ (48 + n / 10 % 10) ∷ (48 + n / 1 % 10) ∷ []

-- the install name of image k, with zeros up to a multiple of 8
abbrev pub install_name : ℕ → List ℕ
install_name k = codes "/gen/lib" ++ (four_digits k ++ codes ".dylib")

abbrev pub dylib_command : ℕ → ℕ → List ℕ
dylib_command number k = spelled (dylib_fields number) ++ padded 24 (install_name k)

-- dyld_info_command: LC_DYLD_INFO_ONLY, cmdsize, offset and size of rebase, bind, weak_bind, lazy_bind and export
abbrev pub dyld_info_fields : Spots → List Field
dyld_info_fields s =
    U32 0x80000022 ∷ U32 48 ∷ U32 s.rebase.offset ∷ U32 s.rebase.size ∷ U32 s.bind.offset ∷ U32 s.bind.size ∷ U32 0 ∷ U32 0 ∷ U32 0 ∷ U32 0 ∷ U32 s.exports.offset ∷ U32 s.exports.size ∷ []

-- uuid_command: LC_UUID and cmdsize
abbrev pub uuid_fields : List Field
uuid_fields = U32 0x1B ∷ U32 24 ∷ []

abbrev pub uuid_command : List ℕ → List ℕ
uuid_command identifier = spelled uuid_fields ++ words_bytes identifier

-- linkedit_data_command: LC_SEGMENT_SPLIT_INFO, cmdsize, dataoff, datasize
abbrev pub split_fields : Spot → List Field
split_fields s = U32 0x1E ∷ U32 16 ∷ U32 s.offset ∷ U32 s.size ∷ []

-- the segments: the text from address 0 on, the data behind it, and the linkedit, each at the file offset of its address
abbrev pub text_segment : ℕ → Segment
text_segment size = record { segname = name16 (codes "__TEXT"); address = 0; vmsize = size; filesize = size; protection = 5; nsects = 1 }

abbrev pub text_section : ℕ → Section
text_section size = record { sectname = name16 (codes "__text"); segname = name16 (codes "__TEXT"); address = text_start; size = size - text_start }

abbrev pub data_segment : ℕ → Segment
data_segment size = record { segname = name16 (codes "__DATA"); address = size; vmsize = size; filesize = size; protection = 3; nsects = 1 }

abbrev pub data_section : ℕ → Section
data_section size = record { sectname = name16 (codes "__data"); segname = name16 (codes "__DATA"); address = size; size = size }

abbrev pub linkedit_segment : ℕ → ℕ → Segment
linkedit_segment size linkedit = record { segname = name16 (codes "__LINKEDIT"); address = 2 * size; vmsize = paged linkedit; filesize = linkedit; protection = 1; nsects = 0 }

abbrev pub segments_bytes : ℕ → ℕ → List ℕ
segments_bytes size linkedit =
    spelled (segment_fields (text_segment size)) ++ (spelled (section_fields (text_section size))
    ++ (spelled (segment_fields (data_segment size)) ++ (spelled (section_fields (data_section size))
    ++ spelled (segment_fields (linkedit_segment size linkedit)))))

-- LC_ID_DYLIB of image k, and LC_LOAD_DYLIB of the image before it, where there is one
abbrev pub own_name : ℕ → List ℕ
own_name k = dylib_command 0xD k

abbrev pub needed : ℕ → List ℕ
needed zero = []
needed (suc k) = dylib_command 0xC k

abbrev pub ncmds : ℕ → ℕ
ncmds zero = 7
ncmds (suc k) = 8

abbrev pub sizeofcmds : ℕ → ℕ
sizeofcmds zero = 0x200
sizeofcmds (suc k) = 0x230

-- the header of image k with its commands, where the linkedit has so many bytes
unfoldable pub header_bytes : ℕ → ℕ → ℕ → List ℕ → Spots → List ℕ
header_bytes size k linkedit identifier spots =
    spelled (header_fields (ncmds k) (sizeofcmds k)) ++ (segments_bytes size linkedit
    ++ (own_name k ++ (spelled (dyld_info_fields spots) ++ (uuid_command identifier ++ (needed k ++ spelled (split_fields spots.split))))))
