-- References and the sections that they name, after DYLD_CACHE_ADJ_V2 of Apple's published linker and cache builder.
use Rattle.std.specs.Prelude.{ℕ, ◌+◌, nat_eq, nat_le, if◌then◌else◌, List, Option, Some, None, option_map, slice_get}
use Rattle.std.specs.List.{position}
use Rattle.std.specs.Option.{option_and_then}
use Rattle.macho_image.specs.Records.{Img, Seg}
use Rattle.macho_image.specs.declared.section.Section.{Section}
use Rattle.macho_image.specs.Places.{wrap, numbered_section}
use Rattle.macho_image.specs.Segments.{is_text_segment}
use Rattle.split_info.specs.declared.reference.RefKind.{RefKind}
use Rattle.split_info.specs.declared.reference.RefKind.TheVariants.{Pointer64, Delta32, Delta64, ImageOff32}
use Rattle.split_info.specs.declared.reference.Reference.{Reference}
use Rattle.split_info.specs.declared.extent.Extent.{Extent}
use Rattle.split_info.specs.declared.extent.Target.{Target}

-- POINTER_64, DELTA_32, DELTA_64 and IMAGE_OFF_32; other kinds aren't of this profile
abbrev pub kind_of : ℕ → Option RefKind
kind_of code =
    if nat_eq code 2 then Some Pointer64 else
    (if nat_eq code 3 then Some Delta32 else
    (if nat_eq code 4 then Some Delta64 else
    (if nat_eq code 0xC then Some ImageOff32 else None)))

abbrev pub width_of : RefKind → ℕ
width_of Pointer64 = 8
width_of Delta32 = 4
width_of Delta64 = 8
width_of ImageOff32 = 4

-- sections count from 1
abbrev pub section_numbered : List Section → ℕ → Option Extent
section_numbered xs number = option_map (λ (x : Section). record { number = number; segment = x.segment; address = x.addr; size = x.size }) (numbered_section xs number)

abbrev pub from_section : Img → ℕ → Option Extent
from_section image number = section_numbered image.sections number

-- to-section 0 is the Mach header, seen as a section at the start of the segment `__TEXT`, by that name, with that segment's size
abbrev pub segment_section : List Seg → ℕ → Option Extent
segment_section ss g = option_map (λ (s : Seg). record { number = 0; segment = g; address = s.vmaddr; size = s.vmsize }) (slice_get ss g)

abbrev pub header_section : List Seg → Option Extent
header_section ss = option_and_then (segment_section ss) (position is_text_segment ss)

abbrev pub to_section : Img → ℕ → Option Extent
to_section image number = if nat_eq number 0 then header_section image.segments else section_numbered image.sections number

-- an offset in a section: its end counts too
abbrev pub target_in : Extent → ℕ → Option Target
target_in section offset = if nat_le offset section.size then Some (record { section = section; offset = offset }) else None

-- a reference so far in a section: it ends in it
abbrev pub reference_in : RefKind → Extent → Target → ℕ → Option Reference
reference_in kind from target distance =
    if nat_le (distance + width_of kind) from.size then
    Some (record { kind = kind; from = wrap (from.address + distance); from_segment = from.segment; to_section = target.section.number; to_segment = target.section.segment; to_offset = target.offset })
    else None
