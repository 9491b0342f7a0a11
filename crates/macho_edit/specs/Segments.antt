-- Segment commands that go to another place, each with its sections.
use Rattle.std.specs.Prelude.{ℕ, zero, suc, ◌+◌, ◌-◌, ◌/◌, ◌%◌, ◌^◌, if◌then◌else◌, List, [], ◌++◌, take, drop, length}
use Rattle.dsc_base.specs.Numbers.{number_at, put_number}
use Rattle.macho_image.specs.declared.place.Moved.{Moved}
use Rattle.macho_image.specs.Rules.{is_linkedit_name, is_zero_fill}
use Rattle.macho_edit.specs.declared.segment.SegmentPlace.{SegmentPlace}
use Rattle.macho_edit.specs.declared.spots.LinkSpots.{LinkSpots}

-- where `__LINKEDIT` goes, as the spots say
abbrev pub linkedit_place : LinkSpots → SegmentPlace
linkedit_place spots = record { address = spots.linkedit.address; file = spots.linkedit.file; vmsize = spots.vmsize; filesize = spots.filesize }

-- where any other segment of so many bytes in memory goes, all of them in the file
abbrev pub own_place : Moved → ℕ → SegmentPlace
own_place m vmsize = record { address = m.address; file = m.file; vmsize = vmsize; filesize = vmsize }

-- where a segment goes, by its name and its size in memory
unfoldable pub place_for : LinkSpots → Moved → List ℕ → ℕ → SegmentPlace
place_for spots m name vmsize = if is_linkedit_name name then linkedit_place spots else own_place m vmsize

-- the address at a distance from the segment's, in 64 bits
abbrev pub section_address : SegmentPlace → ℕ → ℕ
section_address p distance = (p.address + distance) % 2 ^ 64

-- the offset of a section's bytes in the file, in 32 bits
abbrev pub section_offset : SegmentPlace → ℕ → ℕ → ℕ
section_offset p flags distance = if is_zero_fill flags then 0 else (p.file + distance) % 2 ^ 32

-- section_64 of a segment that started at an address: addr and offset stand as far from the segment's new place
unfoldable pub moved_section : SegmentPlace → ℕ → List ℕ → List ℕ
moved_section p start x =
    put_number 4 (put_number 8 x 32 (section_address p (number_at 8 x 32 - start))) 48
    (section_offset p (number_at 4 x 64) (number_at 8 x 32 - start))

-- the n sections at the front of the bytes, moved
unfoldable pub moved_sections : SegmentPlace → ℕ → ℕ → List ℕ → List ℕ
moved_sections p start zero bytes = []
moved_sections p start (suc n) bytes = moved_section p start (take 80 bytes) ++ moved_sections p start n (drop 80 bytes)

-- segment_command_64: its address, its size in memory, its file offset and its size in the file
unfoldable pub moved_fields : SegmentPlace → List ℕ → List ℕ
moved_fields p front =
    put_number 8 (put_number 8 (put_number 8 (put_number 8 front 24 p.address) 32 p.vmsize) 40 p.file) 48 p.filesize

-- a segment command with its sections at a place
unfoldable pub placed_segment : SegmentPlace → List ℕ → List ℕ
placed_segment p c = moved_fields p (take 72 c) ++ moved_sections p (number_at 8 c 24) ((length c - 72) / 80) (drop 72 c)

-- the same at the place where the segment goes
abbrev pub moved_segment : LinkSpots → Moved → List ℕ → List ℕ
moved_segment spots m c = placed_segment (place_for spots m (take 16 (drop 8 c)) (number_at 8 c 32)) c
