-- Places of words: an offset in a segment, the address that it has, the section around it, and what may be wrong with a record there.
use Rattle.std.specs.Prelude.{◌≡◌, ◌≤◌, ℕ, ◌+◌, ◌-◌, ◌%◌, ◌^◌, Bool, ◌&&◌, ◌||◌, not, List, Option, Some, None, option_map, slice_get, Result, Ok, Err, nat_eq, nat_le, nat_lt, if◌then◌else◌}
use Rattle.std.specs.List.{position}
use Rattle.std.specs.Option.{option_or, unwrap_or}
use Rattle.macho_image.specs.Records.{Img, Seg}
use Rattle.macho_image.specs.declared.section.Section.{Section}
use Rattle.macho_image.specs.declared.place.Location.{Location}
use Rattle.macho_image.specs.declared.places.record.PlaceFault.{PlaceFault}
use Rattle.macho_image.specs.declared.places.record.PlaceFault.TheVariants.{OutsideSegment, NotWritable, OutsideSection, Misaligned, CrossesPage, TooMany}
use Rattle.dsc_base.specs.Limits.{record_limit}

-- sums of addresses and offsets have 64 bits
abbrev pub wrap : ℕ → ℕ
wrap n = n % 2 ^ 64

-- how far the address x lies above the address a, modulo 2 ^ 64
unfoldable pub above : ℕ → ℕ → ℕ
above a x = (x + (2 ^ 64 - a)) % 2 ^ 64

-- the word of 8 bytes at an address lies in a segment
abbrev pub lies_in : Seg → ℕ → Bool
lies_in s address = nat_le s.vmaddr address && nat_le (address + 8) (s.vmaddr + s.vmsize)

-- a section of segment g holds the w bytes at an address
abbrev pub holds : ℕ → ℕ → ℕ → Section → Bool
holds w g address x = nat_eq x.segment g && (nat_le x.addr address && nat_le (address + w) (x.addr + x.size))

-- the number, from 1, of the section of segment g that holds so many bytes
abbrev pub section_around : List Section → ℕ → ℕ → ℕ → Option ℕ
section_around xs g address w = option_map (λ k. k + 1) (position (holds w g address) xs)

-- the same of a word
abbrev pub section_at : List Section → ℕ → ℕ → Option ℕ
section_at xs g address = section_around xs g address 8

-- the section of a number, from 1
abbrev pub numbered_section : List Section → ℕ → Option Section
numbered_section xs number = if nat_eq number 0 then None else slice_get xs (number - 1)

-- a section that ends before the w bytes at an address do, or one of an earlier segment
abbrev pub is_behind : ℕ → ℕ → ℕ → Section → Bool
is_behind w g address x = nat_lt x.segment g || (nat_eq x.segment g && nat_lt (x.addr + x.size) (address + w))

-- the order of sections: by segments, and within one they don't overlap
pub record Precedes (x y : Section) : Type 0 where
  pub segments : x.segment ≤ y.segment
  pub addresses : x.segment ≡ y.segment → x.addr + x.size ≤ y.addr

-- what is wrong with a word, in the order in which it is tried
abbrev pub segment_fault : Seg → ℕ → Option PlaceFault
segment_fault s address = if not (lies_in s address) then Some OutsideSegment else (if not (nat_eq s.initprot 3) then Some NotWritable else None)

abbrev pub section_fault : Option ℕ → Option PlaceFault
section_fault None = Some OutsideSection
section_fault (Some number) = None

abbrev pub word_fault : ℕ → ℕ → Option PlaceFault
word_fault address before =
    if not (nat_eq (address % 4) 0) then Some Misaligned else
    (if nat_lt 0xFF8 (address % 4096) then Some CrossesPage else
    (if nat_le record_limit before then Some TooMany else None))

-- the address at an offset from the start of a segment
abbrev pub address_in : Seg → ℕ → ℕ
address_in s offset = wrap (s.vmaddr + offset)

abbrev pub fault_in : List Section → ℕ → Option Seg → ℕ → ℕ → Option PlaceFault
fault_in xs g None offset before = Some OutsideSegment
fault_in xs g (Some s) offset before =
    option_or (segment_fault s (address_in s offset)) (option_or (section_fault (section_at xs g (address_in s offset))) (word_fault (address_in s offset) before))

-- what is wrong with a record, after so many of its stream, at an offset in the segment that is set
unfoldable pub place_fault : Img → Option ℕ → ℕ → ℕ → Option PlaceFault
place_fault image None offset before = Some OutsideSegment
place_fault image (Some g) offset before = fault_in image.sections g (slice_get image.segments g) offset before

-- the word at an offset in the segment that is set; zeros for what isn't there
abbrev pub location_in : List Section → ℕ → Option Seg → ℕ → Location
location_in xs g None offset = record { segment = g; section = 0; address = offset }
location_in xs g (Some s) offset = record { segment = g; section = unwrap_or (section_at xs g (address_in s offset)) 0; address = address_in s offset }

unfoldable pub location : Img → Option ℕ → ℕ → Location
location image None offset = record { segment = 0; section = 0; address = offset }
location image (Some g) offset = location_in image.sections g (slice_get image.segments g) offset

-- a value, unless there is a fault
abbrev pub unless : {X F : Type 0} → Option F → X → Result X F
unless None x = Ok x
unless (Some fault) x = Err fault

-- what a record answers
abbrev pub placed : Img → Option ℕ → ℕ → ℕ → Result Location PlaceFault
placed image g offset before = unless (place_fault image g offset before) (location image g offset)

-- what is true of a word that a record may name: it lies in a writable segment and in one section of it, at a multiple of 4, and crosses no page
pub record IsWord (image : Img) (l : Location) : Type 0 where
  pub segment : Seg
  pub segment_is : slice_get image.segments l.segment ≡ Some segment
  pub writable : segment.initprot ≡ 3
  pub from : segment.vmaddr ≤ l.address
  pub to : l.address + 8 ≤ segment.vmaddr + segment.vmsize
  pub section : Section
  pub section_counts : 1 ≤ l.section
  pub section_is : slice_get image.sections (l.section - 1) ≡ Some section
  pub in_segment : section.segment ≡ l.segment
  pub section_from : section.addr ≤ l.address
  pub section_to : l.address + 8 ≤ section.addr + section.size
  pub aligned : l.address % 4 ≡ 0
  pub in_page : l.address % 4096 ≤ 0xFF8
