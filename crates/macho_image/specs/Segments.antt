-- The segments of an image as ranges of addresses, and the numbers that stand in them.
use Rattle.std.specs.Prelude.{ℕ, ◌+◌, ◌-◌, Bool, ◌&&◌, List, [], ◌∷◌, find, Option, Some, None, nat_le, nat_lt, slice_get, if◌then◌else◌}
use Rattle.dsc_base.specs.Numbers.{number_at}
use Rattle.macho_image.specs.Records.{Seg, Img}
use Rattle.macho_image.specs.Rules.{is_text_name}
use Rattle.macho_image.specs.declared.place.Location.{Location}
use Rattle.macho_image.specs.declared.places.segment_index.Inside.{Inside}

-- a segment contains the addresses from its start on, as many as its size
abbrev pub contains : Seg → ℕ → Bool
contains s x = nat_le s.vmaddr x && nat_lt x (s.vmaddr + s.vmsize)

-- the first segment from number g on that contains an address; the segments of an image share none
abbrev pub inside_from : ℕ → List Seg → ℕ → Option Inside
inside_from g [] x = None
inside_from g (s ∷ ss) x = if contains s x then Some (record { segment = g; distance = x - s.vmaddr }) else inside_from (g + 1) ss x

unfoldable pub inside : List Seg → ℕ → Option Inside
inside segments x = inside_from 0 segments x

-- an image's header stands at the start of its segment `__TEXT`, by that name
unfoldable pub is_text_segment : Seg → Bool
is_text_segment s = is_text_name s.name

abbrev pub start_of : Option Seg → ℕ
start_of None = 0
start_of (Some s) = s.vmaddr

unfoldable pub header_address : List Seg → ℕ
header_address segments = start_of (find is_text_segment segments)

-- the segments of image k of some
abbrev pub segments_in : Option Img → List Seg
segments_in None = []
segments_in (Some image) = image.segments

abbrev pub segments_at : List Img → ℕ → List Seg
segments_at images k = segments_in (slice_get images k)

-- the number of w bytes at an address of a segment; what lies behind the file's bytes is 0
unfoldable pub number_of : ℕ → Seg → ℕ → ℕ
number_of w s address = number_at w s.bytes (address - s.vmaddr)

abbrev pub number_in : Seg → ℕ → ℕ
number_in s address = number_of 8 s address

abbrev pub number_within : ℕ → Option Seg → ℕ → ℕ
number_within w None address = 0
number_within w (Some s) address = number_of w s address

-- the number of 8 bytes at a word's address, in its segment
unfoldable pub value_of : List Seg → Location → ℕ
value_of segments l = number_within 8 (slice_get segments l.segment) l.address
