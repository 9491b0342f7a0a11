-- When the header that is written stands in a file, with all that it names in place.
use Rattle.std.specs.Prelude.{◌≡◌, ◌≤◌, ◌<◌, ℕ, ◌+◌, ◌%◌, min, max, List, [], ◌∷◌, length, get_or, map, All}
use Rattle.dsc_base.specs.declared.fault.Span.{Span}
use Rattle.macho_image.specs.declared.place.Moved.{Moved}
use Rattle.macho_image.specs.Records.{Seg, Img}
use Rattle.macho_edit.specs.declared.segment.SegmentPlace.{SegmentPlace}
use Rattle.macho_edit.specs.declared.spots.LinkSpots.{LinkSpots}
use Rattle.macho_edit.specs.Segments.{place_for}

-- where the segments of an image go, in command order
abbrev pub places_of : LinkSpots → List Moved → List Seg → List SegmentPlace
places_of spots [] ss = []
places_of spots (m ∷ ms) [] = []
places_of spots (m ∷ ms) (s ∷ ss) = place_for spots m s.name s.vmsize ∷ places_of spots ms ss

-- a place on a page, below 2 ^ 47, whose part of a file of n bytes is there
pub record IsSeated (n : ℕ) (p : SegmentPlace) : Type 0 where
  pub aligned : p.address % 4096 ≡ 0
  pub low : p.address + p.vmsize ≤ 0x8000_0000_0000
  pub filled : p.filesize ≤ p.vmsize
  pub inside : p.file + p.filesize ≤ n

-- two places share no address
abbrev pub AreApart : SegmentPlace → SegmentPlace → Type 0
AreApart p q = min (p.address + p.vmsize) (q.address + q.vmsize) ≤ max p.address q.address

-- a span with bytes lies in the linkedit
abbrev pub IsLinked : LinkSpots → Span → Type 0
IsLinked spots s = 0 < s.len → (spots.linkedit.file ≤ s.at) × (s.at + s.len ≤ spots.linkedit.file + spots.filesize)

pub record AreLinked (spots : LinkSpots) : Type 0 where
  pub bind : IsLinked spots spots.bind
  pub lazy : IsLinked spots spots.lazy
  pub exports : IsLinked spots spots.exports
  pub function_starts : IsLinked spots spots.function_starts
  pub data_in_code : IsLinked spots spots.data_in_code
  pub symbols : IsLinked spots spots.symbols
  pub indirect : IsLinked spots spots.indirect
  pub strings : IsLinked spots spots.strings

-- an image whose header goes to place h of the file b: each segment is seated there, the first one at the header, no two share an address, and its streams and tables lie in the linkedit
pub record IsPlaced (image : Img) (moves : List Moved) (spots : LinkSpots) (b : List ℕ) (h : ℕ) : Type 0 where
  pub first : get_or (map (λ m. m.file) moves) 0 h ≡ h
  pub seated : All (IsSeated (length b)) (places_of spots moves image.segments)
  pub apart : (i j : ℕ) (p : SegmentPlace) → i < j → j < length (places_of spots moves image.segments)
      → AreApart (get_or (places_of spots moves image.segments) i p) (get_or (places_of spots moves image.segments) j p)
  pub linked : AreLinked spots
