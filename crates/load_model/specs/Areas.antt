-- The segments of an image in memory as lists of bytes, one for each.
use Rattle.std.specs.Prelude.{◌≡◌, ◌<◌, ℕ, ◌+◌, List, [], ◌∷◌, ◌++◌, length, filter, not, if◌then◌else◌, Some, slice_get, slice_index_or}
use Rattle.macho_image.specs.Records.{Seg}
use Rattle.macho_image.specs.Rules.{is_linkedit_segment}
use Rattle.macho_image.specs.Places.{wrap}
use Rattle.load_model.specs.Memory.{Cells}
use Rattle.load_model.specs.Mapped.{Piece}

-- the slide of an image of some, by its number
abbrev pub slide_at : List ℕ → ℕ → ℕ
slide_at slides k = slice_index_or slides k 0

-- a segment's bytes are those in memory from where it starts, slid
pub record IsArea (cells : Cells) (slide : ℕ) (s : Seg) (bytes : List ℕ) : Type 0 where
  pub size : length bytes ≡ s.vmsize
  pub each : (d : ℕ) → d < s.vmsize → cells (wrap (s.vmaddr + d + slide)) ≡ Some (slice_index_or bytes d 0)

pub record AreAreas (cells : Cells) (slide : ℕ) (ss : List Seg) (areas : List (List ℕ)) : Type 0 where
  pub count : length areas ≡ length ss
  pub each : (g : ℕ) (s : Seg) → slice_get ss g ≡ Some s → IsArea cells slide s (slice_index_or areas g [])

-- ---- what is answered

-- a segment from where it starts, slid, with its bytes; none for `__LINKEDIT`
abbrev pub body_piece : ℕ → Seg → List ℕ → List Piece
body_piece slide s bytes = if is_linkedit_segment s then [] else record { address = wrap (s.vmaddr + slide); bytes = bytes } ∷ []

-- the segments other than `__LINKEDIT` in this way, in their order
abbrev pub pieces_from : ℕ → List Seg → List (List ℕ) → List Piece
pieces_from slide [] areas = []
pieces_from slide (s ∷ ss) [] = []
pieces_from slide (s ∷ ss) (b ∷ bs) = body_piece slide s b ++ pieces_from slide ss bs

-- a segment as it is loaded: from its start on, slid, all its bytes in memory
pub record IsLoadedSegment (cells : Cells) (slide : ℕ) (s : Seg) (p : Piece) : Type 0 where
  pub address : p.address ≡ wrap (s.vmaddr + slide)
  pub area : IsArea cells slide s p.bytes

-- one for each of some segments, in their order
abbrev pub AreLoadedSegments : Cells → ℕ → List Seg → List Piece → Type 0
AreLoadedSegments cells slide [] [] = Unit {0}
AreLoadedSegments cells slide (s ∷ ss) (p ∷ ps) = IsLoadedSegment cells slide s p × AreLoadedSegments cells slide ss ps
AreLoadedSegments cells slide _ _ = ⊥

-- the segments other than `__LINKEDIT`
abbrev pub bodies_of : List Seg → List Seg
bodies_of ss = filter (λ (s : Seg). not (is_linkedit_segment s)) ss
