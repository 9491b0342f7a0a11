-- What a header needs to be written: moves and spots that fit its image.
use Rattle.std.specs.Prelude.{◌≡◌, ◌<◌, ℕ, ◌+◌, ◌%◌, ◌^◌, false, List, length, get_or, All}
use Rattle.dsc_base.specs.declared.fault.Span.{Span}
use Rattle.macho_image.specs.declared.place.Moved.{Moved}
use Rattle.macho_image.specs.Records.{Seg, Img}
use Rattle.macho_image.specs.Rules.{is_linkedit_segment}
use Rattle.macho_edit.specs.declared.spots.LinkSpots.{LinkSpots}

-- a span whose numbers fit 32 bits
abbrev pub IsLow : Span → Type 0
IsLow s = s.at + s.len < 2 ^ 32

-- the spans of the spots, each
pub record AreLow (spots : LinkSpots) : Type 0 where
  pub rebase : IsLow spots.rebase
  pub bind : IsLow spots.bind
  pub lazy : IsLow spots.lazy
  pub exports : IsLow spots.exports
  pub function_starts : IsLow spots.function_starts
  pub data_in_code : IsLow spots.data_in_code
  pub symbols : IsLow spots.symbols
  pub indirect : IsLow spots.indirect
  pub strings : IsLow spots.strings

-- each segment other than `__LINKEDIT` ends below 2 ^ 32 in the file
abbrev pub EndLow : List Seg → List Moved → Type 0
EndLow segments moves =
    (k : ℕ) (m : Moved) (s : Seg) → k < length moves → is_linkedit_segment (get_or segments k s) ≡ false → (get_or moves k m).file + (get_or segments k s).vmsize < 2 ^ 32

-- one move for each segment; every moved segment ends below 2 ^ 32 in the file, and so does every span; tables of whole entries
pub record CanMove (image : Img) (moves : List Moved) (spots : LinkSpots) : Type 0 where
  pub one_each : length moves ≡ length image.segments
  pub low : EndLow image.segments moves
  pub spans : AreLow spots
  pub whole_symbols : spots.symbols.len % 16 ≡ 0
  pub whole_indirect : spots.indirect.len % 4 ≡ 0

-- what the types of two fields of the spots say: the file offset of the linkedit, and the groups
pub record FitFields (file : ℕ) (groups : List ℕ) : Type 0 where
  pub offset : file < 2 ^ 64
  pub six : length groups ≡ 6
  pub narrow : (k : ℕ) → get_or groups k 0 < 2 ^ 32

-- and those of the moves and of other fields: the addresses, and the sizes of the linkedit
pub record FitPlaces (moves : List Moved) (spots : LinkSpots) : Type 0 where
  pub moved : All (λ m. m.address < 2 ^ 64) moves
  pub address : spots.linkedit.address < 2 ^ 64
  pub vmsize : spots.vmsize < 2 ^ 64
  pub filesize : spots.filesize < 2 ^ 64
