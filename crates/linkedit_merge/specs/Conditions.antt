-- What a merged linkedit needs of its images: tables and moves that belong to them.
use Rattle.std.specs.Prelude.{◌≡◌, ℕ, List, [], length, Some, slice_get, slice_index_or}
use Rattle.macho_image.specs.Records.{Img}
use Rattle.macho_image.specs.declared.place.Moved.{Moved}
use Rattle.nlist_table.specs.Symbols.{Tabs}
use Rattle.nlist_table.specs.Kept.{AreTables}

-- each image has tables without stabs that break no rule
pub record HaveTables (images : List Img) (tables : List Tabs) : Type 0 where
  pub many : length tables ≡ length images
  pub each : (k : ℕ) (image : Img) (t : Tabs) → slice_get images k ≡ Some image → slice_get tables k ≡ Some t → AreTables (length image.sections) t

-- each image has a move for each segment
pub record HaveMoves (images : List Img) (moves : List (List Moved)) : Type 0 where
  pub many : length moves ≡ length images
  pub each : (k : ℕ) (image : Img) → slice_get images k ≡ Some image → length (slice_index_or moves k []) ≡ length image.segments
