-- The pointers of all images of a set, placed.
use Rattle.std.specs.Prelude.{◌≡◌, ℕ, List, length, slice_get, Some}
use Rattle.prebind.specs.declared.resolved.PlacedWord.{PlacedWord}
use Rattle.prebind.specs.Sets.{ImageSet}
use Rattle.prebind.specs.Words.{pointers_of, ArePlaced}

-- of each image its pointers, in the order of their addresses, however each list is held
pub record AreAllPlaced {X : Type 0} (items : X → List PlacedWord) (set : ImageSet) (words : List X) : Type 0 where
  pub count : length words ≡ length set.images
  pub placed : (k : ℕ) (own : X) → slice_get words k ≡ Some own → ArePlaced (pointers_of set k) (items own)

-- the lists themselves
abbrev pub AreListsPlaced : ImageSet → List (List PlacedWord) → Type 0
AreListsPlaced set lists = AreAllPlaced (λ (l : List PlacedWord). l) set lists
