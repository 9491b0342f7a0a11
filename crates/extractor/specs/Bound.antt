-- The bound words of all images of a set.
use Rattle.std.specs.Prelude.{◌≡◌, ℕ, List, length, slice_get, Some, Vec}
use Rattle.std.specs.declared.alloc.Global.{Global}
use Rattle.prebind.specs.declared.resolved.PlacedWord.{PlacedWord}
use Rattle.prebind.specs.Sets.{ImageSet}
use Rattle.prebind.specs.Words.{bound_words}

-- of each image, in the order of its binds
pub record AreAllBound (set : ImageSet) (words : List (Vec PlacedWord Global)) : Type 0 where
  pub count : length words ≡ length set.images
  pub bound : (k : ℕ) (own : Vec PlacedWord Global) → slice_get words k ≡ Some own → own.items ≡ bound_words set k
