-- The pointers of all images of a set, as they are held.
use Rattle.std.specs.Prelude.{List, Vec}
use Rattle.std.specs.declared.alloc.Global.{Global}
use Rattle.prebind.specs.declared.resolved.PlacedWord.{PlacedWord}
use Rattle.prebind.specs.Sets.{ImageSet}
use Rattle.prebind.specs.Placed as held

abbrev pub AreAllPlaced : ImageSet → List (Vec PlacedWord Global) → Type 0
AreAllPlaced set words = held.AreAllPlaced (λ (v : Vec PlacedWord Global). v.items) set words
