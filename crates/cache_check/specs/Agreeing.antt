-- What it means to files that a cache agrees with them.
use Rattle.std.specs.Prelude.{ℕ, List}
use Rattle.prebind.specs.Sets.{image_set}
use Rattle.cache_header.specs.Reading.{max_slide}
use Rattle.load_model.specs.Corresponds.{Corresponds}
use Rattle.load_model.specs.Loading.{IsPlacement}
use Rattle.load_model.specs.Mapped.{IsPermitted}
use Rattle.load_model.specs.Phases.{images_of}

-- the cache corresponds to the files, wherever they are loaded and at every slide that its header permits
abbrev pub CorrespondsEverywhere : List (List ℕ) → List ℕ → Type 0
CorrespondsEverywhere files cache = (placement : ℕ → ℕ) → IsPlacement placement → (slide : ℕ) → IsPermitted (max_slide cache) slide → Corresponds (image_set (images_of files)) placement cache slide
