-- A cache corresponds to its files wherever they are loaded, and at every slide that its header permits.
use Rattle.std.specs.Prelude.{◌≤◌, ℕ, List}
use Rattle.prebind.specs.Sets.{image_set}
use Rattle.load_model.specs.Loading.{IsPlacement}
use Rattle.cache_header.specs.Reading.{max_slide}
use Rattle.load_model.specs.Mapped.{IsPermitted}
use Rattle.load_model.specs.Corresponds.{Corresponds}
use Rattle.load_model.specs.Phases.{images_of}

-- The files are loaded as the set of the images that they spell. The header permits at least the slides up to 0xBFE00000, which leaves room for 512 MiB of cache.
pub record CorrespondsAlways (files : List (List ℕ)) (cache : List ℕ) : Type 0 where
  pub slides : 0xBFE00000 ≤ max_slide cache
  pub corresponds : (placement : ℕ → ℕ) → IsPlacement placement → (slide : ℕ) → IsPermitted (max_slide cache) slide
      → Corresponds (image_set (images_of files)) placement cache slide
