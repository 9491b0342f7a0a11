-- What a build gives: the cache of the files, where they break no rule.
use Rattle.std.specs.Prelude.{ℕ, List}
use Rattle.load_model.specs.Phases.{images_of}
use Rattle.cache_build.specs.Cache.{cache_of}

-- the cache of accepted files, where the distance to the next word of a chain has so many bits
abbrev pub built : ℕ → List (List ℕ) → List ℕ
built bits files = cache_of bits (images_of files)
