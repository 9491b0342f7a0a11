-- The words of images that slide and aren't bound, gathered word by word.
use Rattle.std.specs.Prelude.{◌≡◌, ℕ, List, [], ◌++◌, length, map, Some, slice_get, slice_index_or, Vec}
use Rattle.std.specs.declared.alloc.Global.{Global}
use Rattle.macho_image.specs.Records.{Img}
use Rattle.macho_image.specs.declared.place.Location.{Location}
use Rattle.rebase_ops.specs.Writing.{CanBeWritten}
use Rattle.slide_chain.specs.declared.words.ChainWord.{ChainWord}
use Rattle.extractor.specs.ExtractOf.{free_words}

abbrev pub lists : List (Vec Location Global) → List (List Location)
lists vs = map (λ (v : Vec Location Global). v.items) vs

-- of each image those among some chain words
pub record AreFree (start : ℕ) (words : List ChainWord) (images : List Img) (free : List (List Location)) : Type 0 where
  pub count : length free ≡ length images
  pub each : (k : ℕ) (i : Img) → slice_get images k ≡ Some i → slice_index_or free k [] ≡ free_words start words images k i

-- the lists grow by those among some more
pub record AreGrown (start : ℕ) (more : List ChainWord) (images : List Img) (old new : List (List Location)) : Type 0 where
  pub count : length new ≡ length old
  pub each : (k : ℕ) (i : Img) → slice_get images k ≡ Some i → slice_index_or new k [] ≡ slice_index_or old k [] ++ free_words start more images k i

-- each image's can be written as rebases
abbrev pub AllWritable : List Img → List (List Location) → Type 0
AllWritable images free = (k : ℕ) (i : Img) → slice_get images k ≡ Some i → CanBeWritten i (slice_index_or free k [])
