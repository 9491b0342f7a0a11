-- What is promised of the files that are made of the images of a cache.
use Rattle.std.specs.Prelude.{◌≡◌, ℕ, List, length, map, Some, slice_get}
use Rattle.std.specs.List.{range_with_len}
use Rattle.macho_image.specs.Records.{Img}
use Rattle.macho_image.specs.Macho.{image_of}
use Rattle.macho_image.specs.Breaks.{image_at}
use Rattle.macho_image.specs.declared.form.Form.TheVariants.{Standalone}
use Rattle.rebase_ops.specs.Rebases.{rebases_of}
use Rattle.prebind.specs.Sets.{ImageSet, image_set, all_binds}
use Rattle.prebind.specs.Resolves.{resolves}
use Rattle.export_trie.specs.Exports.{exports_of}
use Rattle.cache_check.specs.Images.{images_of, cached_images}
use Rattle.cache_check.specs.Views.{View}
use Rattle.extractor.specs.ExtractOf.{free_words, extract_of}
use Rattle.extractor.specs.Placing.{data_start}
use Rattle.extractor.specs.Vetting.{cached_set}

-- the files, the images that they have, and the set that these make
abbrev pub files_of : View → List (List ℕ)
files_of v = map (extract_of v) (range_with_len 0 (length v.head.images))

abbrev pub extracted_images : View → List Img
extracted_images v = map (λ (file : List ℕ). image_of file 0) (files_of v)

abbrev pub extracted_set : View → ImageSet
extracted_set v = image_set (extracted_images v)

-- a file is one of a dylib that breaks no rule of its shape; it binds and exports what the cached image does, and rebases the words that slide and aren't bound
pub record IsExtracted (v : View) (k : ℕ) (cached own : Img) : Type 0 where
  pub accepted : image_at Standalone (extract_of v k) 0 ≡ Some own
  pub binds : all_binds own ≡ all_binds cached
  pub exports : exports_of own.streams.exports ≡ exports_of cached.streams.exports
  pub rebases : rebases_of own.streams.rebase own ≡ free_words (data_start v) v.words (images_of v) k cached

-- each image's is, and together their names lead where those of the cache do
pub record AreExtracted (v : View) : Type 0 where
  pub each : (k : ℕ) (cached : Img) → slice_get (cached_images v) k ≡ Some (Some cached) → (own : Img) × IsExtracted v k cached own
  pub resolved : (k ordinal : ℕ) (name : List ℕ) → resolves (extracted_set v) k ordinal name ≡ resolves (cached_set (images_of v)) k ordinal name
