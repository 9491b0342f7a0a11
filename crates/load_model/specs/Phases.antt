-- The first rule that a set of files breaks before it is laid out: by phase, then by image, then by the groups of a phase. Each group is the definition of the crate that refuses it.
use Rattle.std.specs.Prelude.{ℕ, ◌+◌, Option, None, option_map, List, [], ◌∷◌, length, map}
use Rattle.std.specs.List.{range_with_len}
use Rattle.std.specs.Option.{option_or}
use Rattle.dsc_base.specs.declared.fault.Site.{Site}
use Rattle.dsc_base.specs.declared.fault.Break.{Break}
use Rattle.dsc_base.specs.Refusals.{first_break, in_image, in_each}
use Rattle.macho_image.specs.Records.{Img}
pub use Rattle.macho_image.specs.Files.{contents, images_of}
unfoldable pub use Rattle.macho_image.specs.Files.{dylib_of, shape_break}
use Rattle.macho_image.specs.TableRules.{table_break}
use Rattle.dep_closure.specs.Breaks.{link_break}
use Rattle.prebind.specs.Sets.{ImageSet, streams_break, image_set}
use Rattle.prebind.specs.Places.{export_break}
use Rattle.prebind.specs.WordRules.{place_break}
use Rattle.load_model.specs.Sums.{record_count, name_bytes, sums_break}

-- ---- phase two: the streams and tables of an image, and then how much the images up to it have

unfoldable pub linkedit_break : ℕ → ℕ → Img → Option Site
linkedit_break records names i =
    first_break (streams_break i ∷ table_break i ∷ sums_break (records + record_count i) (names + name_bytes i) ∷ [])

-- the images from number k on, behind so many records and names of so many bytes
unfoldable pub linkedits_from : ℕ → ℕ → ℕ → List Img → Option Break
linkedits_from k records names [] = None
linkedits_from k records names (i ∷ is) =
    option_or (option_map (in_image k) (linkedit_break records names i)) (linkedits_from (k + 1) (records + record_count i) (names + name_bytes i) is)

-- ---- phase four: where exports and words lead

-- the first break of n images by their numbers
abbrev pub first_of : (ℕ → Option Break) → ℕ → Option Break
first_of breaks n = first_break (map breaks (range_with_len 0 n))

unfoldable pub symbols_break : ImageSet → Option Break
symbols_break set = option_or (first_of (export_break set) (length set.images)) (first_of (place_break set) (length set.images))

-- ---- the four phases: shapes, streams, links, and where exports and words lead

unfoldable pub images_break : List Img → Option Break
images_break images = first_break (linkedits_from 0 0 0 images ∷ link_break images ∷ symbols_break (image_set images) ∷ [])

unfoldable pub files_break : List (List ℕ) → Option Break
files_break files = option_or (in_each shape_break 0 files) (images_break (images_of files))
