-- Files that are made of the images of a cache, loaded together: on each section they have the bytes of the mapped cache.
use Rattle.std.specs.Prelude.{◌≡◌, ◌<◌, ℕ, ◌+◌, List, Some, slice_get}
use Rattle.macho_image.specs.Records.{Img}
use Rattle.macho_image.specs.declared.section.Section.{Section}
use Rattle.macho_image.specs.Places.{wrap}
use Rattle.cache_header.specs.Reading.{max_slide}
use Rattle.load_model.specs.Memory.{Cells}
use Rattle.load_model.specs.Loading.{loaded}
use Rattle.load_model.specs.Mapped.{IsPermitted, mapped}
use Rattle.cache_check.specs.Views.{view_of}
use Rattle.extractor.specs.Extracted.{extracted_images, extracted_set, AreExtracted}

-- every file at the one slide
abbrev pub all_at : ℕ → ℕ → ℕ
all_at slide k = slide

-- an address has a byte in both memories, and it is the same
pub record IsSameByte (one other : Cells) (address : ℕ) : Type 0 where
  pub byte : ℕ
  pub here : one address ≡ Some byte
  pub there : other address ≡ Some byte

-- The files of all images of a cache are loaded together, each at a slide at which the cache is mapped: both have the same bytes on each section.
abbrev pub LoadsAsMapped : List ℕ → ℕ → Type 0
LoadsAsMapped cache slide =
    (k j offset : ℕ) (file : Img) (s : Section) → slice_get (extracted_images (view_of cache)) k ≡ Some file → slice_get file.sections j ≡ Some s → offset < s.size
    → IsSameByte (loaded (extracted_set (view_of cache)) (all_at slide) k) (mapped cache slide) (wrap (s.addr + offset + slide))

-- the files are what is promised of them, and load so at every slide that the header permits
pub record IsExtraction (cache : List ℕ) : Type 0 where
  pub files : AreExtracted (view_of cache)
  pub loads : (slide : ℕ) → IsPermitted (max_slide cache) slide → LoadsAsMapped cache slide
