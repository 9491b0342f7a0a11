-- What is extracted from a cache: which of its images are asked for, and the files that are made of them.
use Rattle.std.specs.Prelude.{◌≡◌, ◌<◌, ℕ, true, List, [], ◌∷◌, ◌++◌, length, map, Option, Some, None, option_map, position, slice_get}
use Rattle.std.specs.List.{range_with_len}
use Rattle.dsc_base.specs.Refusals.{first_break}
use Rattle.dsc_base.specs.Texts.{is_plain_text}
use Rattle.dsc_base.specs.declared.fault.Finding.{Finding}
use Rattle.macho_image.specs.Rules.{same_bytes}
use Rattle.cache_header.specs.Records.{Entry}
use Rattle.cache_check.specs.Views.{View, view_finding, view_of}
use Rattle.extractor.specs.ExtractOf.{extract_of}
use Rattle.extractor.specs.Vetting.{vet_finding}

-- what is wrong with a cache first: with it as a whole, and then with its images, how they are linked, and the words that slide
unfoldable pub cache_finding : List ℕ → Option Finding
cache_finding cache = first_break (view_finding cache ∷ vet_finding (view_of cache) ∷ [])

-- the numbers of the images that are asked for: all of them, or the first with a path
abbrev pub asked : List Entry → Option (List ℕ) → Option (List ℕ)
asked images None = Some (range_with_len 0 (length images))
asked images (Some path) = option_map (λ k. range_with_len k 1) (position (λ (e : Entry). same_bytes path e.path) images)

abbrev pub path_in : Option Entry → List ℕ
path_in None = []
path_in (Some e) = e.path

-- the paths of all images are plain, as those of a cache are in which nothing is found
abbrev pub ArePlain : List Entry → Type 0
ArePlain images = (k : ℕ) → k < length images → is_plain_text (path_in (slice_get images k)) ≡ true

-- the file of an image, which is put at the prefix followed by its path
abbrev pub image_file : List ℕ → View → ℕ → List ℕ × List ℕ
image_file prefix v k = (prefix ++ path_in (slice_get v.head.images k), extract_of v k)

-- the files of the images that are asked for, in the order of the tables; none where no image has the path
abbrev pub asked_files : List ℕ → Option (List ℕ) → View → Option (List (List ℕ × List ℕ))
asked_files prefix image v = option_map (λ numbers. map (image_file prefix v) numbers) (asked v.head.images image)
