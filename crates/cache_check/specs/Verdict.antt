-- What comes of checking a cache against files that break no rule: what is wrong with the cache, or the first way in which it differs from them, or that it agrees.
use Rattle.std.specs.Prelude.{ℕ, List, [], ◌∷◌, length, slice_get, Option, Some, None}
use Rattle.std.specs.Option.{option_or}
use Rattle.dsc_base.specs.declared.fault.Finding.{Finding}
use Rattle.dsc_base.specs.Refusals.{first_break}
use Rattle.macho_image.specs.Records.{Img}
use Rattle.prebind.specs.Sets.{ImageSet, image_set}
use Rattle.load_model.specs.Corresponds.{shape_of}
use Rattle.load_model.specs.Phases.{images_of as file_images}
use Rattle.cache_header.specs.Records.{Entry}
use Rattle.cache_check.specs.declared.verdict.Difference.{Difference}
use Rattle.cache_check.specs.declared.verdict.Verdict.{Verdict}
use Rattle.cache_check.specs.declared.verdict.Verdict.TheVariants.{Agrees, Differs, Broken}
use Rattle.cache_check.specs.Bytes.{Chains, bytes_difference}
use Rattle.cache_check.specs.Differences.{count_difference, path_difference, shape_difference, cached_starts, exports_difference}
use Rattle.cache_check.specs.Firsts.{first_below}
use Rattle.cache_check.specs.Images.{images_of, images_finding}
use Rattle.cache_check.specs.Shape.{data_mapping}
use Rattle.cache_check.specs.Views.{View, view_of, view_finding}

abbrev pub chains_of : View → Chains
chains_of v = record { words = v.words; start = (data_mapping v.head.mappings).address }

-- an image's shape, then its sections, then its exports
abbrev pub pair_difference : Chains → List Img → ImageSet → ℕ → Option Img → Option Img → Option Difference
pair_difference chains cached set k (Some file) (Some image) =
    first_break (shape_difference k (shape_of image) (shape_of file) ∷ bytes_difference chains (cached_starts cached) set k file image ∷ exports_difference k file image ∷ [])
pair_difference chains cached set k _ _ = None

unfoldable pub image_difference : Chains → List Img → ImageSet → ℕ → Option Difference
image_difference chains cached set k = pair_difference chains cached set k (slice_get set.images k) (slice_get cached k)

-- how many images there are, then all paths, then one image after the other
unfoldable pub difference_by : List Entry → Chains → List Img → ImageSet → Option Difference
difference_by entries chains cached set =
    first_break (count_difference (length entries) (length set.images) ∷ first_below (path_difference entries set.images) (length set.images)
    ∷ first_below (image_difference chains cached set) (length set.images) ∷ [])

abbrev pub difference_of : View → ImageSet → Option Difference
difference_of v set = difference_by v.head.images (chains_of v) (images_of v) set

-- what is wrong with a cache and its images
unfoldable pub finding_of : List ℕ → Option Finding
finding_of cache = option_or (view_finding cache) (images_finding (view_of cache))

abbrev pub verdict_by : Option Finding → Option Difference → Verdict
verdict_by (Some finding) difference = Broken finding
verdict_by None (Some difference) = Differs difference
verdict_by None None = Agrees

unfoldable pub verdict_of : List ℕ → List (List ℕ) → Verdict
verdict_of cache files = verdict_by (finding_of cache) (difference_of (view_of cache) (image_set (file_images files)))
