-- An image of a cache and its file, compared.
use Rattle.std.specs.Prelude.{ℕ, List, [], ◌∷◌, ◌++◌, map, filter, Option, option_map}
use Rattle.dsc_base.specs.Refusals.{first_break}
use Rattle.split_info.specs.declared.reference.Reference.{Reference}
use Rattle.prebind.specs.declared.resolved.PlacedWord.{PlacedWord}
use Rattle.prebind.specs.Words.{pointer_word, reference_word, is_no_pointer}
use Rattle.load_model.specs.Corresponds.{shape_of}
use Rattle.cache_check.specs.declared.matching.Matching.{Matching}
use Rattle.cache_check.specs.declared.mismatch.Mismatch.{Mismatch}
use Rattle.cache_check.specs.declared.verdict.Difference.{Difference}
use Rattle.cache_check.specs.Bytes.{first_mismatch, bytes_of}
use Rattle.cache_check.specs.Differences.{shape_difference, cached_starts, exports_difference}
use Rattle.cache_check.specs.Steps.Sides.{chain_view}

abbrev pub matched_mismatch : Matching → ℕ → List PlacedWord → List Reference → Option Mismatch
matched_mismatch m k pointers references =
    first_mismatch (chain_view m.chains) (cached_starts m.all.now) pointers (map pointer_word pointers ++ map (reference_word k m.file.now.sections m.file.now.segments) (filter is_no_pointer references)) m.file.now m.cached.now

unfoldable pub matched_difference : Matching → ℕ → List PlacedWord → List Reference → Option Difference
matched_difference m k pointers references =
    first_break (shape_difference k (shape_of m.cached.now) (shape_of m.file.now) ∷ option_map (bytes_of k) (matched_mismatch m k pointers references) ∷ exports_difference k m.file.now m.cached.now ∷ [])
