-- An image of a cache and its file: what differs first.
use Rattle.std.proofs.Common.{◌≡◌, ◌<◌, ℕ, zero, suc, ◌+◌, Option, Some, None, List, [], ◌∷◌, ◌++◌, length, map, get_or, refl, sym, ap, ap₂, ◌∙◌, subst, arith, inl, inr}
use Rattle.std.proofs.lemmas.Bool.{cases_lt}
use Rattle.std.specs.Prelude.{filter, slice_get, option_map}
use Rattle.std.specs.Option.{option_or}
use Rattle.dsc_base.specs.Refusals.{first_break}
use Rattle.macho_image.specs.Records.{Img}
use Rattle.split_info.specs.declared.reference.Reference.{Reference}
use Rattle.prebind.specs.declared.resolved.PlacedWord.{PlacedWord}
use Rattle.prebind.specs.Sets.{ImageSet}
use Rattle.prebind.specs.Words.{pointer_word, reference_word, is_no_pointer, ordered_pointers, streams_at, ArePlaced}
use Rattle.load_model.specs.Corresponds.{shape_of}
use Rattle.cache_check.specs.declared.matching.Matching.{Matching}
use Rattle.cache_check.specs.declared.mismatch.Mismatch.{Mismatch}
use Rattle.cache_check.specs.declared.verdict.Difference.{Difference}
use Rattle.cache_check.specs.Bytes.{Chains, first_mismatch, bytes_of, bytes_difference, words_by_address}
use Rattle.cache_check.specs.Differences.{shape_difference, cached_starts, exports_difference}
use Rattle.cache_check.specs.Steps.Sides.{chain_view}
use Rattle.cache_check.specs.Steps.Comparing.{matched_mismatch, matched_difference}
use Rattle.cache_check.specs.Verdict.{pair_difference, image_difference}

or_none : {X : Type 0} (o : Option X) → option_or o None ≡ o
or_none None = refl
or_none (Some x) = refl

-- ---- by its parts

module _ (m : Matching) (k : ℕ) (ps : List PlacedWord) (rs : List Reference) (found wanted : List ℕ) (shape : Option Difference)
    (found_is : found ≡ shape_of m.cached.now) (wanted_is : wanted ≡ shape_of m.file.now) (shape_is : shape ≡ shape_difference k found wanted) where
  shapes : shape ≡ shape_difference k (shape_of m.cached.now) (shape_of m.file.now)
  shapes = shape_is ∙ ap₂ (λ (a b : List ℕ). shape_difference k a b) found_is wanted_is

  pub by_shape : (d : Difference) → shape ≡ Some d → Some d ≡ matched_difference m k ps rs
  unfolding matched_difference
  by_shape d is =
      sym (ap (λ (o : Option Difference). option_or o (first_break (option_map (bytes_of k) (matched_mismatch m k ps rs) ∷ exports_difference k m.file.now m.cached.now ∷ []))) (sym shapes ∙ is))

  past_shape : shape ≡ None → matched_difference m k ps rs ≡ option_or (option_map (bytes_of k) (matched_mismatch m k ps rs)) (option_or (exports_difference k m.file.now m.cached.now) None)
  unfolding matched_difference
  past_shape none =
      ap (λ (o : Option Difference). option_or o (first_break (option_map (bytes_of k) (matched_mismatch m k ps rs) ∷ exports_difference k m.file.now m.cached.now ∷ []))) (sym shapes ∙ none)

  pub by_bytes : (x : Mismatch) (place : Option Mismatch) (d : Difference) → shape ≡ None → place ≡ matched_mismatch m k ps rs → place ≡ Some x → d ≡ bytes_of k x → Some d ≡ matched_difference m k ps rs
  by_bytes x place d none place_is is made =
      sym (past_shape none
      ∙ (ap (λ (o : Option Mismatch). option_or (option_map (bytes_of k) o) (option_or (exports_difference k m.file.now m.cached.now) None)) (sym place_is ∙ is)
      ∙ ap (λ (y : Difference). Some y) (sym made)))

  pub by_exports : (place : Option Mismatch) (o : Option Difference) → shape ≡ None → place ≡ matched_mismatch m k ps rs → place ≡ None → o ≡ exports_difference k m.file.now m.cached.now → o ≡ matched_difference m k ps rs
  by_exports place o none place_is is found_there =
      found_there
      ∙ sym (past_shape none
      ∙ (ap (λ (p : Option Mismatch). option_or (option_map (bytes_of k) p) (option_or (exports_difference k m.file.now m.cached.now) None)) (sym place_is ∙ is)
      ∙ or_none (exports_difference k m.file.now m.cached.now)))

-- ---- by the set

abbrev whole : Chains → List Img → Img → Img → ℕ → List PlacedWord → List Reference → Option Difference
whole chains all file image k own refs =
    first_break (shape_difference k (shape_of image) (shape_of file)
    ∷ option_map (bytes_of k) (first_mismatch chains (cached_starts all) own (map pointer_word own ++ map (reference_word k file.sections file.segments) (filter is_no_pointer refs)) file image)
    ∷ exports_difference k file image ∷ [])

matched_whole : (m : Matching) (k : ℕ) (own : List PlacedWord) (refs : List Reference) → matched_difference m k own refs ≡ whole (chain_view m.chains) m.all.now m.file.now m.cached.now k own refs
unfolding matched_difference
matched_whole m k own refs = refl

pair_whole : (chains : Chains) (cached : List Img) (set : ImageSet) (k : ℕ) (file image : Img)
    → pair_difference chains cached set k (Some file) (Some image) ≡ whole chains cached file image k (ordered_pointers set k) (streams_at set k).references
unfolding bytes_difference words_by_address
pair_whole chains cached set k file image = refl

pub matched_image : (m : Matching) (chains : Chains) (cached : List Img) (set : ImageSet) (k : ℕ) (file image : Img) (own : List PlacedWord) (refs : List Reference)
    → chain_view m.chains ≡ chains → m.all.now ≡ cached → m.file.now ≡ file → m.cached.now ≡ image → slice_get set.images k ≡ Some file → slice_get cached k ≡ Some image
    → own ≡ ordered_pointers set k → refs ≡ (streams_at set k).references → matched_difference m k own refs ≡ image_difference chains cached set k
unfolding image_difference
matched_image m chains cached set k file image own refs chains_are all_are file_is image_is file_there image_there own_is refs_are =
    matched_whole m k own refs
    ∙ (ap₂ (λ (c : Chains) (a : List Img). whole c a m.file.now m.cached.now k own refs) chains_are all_are
    ∙ (ap₂ (λ (f i : Img). whole chains cached f i k own refs) file_is image_is
    ∙ (ap₂ (λ (o : List PlacedWord) (r : List Reference). whole chains cached file image k o r) own_is refs_are
    ∙ (sym (pair_whole chains cached set k file image)
    ∙ ap₂ (λ (f i : Option Img). pair_difference chains cached set k f i) (sym file_there) (sym image_there)))))

-- ---- pointers rise

pub all_rise : (all ws : List PlacedWord) → ArePlaced all ws → (i j : ℕ) (d : PlacedWord) → i < j → j < length ws → (get_or ws i d).at.address < (get_or ws j d).at.address
all_rise all ws placed i zero d lt inside = absurd (omega (arith, lt))
all_rise all ws placed i (suc j) d lt inside =
    let next : suc j ≡ j + 1 = omega arith in
    let step : (get_or ws j d).at.address < (get_or ws (j + 1) d).at.address = placed.rises j d (omega (arith, inside)) in
    let here : (get_or ws j d).at.address < (get_or ws (suc j) d).at.address = subst (λ (n : ℕ). (get_or ws j d).at.address < (get_or ws n d).at.address) (sym next) step in
    elim (cases_lt i j) [
      | inl before ↦ let old = all_rise all ws placed i j d before (omega (arith, inside)) in omega (arith, old, here)
      | inr from ↦ let same : i ≡ j = omega (arith, from, lt) in subst (λ (n : ℕ). (get_or ws n d).at.address < (get_or ws (suc j) d).at.address) (sym same) here
    ]
