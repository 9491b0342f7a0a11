-- A cache of which nothing is found, as it is mapped: chain words slide, and all other bytes stay.
use Rattle.std.proofs.Common.{◌≡◌, ◌≤◌, ◌<◌, ℕ, ◌+◌, ◌-◌, Some, None, List, [], ◌∷◌, length, get_or, ap, ◌∙◌, subst, arith, inl, inr}
use Rattle.dsc_base.specs.Numbers.{number_at, little_bytes}
use Rattle.dsc_base.specs.Region.{region_start}
use Rattle.macho_image.specs.Records.{Img}
use Rattle.macho_image.specs.Places.{wrap}
use Rattle.slide_chain.specs.declared.words.ChainWord.{ChainWord}
use Rattle.cache_header.specs.Reading.{head_read}
use Rattle.load_model.specs.Mapped.{flat, mapped}
use Rattle.load_model.proofs.WordCases.{IsIn, in_none, in_cases}
use Rattle.cache_check.specs.Images.{images_of}
use Rattle.cache_check.specs.Shape.{data_mapping}
use Rattle.cache_check.specs.Views.{IsSoundView, HaveValues, view_of, view_finding}
use Rattle.cache_check.proofs.ReadableLaws.{AreBytes, readable}
use Rattle.cache_check.proofs.StandingLaws.{chain_start}
use Rattle.cache_check.proofs.SteadyLaws.{word_inside, steady_cell, chain_cell, flat_bytes}
use Rattle.cache_check.proofs.ViewLaws.{IsReadable, sound_view}
use Rattle.extractor.specs.Placing.{data_start}
use Rattle.extractor.specs.Vets.{Parts, IsVetted}
use Rattle.extractor.specs.Vetting.{vet_finding}
use Rattle.extractor.proofs.NearLaws.{AreClear}
use Rattle.extractor.proofs.ReadyLaws.{AreNone, all_none}
use Rattle.extractor.proofs.VettedLaws.{parts_in, vetted_in}

-- ---- the cache, by its bytes

abbrev pub first_in : List ℕ → ℕ
first_in cache = data_start (view_of cache)

abbrev pub words_in : List ℕ → List ChainWord
words_in cache = (view_of cache).words

abbrev pub images_in : List ℕ → List Img
images_in cache = images_of (view_of cache)

abbrev pub parts_at : List ℕ → Parts
parts_at cache = parts_in (view_of cache)

-- where a chain word is in memory
abbrev pub word_place : List ℕ → ChainWord → ℕ
word_place cache w = first_in cache + w.offset

-- its bytes are bytes, and nothing is found of it
pub record IsUnfound (cache : List ℕ) : Type 0 where
  pub bytes : AreBytes cache
  pub read : view_finding cache ≡ None
  pub vetted : vet_finding (view_of cache) ≡ None

value_in : (bytes : List ℕ) (place : ℕ) (ws : List ChainWord) (w : ChainWord) → HaveValues bytes place ws → IsIn ws w → number_at 8 bytes (place + w.offset) ≡ w.value
value_in bytes place [] w values there = absurd (in_none w there)
value_in bytes place (x ∷ xs) w values there = elim (in_cases x xs w there) [
  | inl is ↦ subst (λ (u : ChainWord). number_at 8 bytes (place + u.offset) ≡ u.value) is values.0
  | inr later ↦ value_in bytes place xs w values.1 later
]

-- ---- what is known of it

module _ (cache : List ℕ) (unfound : IsUnfound cache) where
  pub can_read : IsReadable cache
  can_read = readable cache unfound.bytes unfound.read

  pub view_sound : IsSoundView (view_of cache)
  view_sound = sound_view cache can_read

  pub vetted : IsVetted (parts_at cache)
  unfolding view_of
  vetted = vetted_in (view_of cache) view_sound (flat_bytes cache can_read unfound.bytes) unfound.vetted

  pub nones : AreNone (view_of cache)
  nones = all_none (view_of cache) unfound.vetted

  start_is : first_in cache ≡ region_start + (data_mapping (head_read cache).mappings).file
  start_is = chain_start cache can_read

  -- ---- the mapped cache

  pub mapped_word : (slide y : ℕ) (w : ChainWord) → IsIn (words_in cache) w → first_in cache + w.offset ≤ y → y < first_in cache + w.offset + 8
      → mapped cache slide (wrap (y + slide)) ≡ Some (get_or (little_bytes 8 (wrap (w.value + slide))) (y - (first_in cache + w.offset)) 0)
  mapped_word slide y w there from to =
      let n : ℕ = y - (first_in cache + w.offset) in
      let place : y ≡ region_start + ((data_mapping (head_read cache).mappings).file + w.offset + (y - (first_in cache + w.offset))) = omega (arith, from, start_is) in
      ap (λ (x : ℕ). mapped cache slide (wrap (x + slide))) place ∙ chain_cell cache can_read slide n w there (word_inside cache can_read w there) (omega (arith, from, to))

  pub mapped_still : (slide y : ℕ) → region_start ≤ y → y < region_start + length cache → AreClear (word_place cache) (words_in cache) y
      → mapped cache slide (wrap (y + slide)) ≡ Some (get_or (flat cache) (y - region_start) 0)
  mapped_still slide y low high clear =
      let place : y ≡ region_start + (y - region_start) = omega (arith, low) in
      ap (λ (x : ℕ). mapped cache slide (wrap (x + slide))) place
      ∙ steady_cell cache can_read slide (y - region_start) (omega (arith, low, high))
      (λ w there. elim (clear w there) [
        | inl before ↦ inl (omega (arith, before, start_is, low))
        | inr behind ↦ inr (omega (arith, behind, start_is, low))
      ])

  -- at slide 0 a chain word has its value
  pub word_number : (a : ℕ) (w : ChainWord) → IsIn (words_in cache) w → a ≡ first_in cache + w.offset → number_at 8 (flat cache) (a - region_start) ≡ w.value
  unfolding view_of
  word_number a w there at =
      let same : a - region_start ≡ (data_mapping (head_read cache).mappings).file + w.offset = omega (arith, at, start_is) in
      ap (λ (n : ℕ). number_at 8 (flat cache) n) same ∙ value_in (flat cache) (data_mapping (head_read cache).mappings).file (words_in cache) w view_sound.values there
