-- What the code keeps while chain words are given to the images in which they lie.
use Rattle.std.specs.Prelude.{◌≡◌, ◌≤◌, ◌<◌, ℕ, ◌+◌, List, length, map, Option, Some, if◌then◌else◌, slice_index_or}
use Rattle.std.specs.List.Sorted.{IsNonDecreasingBy}
use Rattle.macho_image.specs.Records.{Seg}
use Rattle.slide_chain.specs.declared.words.ChainWord.{ChainWord}
use Rattle.extractor.specs.declared.homes.Home.{Home}
use Rattle.extractor.specs.Placing.{has_data, home_in, or_else}

-- words whose offsets, counted from a start, rise
abbrev pub Rise : List ChainWord → Type 0
Rise words = IsNonDecreasingBy (λ (w : ChainWord). w.offset) words

-- the words before number i lie below an address, and the others don't
pub record IsFirstFrom (start : ℕ) (words : List ChainWord) (bound i : ℕ) : Type 0 where
  pub within : i ≤ length words
  pub below : (j : ℕ) (d : ChainWord) → j < i → start + (slice_index_or words j d).offset < bound
  pub above : (j : ℕ) (d : ChainWord) → i ≤ j → j < length words → bound ≤ start + (slice_index_or words j d).offset

-- of each word, what a function of addresses gives
abbrev pub each_word : (ℕ → Option Home) → ℕ → List ChainWord → List (Option Home)
each_word f start words = map (λ (w : ChainWord). f (start + w.offset)) words

-- the same where a segment is tried first, or the segments of image k from number g on
abbrev pub segment_first : Seg → Home → (ℕ → Option Home) → ℕ → Option Home
segment_first s h f address = if has_data address s then Some h else f address

abbrev pub segments_first : ℕ → ℕ → List Seg → (ℕ → Option Home) → ℕ → Option Home
segments_first k g ss f address = or_else (home_in k g ss address) (f address)

-- a list of homes that were functions of addresses are others
abbrev pub Become : ℕ → List ChainWord → List (Option Home) → List (Option Home) → ((ℕ → Option Home) → ℕ → Option Home) → Type 0
Become start words old new by = (f : ℕ → Option Home) → old ≡ each_word f start words → new ≡ each_word (by f) start words
