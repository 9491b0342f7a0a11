-- What a walk over the pages gives, and starts and extras that lead to the same words.
use Rattle.std.specs.Prelude.{◌≡◌, ◌<◌, ℕ, Bool, List, [], length, slice_index, Some}
use Rattle.std.specs.List.{list_any}
use Rattle.slide_chain.specs.declared.reading.Walk.{Walk}
use Rattle.slide_chain.specs.declared.reading.Walk.TheVariants.{Sound, Leaves, Overlaps}
use Rattle.slide_chain.specs.declared.words.ChainWord.{ChainWord}
use Rattle.slide_chain.specs.Chains.{Slide, heads, reached, leaving, overlapping, lowest, chain_words}

-- the words that were gathered where nothing is wrong, or the least place where a chain leaves its page or words overlap
abbrev pub WalkIs : Slide → List ℕ → List ChainWord → Walk → Type 0
WalkIs s area words Sound = (leaving s area ≡ []) × (overlapping (reached s area) ≡ []) × (words ≡ chain_words s area)
WalkIs s area words (Leaves at) = lowest (leaving s area) ≡ Some at
WalkIs s area words (Overlaps at) = lowest (overlapping (reached s area)) ≡ Some at

-- two lists with the same places: each test finds one in both or in neither
abbrev pub SamePlaces : List ℕ → List ℕ → Type 0
SamePlaces xs ys = (test : ℕ → Bool) → list_any test xs ≡ list_any test ys

-- each page's start leads to the same first words by one pair of lists as by the other
pub record SameHeads (starts extras new_starts new_extras : List ℕ) : Type 0 where
  pub pages : length new_starts ≡ length starts
  pub same : (k page : ℕ) → k < length starts → SamePlaces (heads extras page (slice_index starts k)) (heads new_extras page (slice_index new_starts k))
