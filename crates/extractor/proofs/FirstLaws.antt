-- The finding of the least image, of words that are tried from the last one on.
use Rattle.std.proofs.Common.{◌≡◌, ◌≤◌, ◌<◌, ℕ, ◌+◌, Option, None, List, [], ◌∷◌, map, drop, length, get_or, refl, sym, ap, ap₂, ◌∙◌}
use Rattle.std.proofs.lemmas.List.{drop_more, drop_all}
use Rattle.dsc_base.specs.declared.fault.Finding.{Finding}
use Rattle.slide_chain.specs.declared.words.ChainWord.{ChainWord}
use Rattle.extractor.specs.Vetting.{earlier, by_image}

-- the words from number k on are tried
pub record IsFirst (finds : ChainWord → Option Finding) (words : List ChainWord) (first : Option Finding) (k : ℕ) : Type 0 where
  pub is : first ≡ by_image (map finds (drop k words))

empty : (finds : ChainWord → Option Finding) → None ≡ by_image (map finds [])
unfolding by_image
empty finds = refl

pub first_start : (finds : ChainWord → Option Finding) (words : List ChainWord) (k : ℕ) → length words ≤ k → IsFirst finds words None k
first_start finds words k all = record { is = empty finds ∙ ap (λ (ws : List ChainWord). by_image (map finds ws)) (sym (drop_all k words all)) }

next : (finds : ChainWord → Option Finding) (w : ChainWord) (ws : List ChainWord) → earlier (finds w) (by_image (map finds ws)) ≡ by_image (map finds (w ∷ ws))
unfolding by_image
next finds w ws = refl

pub first_more : (finds : ChainWord → Option Finding) (words : List ChainWord) (first first' found : Option Finding) (k : ℕ) (w : ChainWord) → IsFirst finds words first (k + 1) → k < length words → w ≡ get_or words k w
    → found ≡ finds w → first' ≡ earlier found first → IsFirst finds words first' k
first_more finds words first first' found k w tried lt at found_is now = record {
  is =
      now
      ∙ (ap₂ (λ (f g : Option Finding). earlier f g) found_is tried.is
      ∙ (next finds w (drop (k + 1) words)
      ∙ ap (λ (ws : List ChainWord). by_image (map finds ws)) (sym (drop_more words k w lt ∙ ap (λ (v : ChainWord). v ∷ drop (k + 1) words) (sym at)))));
}

pub first_all : (finds : ChainWord → Option Finding) (words : List ChainWord) (first : Option Finding) → IsFirst finds words first 0 → first ≡ by_image (map finds words)
first_all finds words first tried = tried.is
