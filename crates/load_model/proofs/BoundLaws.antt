-- What binding leaves in memory: each bound word has the number that leads to its target, and each other byte is as before.
use Rattle.std.proofs.Common.{◌≡◌, ◌≤◌, ◌<◌, ◌⊎◌, ℕ, zero, suc, ◌+◌, ◌^◌, List, [], ◌∷◌, map, refl, ap, ◌∙◌, sym, subst, arith, inl, inr}
use Rattle.std.specs.Prelude.{Some, slice_get}
use Rattle.macho_image.specs.Places.{wrap}
use Rattle.split_info.specs.declared.reference.RefKind.TheVariants.{Pointer64}
use Rattle.slide_chain.specs.Making.{AllBelow}
use Rattle.prebind.specs.declared.resolved.PlacedWord.{PlacedWord}
use Rattle.prebind.specs.Numbers.{Starts, number_to}
use Rattle.load_model.specs.Memory.{Cells, with_number, HasNumber}
use Rattle.load_model.specs.Loading.{bound_to}
use Rattle.load_model.proofs.NumberLaws.{address_on, number_there, byte_apart}
use Rattle.load_model.proofs.RebasedLaws.{IsFree}

abbrev pub places_of : List PlacedWord → List ℕ
places_of ws = map (λ (w : PlacedWord). w.at.address) ws

-- no two words of 8 bytes share one
abbrev pub AreAwayFrom : ℕ → List ℕ → Type 0
AreAwayFrom a [] = Unit {0}
AreAwayFrom a (b ∷ bs) = ((a + 8 ≤ b) ⊎ (b + 8 ≤ a)) × AreAwayFrom a bs

abbrev pub AreSpread : List ℕ → Type 0
AreSpread [] = Unit {0}
AreSpread (a ∷ bs) = AreAwayFrom a bs × AreSpread bs

-- a word's byte is in none of the others
away_free : (a k : ℕ) (bs : List ℕ) → k < 8 → AreAwayFrom a bs → IsFree (a + k) bs
away_free a k [] lt away = tt
away_free a k (b ∷ bs) lt away = (elim away.0 [ inl before ↦ inl (omega (arith, before, lt)) | inr behind ↦ inr (omega (arith, behind)) ], away_free a k bs lt away.1)

-- the number to which a word is set
abbrev pub number_of_word : Starts → ℕ → PlacedWord → ℕ
number_of_word starts slide w = number_to starts (wrap (w.at.address + slide)) 0 Pointer64 w.target

pub bound_free : (starts : Starts) (slide y : ℕ) (ws : List PlacedWord) (cells : Cells) → y < 2 ^ 63 → AllBelow (2 ^ 47) (places_of ws) → IsFree y (places_of ws)
    → bound_to starts slide ws cells (wrap (y + slide)) ≡ cells (wrap (y + slide))
unfolding bound_to
bound_free starts slide y [] cells small under free = refl
bound_free starts slide y (w ∷ ws) cells small under free =
    let v : ℕ = number_of_word starts slide w in
    bound_free starts slide y ws (with_number 8 (wrap (w.at.address + slide)) v cells) small under.1 free.1
    ∙ byte_apart 8 w.at.address y slide v cells (omega arith) (omega (arith, under.0)) small free.0

pub bound_word : (starts : Starts) (slide i : ℕ) (w : PlacedWord) (ws : List PlacedWord) (cells : Cells) → AllBelow (2 ^ 47) (places_of ws) → AreSpread (places_of ws) → slice_get ws i ≡ Some w
    → HasNumber 8 (bound_to starts slide ws cells) (wrap (w.at.address + slide)) (number_of_word starts slide w)
unfolding bound_to
bound_word starts slide i w [] cells under spread got = absurd (cc)
bound_word starts slide zero w (v ∷ vs) cells under spread got =
    let is : v ≡ w = cc in
    let after : Cells = with_number 8 (wrap (v.at.address + slide)) (number_of_word starts slide v) cells in
    subst (λ (x : PlacedWord). HasNumber 8 (bound_to starts slide vs after) (wrap (x.at.address + slide)) (number_of_word starts slide x)) is
    (λ k lt. ap (bound_to starts slide vs after) (address_on v.at.address slide k)
    ∙ (bound_free starts slide (v.at.address + k) vs after (omega (arith, under.0, lt)) under.1 (away_free v.at.address k (places_of vs) lt spread.0)
    ∙ (ap after (sym (address_on v.at.address slide k)) ∙ number_there 8 v.at.address slide (number_of_word starts slide v) cells (omega arith) k lt)))
bound_word starts slide (suc i) w (v ∷ vs) cells under spread got =
    bound_word starts slide i w vs (with_number 8 (wrap (v.at.address + slide)) (number_of_word starts slide v) cells) under.1 spread.1 got
