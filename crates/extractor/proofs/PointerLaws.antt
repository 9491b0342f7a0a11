-- The bound words of a cache: whether a chain word is at an address, and the first bind that hasn't its number.
use Rattle.std.proofs.Common.{◌≡◌, ◌≤◌, ◌<◌, ℕ, zero, suc, ◌+◌, Bool, true, false, not, ◌||◌, nat_eq, Option, List, [], ◌∷◌, length, get_or, Vec, Global, refl, sym, ap, ap₂, ◌∙◌, arith, inl, inr}
use Rattle.std.specs.Prelude.{position, option_map}
use Rattle.std.proofs.lemmas.Bool.{cases_Bool, cases_lt, or_left, or_right, eqb-true, eq-eqb}
use Rattle.std.proofs.lemmas.Option.{slice_get_read}
use Rattle.dsc_base.specs.declared.finding_kind.FindingKind.TheVariants.{PointerNotSymbol}
use Rattle.macho_image.specs.Records.{Seg, Img}
use Rattle.prebind.specs.declared.resolved.PlacedWord.{PlacedWord}
use Rattle.prebind.specs.Sets.{ImageSet}
use Rattle.prebind.specs.Words.{bound_words}
use Rattle.slide_chain.specs.declared.words.ChainWord.{ChainWord}
use Rattle.cache_header.specs.Findings.{finding}
use Rattle.extractor.specs.Bound.{AreAllBound}
use Rattle.extractor.specs.Homes.{Rise, IsFirstFrom}
use Rattle.extractor.specs.Vetting.{cached_set, is_chained, is_set, pointer_in}

-- ---- a chain word at an address

some_one : (start a : ℕ) (ws : List ChainWord) (i : ℕ) (d : ChainWord) → i < length ws → a ≡ start + (get_or ws i d).offset → is_chained start ws a ≡ true
some_one start a [] i d lt at = absurd (omega (arith, lt))
some_one start a (w ∷ ws) zero d lt at = or_left (nat_eq a (start + w.offset)) (is_chained start ws a) (eq-eqb a (start + w.offset) at)
some_one start a (w ∷ ws) (suc i) d lt at = or_right (nat_eq a (start + w.offset)) (is_chained start ws a) (some_one start a ws i d (omega (arith, lt)) at)

unequal : (a b : ℕ) → (a ≡ b → ⊥) → nat_eq a b ≡ false
unequal a b other = elim (cases_Bool (nat_eq a b)) [
  | inl is ↦ absurd (other (eqb-true a b is))
  | inr is_not ↦ is_not
]

no_one : (start a : ℕ) (ws : List ChainWord) (d : ChainWord) → ((i : ℕ) → i < length ws → a ≡ start + (get_or ws i d).offset → ⊥) → is_chained start ws a ≡ false
no_one start a [] d none = refl
no_one start a (w ∷ ws) d none =
    ap₂ (λ (x y : Bool). x || y) (unequal a (start + w.offset) (none 0 (omega arith))) (no_one start a ws d (λ i lt. none (suc i) (omega (arith, lt))))

no_word : ChainWord
no_word = record { offset = 0; value = 0 }

pub chained_past : (start a : ℕ) (ws : List ChainWord) (i : ℕ) → IsFirstFrom start ws a i → length ws ≤ i → false ≡ is_chained start ws a
chained_past start a ws i first past = sym (no_one start a ws no_word (λ j lt at. let below = first.below j no_word (omega (arith, lt, past)) in omega (arith, below, at)))

pub chained_at : (start a : ℕ) (ws : List ChainWord) (i : ℕ) (w : ChainWord) → Rise ws → IsFirstFrom start ws a i → i < length ws → w ≡ get_or ws i w → is_chained start (w ∷ []) a ≡ is_chained start ws a
chained_at start a ws i w rise first lt at = elim (cases_Bool (nat_eq a (start + w.offset))) [
  | inl is ↦
      let here : a ≡ start + (get_or ws i w).offset = eqb-true a (start + w.offset) is ∙ ap (λ (v : ChainWord). start + v.offset) at in
      ap (λ (x : Bool). x || false) is ∙ sym (some_one start a ws i w lt here)
  | inr is_not ↦
      let from : a ≤ start + (get_or ws i w).offset = first.above i w (omega arith) lt in
      let same : start + w.offset ≡ start + (get_or ws i w).offset = ap (λ (v : ChainWord). start + v.offset) at in
      let over : (a ≡ start + (get_or ws i w).offset) → ⊥ = λ e. true_false (sym (eq-eqb a (start + w.offset) (e ∙ sym same)) ∙ is_not) in
      ap (λ (x : Bool). x || false) is_not
      ∙ sym (no_one start a ws w (λ j within e.
      elim (cases_lt j i) [
        | inl before ↦ let below = first.below j w before in omega (arith, below, e)
        | inr behind ↦ let up = rise i j w behind within in over (omega (arith, up, e, from))
      ]))
]
  where
    true_false : true ≡ false → ⊥
    true_false e = cc

-- ---- the bound words of image n

pub bound_long : (images : List Img) (words : List (Vec PlacedWord Global)) → AreAllBound (cached_set images) words → length words ≡ length images
unfolding cached_set
bound_long images words bound = bound.count

pub own_bound : (set : ImageSet) (words : List (Vec PlacedWord Global)) (n : ℕ) (own : Vec PlacedWord Global) → AreAllBound set words → n < length words → own ≡ get_or words n own → own.items ≡ bound_words set n
own_bound set words n own bound lt at = bound.bound n own (slice_get_read words (length words) n own refl lt at)

pub pointer_is : (start : ℕ) (words : List ChainWord) (images : List Img) (k : ℕ) (i : Img) (segments : List Seg) (own : List PlacedWord) (o : Option ℕ) → segments ≡ i.segments → own ≡ bound_words (cached_set images) k
    → o ≡ position (λ (w : PlacedWord). not (is_set start words images segments w)) own → pointer_in start words (cached_set images) k i ≡ option_map (λ (j : ℕ). finding PointerNotSymbol k j) o
unfolding pointer_in cached_set
pointer_is start words images k i segments own o same bound found =
    ap (λ (p : Option ℕ). option_map (λ (j : ℕ). finding PointerNotSymbol k j) p)
    (sym (found ∙ ap₂ (λ (ss : List Seg) (l : List PlacedWord). position (λ (w : PlacedWord). not (is_set start words images ss w)) l) same bound))
