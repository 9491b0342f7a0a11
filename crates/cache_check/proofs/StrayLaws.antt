-- Words of a cache that slide, one after the other, against a section.
use Rattle.std.proofs.Common.{◌≡◌, ◌≤◌, ◌<◌, ℕ, ◌+◌, ◌^◌, Bool, true, false, not, ◌&&◌, Option, Some, None, List, length, get_or, refl, sym, ap, ◌∙◌, subst, arith, inl, inr}
use Rattle.std.specs.Prelude.{max, min}
use Rattle.std.specs.Option.{option_and_then}
use Rattle.std.proofs.lemmas.Bool.{cases_lt, le-ltb, cond-true, cond-false}
use Rattle.std.proofs.lemmas.Option.{slice_get-get_or}
use Rattle.macho_image.specs.declared.section.Section.{Section}
use Rattle.macho_image.specs.Places.{wrap, above}
use Rattle.slide_chain.specs.declared.words.ChainWord.{ChainWord}
use Rattle.prebind.specs.declared.resolved.PlacedWord.{PlacedWord}
use Rattle.cache_check.specs.declared.mismatch.Mismatch.{Mismatch}
use Rattle.cache_check.specs.Bytes.{Pair, Chains, leads_to_place, pointer_here, shares_section, is_stray, stray, stray_at, stray_of, stray_in}
use Rattle.cache_check.specs.Firsts.{first_below}
use Rattle.cache_check.proofs.FirstLaws.{none_each, none_of_each}

-- ---- where they don't share a byte

pub ends_before : (a : ℕ) (t : Section) → a + 8 ≤ t.addr → shares_section a t ≡ false
ends_before a t le = le-ltb (max a t.addr) (min (a + 8) (t.addr + t.size)) (omega (arith, le))

pub begins_behind : (a : ℕ) (t : Section) → t.addr + t.size ≤ a → shares_section a t ≡ false
begins_behind a t le = le-ltb (max a t.addr) (min (a + 8) (t.addr + t.size)) (omega (arith, le))

-- ---- one word

module _ (chains : Chains) (pointers : List PlacedWord) (number : ℕ) (p : Pair) (i : ℕ) (w : ChainWord) (lt : i < length chains.words) where
  word_is : stray_of chains pointers number p i ≡ stray_at pointers number p (get_or chains.words i w).value (wrap (chains.start + (get_or chains.words i w).offset))
  unfolding stray_of
  word_is = ap (λ (o : Option ChainWord). option_and_then (λ (v : ChainWord). stray_at pointers number p v.value (wrap (chains.start + v.offset))) o) (slice_get-get_or chains.words i w lt)

  pub stray_there : (test : Bool) (m : Mismatch) → test ≡ is_stray pointers p (wrap (chains.start + (get_or chains.words i w).offset)) → test ≡ true
      → m ≡ stray number p (get_or chains.words i w).value (wrap (chains.start + (get_or chains.words i w).offset)) → Some m ≡ stray_of chains pointers number p i
  stray_there test m is passes made =
      ap (λ (x : Mismatch). Some x) made
      ∙ (sym (cond-true (is_stray pointers p (wrap (chains.start + (get_or chains.words i w).offset))) (Some (stray number p (get_or chains.words i w).value (wrap (chains.start + (get_or chains.words i w).offset)))) None (sym is ∙ passes))
      ∙ sym word_is)

  pub stray_none : (test : Bool) → test ≡ is_stray pointers p (wrap (chains.start + (get_or chains.words i w).offset)) → test ≡ false → None ≡ stray_of chains pointers number p i
  stray_none test is fails =
      sym (cond-false (is_stray pointers p (wrap (chains.start + (get_or chains.words i w).offset))) (Some (stray number p (get_or chains.words i w).value (wrap (chains.start + (get_or chains.words i w).offset)))) None (sym is ∙ fails))
      ∙ sym word_is

  pub stray_apart : shares_section (wrap (chains.start + (get_or chains.words i w).offset)) p.there ≡ false → stray_of chains pointers number p i ≡ None
  stray_apart apart =
      let none : is_stray pointers p (wrap (chains.start + (get_or chains.words i w).offset)) ≡ false =
      ap (λ (b : Bool). b && not (leads_to_place (pointer_here pointers (wrap (p.here.addr + above p.there.addr (wrap (chains.start + (get_or chains.words i w).offset))))))) apart in
      sym (stray_none (is_stray pointers p (wrap (chains.start + (get_or chains.words i w).offset))) refl none)

-- ---- all of them

module _ (chains : Chains) (pointers : List PlacedWord) (number : ℕ) (p : Pair)
    (rises : (i j : ℕ) (d : ChainWord) → i < j → j < length chains.words → (get_or chains.words i d).offset + 8 ≤ (get_or chains.words j d).offset)
    (low : (i : ℕ) (d : ChainWord) → i < length chains.words → chains.start + (get_or chains.words i d).offset < 2 ^ 63) where
  unwrapped : (i : ℕ) → i < length chains.words → wrap (chains.start + (get_or chains.words i (record { offset = 0; value = 0 })).offset) ≡ chains.start + (get_or chains.words i (record { offset = 0; value = 0 })).offset
  unwrapped i lt = let small = low i (record { offset = 0; value = 0 }) lt in omega (arith, small)

  pub none_before : (n : ℕ) → n ≤ length chains.words → ((i : ℕ) (d : ChainWord) → i < n → chains.start + (get_or chains.words i d).offset + 8 ≤ p.there.addr) → first_below (stray_of chains pointers number p) n ≡ None
  none_before n bound before = none_of_each (stray_of chains pointers number p) n (λ i lt.
      let inside : i < length chains.words = omega (arith, lt, bound) in
      let here = unwrapped i inside in
      stray_apart chains pointers number p i (record { offset = 0; value = 0 }) inside
      (ends_before (wrap (chains.start + (get_or chains.words i (record { offset = 0; value = 0 })).offset)) p.there (omega (arith, here, before i (record { offset = 0; value = 0 }) lt))))

  pub none_behind : (n : ℕ) → n < length chains.words → first_below (stray_of chains pointers number p) n ≡ None → p.there.addr + p.there.size ≤ chains.start + (get_or chains.words n (record { offset = 0; value = 0 })).offset
      → None ≡ stray_in chains pointers number p
  unfolding stray_in
  none_behind n inside none behind = sym (none_of_each (stray_of chains pointers number p) (length chains.words) (λ i lt. elim (cases_lt i n) [
    | inl under ↦ none_each (stray_of chains pointers number p) n i none under
    | inr over ↦
        let here = unwrapped i lt in
        stray_apart chains pointers number p i (record { offset = 0; value = 0 }) lt
        (begins_behind (wrap (chains.start + (get_or chains.words i (record { offset = 0; value = 0 })).offset)) p.there (elim (cases_lt n i) [
          | inl after ↦ omega (arith, here, behind, rises n i (record { offset = 0; value = 0 }) after lt)
          | inr same ↦ let e : i ≡ n = omega (arith, over, same) in
              subst (λ (m : ℕ). p.there.addr + p.there.size ≤ wrap (chains.start + (get_or chains.words m (record { offset = 0; value = 0 })).offset)) (sym e)
              (let at = unwrapped n inside in omega (arith, at, behind))
        ]))
  ]))
