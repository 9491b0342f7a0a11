-- Deltas of 16 bits: a step from a word to the next one of its page always fits, so a page has one chain at most, and there are no extras.
use Rattle.std.proofs.Common.{◌≡◌, ◌≤◌, ◌<◌, ℕ, zero, suc, ◌+◌, ◌-◌, ◌/◌, ◌%◌, List, [], ◌∷◌, ◌++◌, length, refl, sym, ap, ap₂, subst, ◌∙◌, arith}
use Rattle.std.specs.Prelude.{nat_eq, nat_le, ◌&&◌, None, option_map}
use Rattle.std.proofs.lemmas.Bool.{eq-eqb, ne_eqb, le-leb, and_from, cond-true, cond-false}
use Rattle.dsc_base.specs.Refusals.{in_image}
use Rattle.slide_chain.specs.Making.{step, firsts_after, firsts, front, rest, page_firsts, extras_for, extras_of, info_of, AreWords, chains_break}
use Rattle.slide_chain.proofs.MadeLaws.{AllIn, front-in, front-words, rest-words}
use Rattle.slide_chain.proofs.RefusedLaws.{few_accepted}

-- ---- one page

step-in_page : (page a b : ℕ) → page % 4096 ≡ 0 → page ≤ a → a + 8 ≤ b → b < page + 4096 → step 0xFFFF a b ≡ (b - a) / 4
unfolding step
step-in_page page a b even from behind below =
    cond-true (nat_eq (a / 4096) (b / 4096) && nat_le ((b - a) / 4) 0xFFFF) ((b - a) / 4) 0
    (and_from (nat_eq (a / 4096) (b / 4096)) (nat_le ((b - a) / 4) 0xFFFF) (eq-eqb (a / 4096) (b / 4096) (omega arith)) (le-leb ((b - a) / 4) 0xFFFF (omega arith)))

-- no word behind another one of its page begins a chain
firsts_after-none : (page a : ℕ) (ws : List ℕ) → page % 4096 ≡ 0 → page ≤ a → AllIn page ws → AreWords (a + 8) ws → firsts_after 0xFFFF a ws ≡ []
unfolding firsts_after
firsts_after-none page a [] even from inside words = refl
firsts_after-none page a (b ∷ ws) even from inside words =
    let linked : step 0xFFFF a b ≡ (b - a) / 4 = step-in_page page a b even from words.0 inside.0.1 in
    cond-false (nat_eq (step 0xFFFF a b) 0) (b ∷ firsts_after 0xFFFF b ws) (firsts_after 0xFFFF b ws) (ne_eqb (step 0xFFFF a b) 0 (λ none. omega (arith, none, linked, words.0)))
    ∙ firsts_after-none page b ws even inside.0.0 inside.1 words.3

firsts-few : (page from : ℕ) (ws : List ℕ) → page % 4096 ≡ 0 → AllIn page ws → AreWords from ws → length (firsts 0xFFFF ws) ≤ 1
unfolding firsts
firsts-few page from [] even inside words = omega arith
firsts-few page from (a ∷ ws) even inside words =
    subst (λ (l : List ℕ). length (a ∷ l) ≤ 1) (sym (firsts_after-none page a ws even inside.0.0 inside.1 words.3)) (omega arith)

page-few : (page : ℕ) (ws : List ℕ) → page % 4096 ≡ 0 → AreWords page ws → length (firsts 0xFFFF (front (page + 4096) ws)) ≤ 1
page-few page ws even words = firsts-few page page (front (page + 4096) ws) even (front-in page page ws (omega arith) words) (front-words (page + 4096) page ws words)

extras_for-few : (fs : List ℕ) → length fs ≤ 1 → extras_for fs ≡ []
unfolding extras_for
extras_for-few [] few = refl
extras_for-few (f ∷ []) few = refl
extras_for-few (f ∷ g ∷ fs) few = absurd (omega arith)

-- ---- all pages

pages-extras : (page n : ℕ) (ws : List ℕ) → page % 4096 ≡ 0 → AreWords page ws → extras_of (page_firsts 0xFFFF page n ws) ≡ []
unfolding page_firsts extras_of
pages-extras page zero ws even words = refl
pages-extras page (suc n) ws even words =
    ap₂ (λ (l m : List ℕ). l ++ m) (extras_for-few (firsts 0xFFFF (front (page + 4096) ws)) (page-few page ws even words))
    (pages-extras (page + 4096) n (rest (page + 4096) ws) (omega arith) (rest-words (page + 4096) page ws words))

-- ---- the information

pub no_extras : (size : ℕ) (ws : List ℕ) → AreWords 0 ws → (info_of 16 size ws).extras ≡ []
unfolding info_of
no_extras size ws words = pages-extras 0 (size / 4096) ws refl words

-- the same as a length
pub few_extras : (size : ℕ) (ws : List ℕ) → AreWords 0 ws → length (info_of 16 size ws).extras ≡ 0
few_extras size ws words = ap (λ (l : List ℕ). length l) (no_extras size ws words)

-- so none is refused
pub sixteen_accepted : (size : ℕ) (ws : List ℕ) → AreWords 0 ws → chains_break 16 size ws ≡ None
sixteen_accepted size ws words = ap (option_map (in_image 0)) (few_accepted 16 size ws (omega (arith, few_extras size ws words)))
