-- What linking leaves in the data: each word has its delta and keeps its value, and nothing is wrong with the chains.
use Rattle.std.proofs.Common.{◌≡◌, ◌<◌, ◌≤◌, ℕ, zero, suc, ◌+◌, ◌-◌, ◌*◌, ◌/◌, ◌%◌, ◌^◌, List, [], ◌∷◌, map, length, get_or, sym, ap, ap₂, subst, refl, inl, inr, ◌∙◌, arith, lit≤, Bool, false}
use Rattle.std.specs.Prelude.{nat_eq, ◌||◌, bit_and, if◌then◌else◌}
use Rattle.std.specs.List.{list_any}
use Rattle.std.proofs.lemmas.Bool.{eq-eqb, ne_eqb, cond-true, cond-false, cases_eq}
use Rattle.dsc_base.specs.Numbers.{number_at}
use Rattle.dsc_base.specs.Edits.{change_all, settled, AllInside, AllFit, AllApart, RisesFrom, Holds}
use Rattle.dsc_base.proofs.NumberLaws.{number_at-lt}
use Rattle.dsc_base.proofs.EditLaws.{Holds-put_all, change_all-settled, rising_apart}
use Rattle.slide_chain.specs.declared.words.ChainWord.{ChainWord}
use Rattle.slide_chain.specs.Chains.{Slide, delta_of, kept, unslid, reached, in_order, words_at, chain_words}
use Rattle.slide_chain.specs.Making.{step_to, linking, info_of, page_firsts, extras_of, AreWords, AllBelow, AreOutside, given}
use Rattle.slide_chain.proofs.WordLaws.{written, Written}
use Rattle.slide_chain.proofs.MadeLaws.{AreLinked, step_to-le, pages-made}

-- every byte is below 256
abbrev pub AreBytes : List ℕ → Type 0
AreBytes area = (k : ℕ) → get_or area k 0 < 256

-- ---- the edits that linking is

pub linking-inside : (limit size from : ℕ) (area ws : List ℕ) → size % 4096 ≡ 0 → AreWords from ws → AllBelow size ws → AllInside size (map (settled area) (linking limit ws))
unfolding linking
linking-inside limit size from area [] even words under = tt
linking-inside limit size from area (a ∷ ws) even words under =
    (omega (arith, words.2, under.0), linking-inside limit size (a + 8) area ws even words.3 under.1)

pub linking-rises : (limit from : ℕ) (area ws : List ℕ) → AreWords from ws → RisesFrom from (map (settled area) (linking limit ws))
unfolding linking
linking-rises limit from area [] words = tt
linking-rises limit from area (a ∷ ws) words = (words.0, linking-rises limit (a + 8) area ws words.3)

-- what linking makes of a word
linked_word : (n a : ℕ) (area ws : List ℕ) → 1 ≤ n → n ≤ 16 → AreBytes area → bit_and (number_at 8 area a) ((2 ^ n - 1) * 2 ^ 48) ≡ 0 → Written n (number_at 8 area a) (step_to (2 ^ n - 1) a ws)
linked_word n a area ws some most bytes outside =
    written n (number_at 8 area a) (step_to (2 ^ n - 1) a ws) some most (number_at-lt 8 area a bytes) outside (step_to-le (2 ^ n - 1) a ws)

pub linking-fits : (n : ℕ) (area ws : List ℕ) → 1 ≤ n → n ≤ 16 → AreBytes area → AreOutside ((2 ^ n - 1) * 2 ^ 48) area ws → AllFit (map (settled area) (linking (2 ^ n - 1) ws))
unfolding linking
linking-fits n area [] some most bytes outside = tt
linking-fits n area (a ∷ ws) some most bytes outside =
    ((linked_word n a area ws some most bytes outside.0).fits, linking-fits n area ws some most bytes outside.1)

-- each word has its number plus its step
linking-holds : (n size from : ℕ) (area ws : List ℕ) → 1 ≤ n → n ≤ 16 → size % 4096 ≡ 0 → length area ≡ size → AreBytes area → AreWords from ws → AllBelow size ws
    → AreOutside ((2 ^ n - 1) * 2 ^ 48) area ws → Holds (change_all (linking (2 ^ n - 1) ws) area) (map (settled area) (linking (2 ^ n - 1) ws))
linking-holds n size from area ws some most even is bytes words under outside =
    let inside : AllInside (length area) (map (settled area) (linking (2 ^ n - 1) ws)) =
    subst (λ (k : ℕ). AllInside k (map (settled area) (linking (2 ^ n - 1) ws))) (sym is) (linking-inside (2 ^ n - 1) size from area ws even words under) in
    let apart : AllApart (map (settled area) (linking (2 ^ n - 1) ws)) = rising_apart from (map (settled area) (linking (2 ^ n - 1) ws)) (linking-rises (2 ^ n - 1) from area ws words) in
    subst (λ (b : List ℕ). Holds b (map (settled area) (linking (2 ^ n - 1) ws))) (sym (change_all-settled (linking (2 ^ n - 1) ws) area inside apart))
    (Holds-put_all (map (settled area) (linking (2 ^ n - 1) ws)) area inside apart (linking-fits n area ws some most bytes outside))

-- so the deltas lead from word to word
linking-links : (n : ℕ) (area after ws : List ℕ) → 1 ≤ n → n ≤ 16 → AreBytes area → AreOutside ((2 ^ n - 1) * 2 ^ 48) area ws
    → Holds after (map (settled area) (linking (2 ^ n - 1) ws)) → AreLinked ((2 ^ n - 1) * 2 ^ 48) after (2 ^ n - 1) ws
unfolding linking
linking-links n area after [] some most bytes outside holds = tt
linking-links n area after (a ∷ ws) some most bytes outside holds = (
  ap (delta_of ((2 ^ n - 1) * 2 ^ 48)) holds.0 ∙ (linked_word n a area ws some most bytes outside.0).delta,
  linking-links n area after ws some most bytes outside.1 holds.1,
)

-- and each word keeps its value
abbrev pub KeepsValues : ℕ → List ℕ → List ℕ → List ℕ → Type 0
KeepsValues mask area after [] = Unit {0}
KeepsValues mask area after (a ∷ ws) = ((kept mask (number_at 8 after a) ≡ number_at 8 area a) × (number_at 8 area a < 2 ^ 64)) × KeepsValues mask area after ws

pub linking-keeps : (n : ℕ) (area after ws : List ℕ) → 1 ≤ n → n ≤ 16 → AreBytes area → AreOutside ((2 ^ n - 1) * 2 ^ 48) area ws
    → Holds after (map (settled area) (linking (2 ^ n - 1) ws)) → KeepsValues ((2 ^ n - 1) * 2 ^ 48) area after ws
unfolding linking
linking-keeps n area after [] some most bytes outside holds = tt
linking-keeps n area after (a ∷ ws) some most bytes outside holds = (
  (ap (kept ((2 ^ n - 1) * 2 ^ 48)) holds.0 ∙ (linked_word n a area ws some most bytes outside.0).value, number_at-lt 8 area a bytes),
  linking-keeps n area after ws some most bytes outside.1 holds.1,
)

-- the words that are read are those that were given
words_at-given : (s : Slide) (area after ws : List ℕ) → s.value_add ≡ 0 → KeepsValues s.mask area after ws → words_at s.mask s.value_add after ws ≡ given area ws
unfolding words_at given unslid
words_at-given s area after [] plain keeps = refl
words_at-given s area after (a ∷ ws) plain keeps =
    let value : (kept s.mask (number_at 8 after a) + s.value_add) % 2 ^ 64 ≡ number_at 8 area a = omega (arith, plain, keeps.0.0, keeps.0.1) in
    let others : words_at s.mask s.value_add after ws ≡ given area ws = words_at-given s area after ws plain keeps.1 in
    ap₂ (λ (k : ℕ) (v : ℕ). if nat_eq k 0 then words_at s.mask s.value_add after ws else record { offset = a; value = v } ∷ words_at s.mask s.value_add after ws) keeps.0.0 value
    ∙ ap (λ (l : List ChainWord). if nat_eq (number_at 8 area a) 0 then l else record { offset = a; value = number_at 8 area a } ∷ l) others

-- ---- words in order are themselves

-- a place that is passed plays no part
in_order-past : (a : ℕ) (ws : List ℕ) (n at : ℕ) → a < at → in_order (a ∷ ws) n at ≡ in_order ws n at
unfolding in_order
in_order-past a ws zero at past = refl
in_order-past a ws (suc n) at past =
    ap₂ (λ (b : Bool) (l : List ℕ). if (b || list_any (nat_eq at) ws) then at ∷ l else l) (ne_eqb at a (λ e. omega (arith, e))) (in_order-past a ws n (at + 4) (omega arith))

none_here : (at from : ℕ) (ws : List ℕ) → at < from → AreWords from ws → list_any (nat_eq at) ws ≡ false
none_here at from [] below words = refl
none_here at from (w ∷ ws) below words =
    ap₂ (λ (b c : Bool). b || c) (ne_eqb at w (λ e. omega (arith, e, words.0))) (none_here at (w + 8) ws (omega (arith, words.0)) words.3)

next_place : (at n : ℕ) → at + 4 * suc n ≡ at + 4 + 4 * n
next_place at n = omega arith

pub in_order-words : (n at from : ℕ) (ws : List ℕ) → at % 4 ≡ 0 → at ≤ from → AreWords from ws → AllBelow (at + 4 * n) ws → in_order ws n at ≡ ws
unfolding in_order
in_order-words zero at from [] four le words under = refl
in_order-words zero at from (w ∷ ws) four le words under = absurd (omega (arith, words.0, under.0))
in_order-words (suc n) at from [] four le words under = in_order-words n (at + 4) (at + 4) [] (omega arith) (omega arith) tt tt
in_order-words (suc n) at from (w ∷ ws) four le words under =
    elim (cases_eq at w) [
      | inl same ↦
          cond-true (nat_eq at w || list_any (nat_eq at) ws) (at ∷ in_order (w ∷ ws) n (at + 4)) (in_order (w ∷ ws) n (at + 4)) (ap (λ (b : Bool). b || list_any (nat_eq at) ws) (eq-eqb at w same))
          ∙ ap₂ (λ (a : ℕ) (l : List ℕ). a ∷ l) same
          (in_order-past w ws n (at + 4) (omega (arith, same))
          ∙ in_order-words n (at + 4) (w + 8) ws (omega arith) (omega (arith, same)) words.3 (subst (λ (e : ℕ). AllBelow e ws) (next_place at n) under.1))
      | inr other ↦
          let later : at < w = omega (arith, words.0, other) in
          cond-false (nat_eq at w || list_any (nat_eq at) ws) (at ∷ in_order (w ∷ ws) n (at + 4)) (in_order (w ∷ ws) n (at + 4))
          (ap₂ (λ (b c : Bool). b || c) (ne_eqb at w other) (none_here at (w + 8) ws (omega arith) words.3))
          ∙ in_order-words n (at + 4) (at + 4) (w ∷ ws) (omega arith) (omega arith) (omega (arith, later, words.1), words.1, words.2, words.3)
          (subst (λ (e : ℕ). AllBelow e (w ∷ ws)) (next_place at n) under)
    ]

-- ---- made, written and read

-- the bits of the deltas are the mask's
pub limit_back : (n : ℕ) → (2 ^ n - 1) * 2 ^ 48 / 2 ^ 48 ≡ 2 ^ n - 1
limit_back n = omega arith

-- what callers of the writer owe, in one place
pub record IsLinkable (n size : ℕ) (area ws : List ℕ) : Type 0 where
  pub some : 1 ≤ n
  pub most : n ≤ 16
  pub even : size % 4096 ≡ 0
  pub long : length area ≡ size
  pub bytes : (k : ℕ) → get_or area k 0 < 256
  pub words : AreWords 0 ws
  pub under : AllBelow size ws
  pub outside : AreOutside ((2 ^ n - 1) * 2 ^ 48) area ws

pub linkable-holds : (n size : ℕ) (area ws : List ℕ) → IsLinkable n size area ws → Holds (change_all (linking (2 ^ n - 1) ws) area) (map (settled area) (linking (2 ^ n - 1) ws))
linkable-holds n size area ws fit = linking-holds n size 0 area ws fit.some fit.most fit.even fit.long fit.bytes fit.words fit.under fit.outside

pub linkable-links : (n size : ℕ) (area ws : List ℕ) → IsLinkable n size area ws → AreLinked ((2 ^ n - 1) * 2 ^ 48) (change_all (linking (2 ^ n - 1) ws) area) (2 ^ n - 1) ws
linkable-links n size area ws fit =
    linking-links n area (change_all (linking (2 ^ n - 1) ws) area) ws fit.some fit.most fit.bytes fit.outside (linkable-holds n size area ws fit)

all_pages : (size : ℕ) → size % 4096 ≡ 0 → 0 + 4096 * (size / 4096) ≡ size
all_pages size even = omega arith

-- the words that are reached are those that were linked
pub reached-made : (n size : ℕ) (area ws : List ℕ) → IsLinkable n size area ws → length (extras_of (page_firsts (2 ^ n - 1) 0 (size / 4096) ws)) ≤ 0x4000
    → reached (info_of n size ws) (change_all (linking (2 ^ n - 1) ws) area) ≡ ws
unfolding reached info_of
reached-made n size area ws fit few =
    pages-made (info_of n size ws) (change_all (linking (2 ^ n - 1) ws) area) (2 ^ n - 1) 0 (size / 4096) 0 ws refl fit.words
    (subst (λ (e : ℕ). AllBelow e ws) (sym (all_pages size fit.even)) fit.under) (linkable-links n size area ws fit) refl (omega (arith, few))

all_fours : (size m : ℕ) → size % 4096 ≡ 0 → m ≡ size → 0 + 4 * (m / 4) ≡ size
all_fours size m even is = omega arith

-- so the chain words are those that were given
pub chain_words-made : (n size : ℕ) (area after ws : List ℕ) → IsLinkable n size area ws → length (extras_of (page_firsts (2 ^ n - 1) 0 (size / 4096) ws)) ≤ 0x4000
    → after ≡ change_all (linking (2 ^ n - 1) ws) area → length after ≡ size → chain_words (info_of n size ws) after ≡ given area ws
unfolding chain_words info_of
chain_words-made n size area after ws fit few is long =
    let is_reached : reached (info_of n size ws) after ≡ ws = ap (reached (info_of n size ws)) is ∙ reached-made n size area ws fit few in
    let ordered : in_order (reached (info_of n size ws) after) (length after / 4) 0 ≡ ws =
    ap (λ (l : List ℕ). in_order l (length after / 4) 0) is_reached
    ∙ in_order-words (length after / 4) 0 0 ws refl (lit≤ tt) fit.words (subst (λ (e : ℕ). AllBelow e ws) (sym (all_fours size (length after) fit.even long)) fit.under) in
    ap (words_at ((2 ^ n - 1) * 2 ^ 48) 0 after) ordered
    ∙ words_at-given (info_of n size ws) area after ws refl
    (subst (λ (b : List ℕ). KeepsValues ((2 ^ n - 1) * 2 ^ 48) area b ws) (sym is)
    (linking-keeps n area (change_all (linking (2 ^ n - 1) ws) area) ws fit.some fit.most fit.bytes fit.outside (linkable-holds n size area ws fit)))
