-- The data of a cache at slide 0 have each chain word's value.
use Rattle.std.proofs.Common.{◌≡◌, ℕ, ◌+◌, ◌-◌, ◌%◌, ◌^◌, List, [], ◌∷◌, ◌++◌, map, length, Bool, true, false, cond, refl, sym, ap, subst, inl, inr, ◌∙◌, arith}
use Rattle.std.specs.Prelude.{nat_eq, ◌||◌, None}
use Rattle.std.specs.List.{list_any}
use Rattle.std.proofs.lemmas.Bool.{eq-eqb, ne_eqb, cases_eq, false≢true}
use Rattle.dsc_base.specs.Numbers.{number_at}
use Rattle.dsc_base.specs.Edits.{put_all, settled, AllInside, AllFit, ApartFrom, AllApart, Holds}
use Rattle.dsc_base.specs.declared.edits.Edit.{Edit}
use Rattle.dsc_base.proofs.NumberLaws.{number_at-append_left, number_at-append_right}
use Rattle.dsc_base.proofs.EditLaws.{length-put_all, Holds-put_all, change_all-settled}
use Rattle.slide_chain.specs.Chains.{Slide, Suits, kept, unslid, slid, sliding, reached, in_order, words_at, chain_words, chain_finding, slid_area}
use Rattle.slide_chain.specs.Steps.Apart.{KeepsApart, AreApart}
use Rattle.slide_chain.proofs.WordLaws.{slid_some, slid-lt}
use Rattle.cache_check.specs.Views.{HaveValues}
use Rattle.cache_check.proofs.ReachedLaws.{AllOf, InPages, all-any, reached-in, reached-apart, Rise, order-rises}

-- ---- the words are edits that keep apart

abbrev pub edits : Slide → ℕ → List ℕ → List ℕ → List Edit
edits s slide area places = map (settled area) (map (sliding s slide) places)

pub edits-inside : (s : Slide) (slide n : ℕ) (area places : List ℕ) → AllOf (InPages n) places → AllInside n (map (settled area) (map (sliding s slide) places))
edits-inside s slide n area [] all = tt
edits-inside s slide n area (a ∷ places) all = (all.0.1, edits-inside s slide n area places all.1)

edit-apart : (s : Slide) (slide a : ℕ) (area places : List ℕ) → KeepsApart a places → ApartFrom a 8 (map (settled area) (map (sliding s slide) places))
edit-apart s slide a area [] apart = tt
edit-apart s slide a area (p ∷ places) apart = (apart.0, edit-apart s slide a area places apart.1)

pub edits-apart : (s : Slide) (slide : ℕ) (area places : List ℕ) → AreApart places → AllApart (map (settled area) (map (sliding s slide) places))
edits-apart s slide area [] apart = tt
edits-apart s slide area (a ∷ places) apart = (edit-apart s slide a area places apart.0, edits-apart s slide area places apart.1)

edits-fit : (s : Slide) (slide : ℕ) (area places : List ℕ) → AllFit (map (settled area) (map (sliding s slide) places))
edits-fit s slide area [] = tt
edits-fit s slide area (a ∷ places) = (slid-lt s slide (number_at 8 area a), edits-fit s slide area places)

pub put-slid : (s : Slide) (slide : ℕ) (area : List ℕ) → Suits s area → chain_finding s area ≡ None → slid_area s slide area ≡ put_all (map (settled area) (map (sliding s slide) (reached s area))) area
unfolding slid_area
put-slid s slide area suits none =
    change_all-settled (map (sliding s slide) (reached s area)) area (edits-inside s slide (length area) area (reached s area) (reached-in s area suits))
    (edits-apart s slide area (reached s area) (reached-apart s area none))

pub length-slid : (s : Slide) (slide : ℕ) (area : List ℕ) → Suits s area → chain_finding s area ≡ None → length (slid_area s slide area) ≡ length area
length-slid s slide area suits none =
    ap (λ (l : List ℕ). length l) (put-slid s slide area suits none)
    ∙ length-put_all (edits s slide area (reached s area)) area (edits-inside s slide (length area) area (reached s area) (reached-in s area suits))

slid-holds : (s : Slide) (slide : ℕ) (area : List ℕ) → Suits s area → chain_finding s area ≡ None → Holds (slid_area s slide area) (map (settled area) (map (sliding s slide) (reached s area)))
slid-holds s slide area suits none =
    subst (λ (l : List ℕ). Holds l (edits s slide area (reached s area))) (sym (put-slid s slide area suits none))
    (Holds-put_all (edits s slide area (reached s area)) area (edits-inside s slide (length area) area (reached s area) (reached-in s area suits))
    (edits-apart s slide area (reached s area) (reached-apart s area none)) (edits-fit s slide area (reached s area)))

holds-any : (s : Slide) (slide a : ℕ) (area bytes places : List ℕ) → Holds bytes (map (settled area) (map (sliding s slide) places)) → list_any (nat_eq a) places ≡ true → number_at 8 bytes a ≡ slid s slide (number_at 8 area a)
holds-any s slide a area bytes [] holds there = absurd (false≢true there)
holds-any s slide a area bytes (p ∷ places) holds there =
    elim (cases_eq a p) [
      | inl same ↦ subst (λ (x : ℕ). number_at 8 bytes x ≡ slid s slide (number_at 8 area x)) (sym same) holds.0
      | inr other ↦ holds-any s slide a area bytes places holds.1 (ap (λ (b : Bool). b || list_any (nat_eq a) places) (sym (ne_eqb a p other)) ∙ there)
    ]

-- ---- the values of chain words

unslid-whole : (mask value_add raw : ℕ) → (unslid mask value_add raw + 0) % 2 ^ 64 ≡ unslid mask value_add raw
unfolding unslid
unslid-whole mask value_add raw = omega arith

value-is : (s : Slide) (raw n : ℕ) → nat_eq (kept s.mask raw) 0 ≡ false → n ≡ slid s 0 raw → n ≡ unslid s.mask s.value_add raw
value-is s raw n some is = is ∙ (slid_some s 0 raw (λ none. false≢true (sym some ∙ eq-eqb (kept s.mask raw) 0 none)) ∙ unslid-whole s.mask s.value_add raw)

values-of : (s : Slide) (area bytes places : List ℕ) (place from : ℕ) (qs : List ℕ) → ((a : ℕ) → list_any (nat_eq a) places ≡ true → number_at 8 bytes (place + a) ≡ slid s 0 (number_at 8 area a)) → Rise places from qs
    → HaveValues bytes place (words_at s.mask s.value_add area qs)
unfolding words_at
values-of s area bytes places place from [] are rise = tt
values-of s area bytes places place from (a ∷ qs) are rise =
    elim (nat_eq (kept s.mask (number_at 8 area a)) 0) as (λ b. nat_eq (kept s.mask (number_at 8 area a)) 0 ≡ b
    → HaveValues bytes place (cond b (words_at s.mask s.value_add area qs) (record { offset = a; value = unslid s.mask s.value_add (number_at 8 area a) } ∷ words_at s.mask s.value_add area qs))) [
      | true ↦ λ none. values-of s area bytes places place (a + 8) qs are rise.3
      | false ↦ λ some. (value-is s (number_at 8 area a) (number_at 8 bytes (place + a)) some (are a rise.2), values-of s area bytes places place (a + 8) qs are rise.3)
    ] refl

-- bytes with the data at slide 0 in them, from a place on
pub slid-values : (s : Slide) (area before rest : List ℕ) (place : ℕ) → Suits s area → chain_finding s area ≡ None → length before ≡ place
    → HaveValues (before ++ (slid_area s 0 area ++ rest)) place (chain_words s area)
unfolding chain_words
slid-values s area before rest place suits none long =
    values-of s area (before ++ (slid_area s 0 area ++ rest)) (reached s area) place 0 (in_order (reached s area) _ 0) at_place (order-rises (reached s area) _ 0 (reached-apart s area none) refl)
  where
    at_place : (a : ℕ) → list_any (nat_eq a) (reached s area) ≡ true → number_at 8 (before ++ (slid_area s 0 area ++ rest)) (place + a) ≡ slid s 0 (number_at 8 area a)
    at_place a there =
        let own : InPages (length area) a = all-any (InPages (length area)) a (reached s area) (reached-in s area suits) there in
        let far : place + a - place ≡ a = omega arith in
        number_at-append_right 8 before (slid_area s 0 area ++ rest) place (place + a) long (omega arith)
        ∙ (ap (λ (x : ℕ). number_at 8 (slid_area s 0 area ++ rest) x) far
        ∙ (number_at-append_left 8 (slid_area s 0 area) rest a (omega (arith, own.1, length-slid s 0 area suits none))
        ∙ holds-any s 0 a area (slid_area s 0 area) (reached s area) (slid-holds s 0 area suits none) there))
