-- Places that keep apart, and that those do in which nothing is found.
use Rattle.std.proofs.Common.{◌≡◌, ◌≤◌, ◌⊎◌, ℕ, ◌+◌, List, [], ◌∷◌, ◌++◌, length, sym, ap, ap₂, refl, inl, inr, ◌∙◌, arith, cond, Bool, true, false}
use Rattle.std.specs.Prelude.{nat_eq, nat_lt, nat_le, ◌&&◌, ◌||◌, filter, Option, Some, None}
use Rattle.std.specs.List.{list_any}
use Rattle.std.proofs.lemmas.Bool.{eq-eqb, ne_eqb, lt-ltb, le-ltb, le-leb, leb-false, ltb-false, cond-true, cond-false, cases_eq, cases_lt, and_cases, false≢true, cases_Bool, or_right}
use Rattle.dsc_base.specs.Refusals.{first_break}
use Rattle.dsc_base.specs.declared.fault.Finding.{Finding}
use Rattle.dsc_base.specs.declared.finding_kind.FindingKind.TheVariants.{ExtrasEnd, ChainLeavesPage, ChainsOverlap}
use Rattle.slide_chain.specs.Chains.{Slide, chain_finding, leaving, reached, endless_page, page_reached, page_leaving, each_page, overlapping, lowest, found}
use Rattle.slide_chain.specs.Steps.Apart.{KeepsApart, AreApart}
use Rattle.slide_chain.proofs.MarkLaws.{AllOf, AllOf-map}

-- ---- places that keep apart

KeepsApart-append : (a : ℕ) (xs ys : List ℕ) → KeepsApart a (xs ++ ys) → KeepsApart a xs × KeepsApart a ys
KeepsApart-append a [] ys apart = (tt, apart)
KeepsApart-append a (x ∷ xs) ys apart =
    let later : KeepsApart a xs × KeepsApart a ys = KeepsApart-append a xs ys apart.1 in
    ((apart.0, later.0), later.1)

KeepsApart-join : (a : ℕ) (xs ys : List ℕ) → KeepsApart a xs → KeepsApart a ys → KeepsApart a (xs ++ ys)
KeepsApart-join a [] ys left right = right
KeepsApart-join a (x ∷ xs) ys left right = (left.0, KeepsApart-join a xs ys left.1 right)

pub apart-left : (xs ys : List ℕ) → AreApart (xs ++ ys) → AreApart xs
apart-left [] ys apart = tt
apart-left (x ∷ xs) ys apart = ((KeepsApart-append x xs ys apart.0).0, apart-left xs ys apart.1)

pub apart-right : (xs ys : List ℕ) → AreApart (xs ++ ys) → AreApart ys
apart-right [] ys apart = apart
apart-right (x ∷ xs) ys apart = apart-right xs ys apart.1

-- one of the places before the others
pub apart-skip : (xs : List ℕ) (a : ℕ) (ys : List ℕ) → AreApart (xs ++ (a ∷ ys)) → AreApart (xs ++ ys)
apart-skip [] a ys apart = apart.1
apart-skip (x ∷ xs) a ys apart =
    let parts : KeepsApart x xs × KeepsApart x (a ∷ ys) = KeepsApart-append x xs (a ∷ ys) apart.0 in
    (KeepsApart-join x xs ys parts.0 parts.1.1, apart-skip xs a ys apart.1)

-- a place is apart from those before it
pub apart-before : (xs : List ℕ) (a : ℕ) (ys : List ℕ) → AreApart (xs ++ (a ∷ ys)) → KeepsApart a xs
apart-before [] a ys apart = tt
apart-before (x ∷ xs) a ys apart =
    (elim (KeepsApart-append x xs (a ∷ ys) apart.0).1.0 [ inl below ↦ inr below | inr above ↦ inl above ], apart-before xs a ys apart.1)

-- ---- from what was found

abbrev near : ℕ → ℕ → Bool
near a b = nat_le a b && nat_lt b (a + 8)

-- at most one word begins in the eight bytes from each place on
abbrev Lonely : List ℕ → List ℕ → Type 0
Lonely whole xs = AllOf (λ a. nat_lt 1 (length (filter (near a) whole)) ≡ false) xs

near-itself : (a : ℕ) → near a a ≡ true
near-itself a = ap₂ (λ (x y : Bool). x && y) (le-leb a a (omega arith)) (lt-ltb a (a + 8) (omega arith))

filter-grows : (p : ℕ → Bool) (x : ℕ) (xs : List ℕ) → length (filter p xs) ≤ length (filter p (x ∷ xs))
filter-grows p x xs = elim (p x) as (λ b. length (filter p xs) ≤ length (cond b (x ∷ filter p xs) (filter p xs))) [ true ↦ omega arith | false ↦ omega arith ]

-- a place that is there counts itself
filter-there : (p : ℕ → Bool) (a : ℕ) (xs : List ℕ) → p a ≡ true → list_any (nat_eq a) xs ≡ true → 1 ≤ length (filter p xs)
filter-there p a [] passes there = absurd (false≢true there)
filter-there p a (x ∷ xs) passes there =
    elim (cases_eq a x) [
      | inl same ↦
          let grown : filter p (x ∷ xs) ≡ x ∷ filter p xs = cond-true (p x) (x ∷ filter p xs) (filter p xs) (ap p (sym same) ∙ passes) in
          omega (arith, ap (λ (l : List ℕ). length l) grown)
      | inr other ↦ omega (arith, filter-grows p x xs, filter-there p a xs passes (ap (λ (b : Bool). b || list_any (nat_eq a) xs) (sym (ne_eqb a x other)) ∙ there))
    ]

apart-of : (a p : ℕ) → near a p ≡ false → near p a ≡ false → (a + 8 ≤ p) ⊎ (p + 8 ≤ a)
apart-of a p left right =
    elim (cases_lt p a) [
      | inl before ↦ elim (and_cases (nat_le p a) (nat_lt a (p + 8)) right) [
        | inl above ↦ absurd (omega (arith, before, leb-false p a above))
        | inr far ↦ inr (ltb-false a (p + 8) far)
      ]
      | inr behind ↦ elim (and_cases (nat_le a p) (nat_lt p (a + 8)) left) [
        | inl above ↦ absurd (omega (arith, behind, leb-false a p above))
        | inr far ↦ inl (ltb-false p (a + 8) far)
      ]
    ]

-- the first place keeps apart from those behind it
lonely-first : (a : ℕ) (rest xs : List ℕ) → nat_lt 1 (length (filter (near a) (a ∷ rest))) ≡ false → Lonely (a ∷ rest) xs → ((x : ℕ) → list_any (nat_eq x) xs ≡ true → list_any (nat_eq x) rest ≡ true) → KeepsApart a xs
lonely-first a rest [] alone lonely among = tt
lonely-first a rest (p ∷ xs) alone lonely among =
    let there : list_any (nat_eq p) rest ≡ true = among p (ap (λ (b : Bool). b || list_any (nat_eq p) xs) (eq-eqb p p refl)) in
    let first : filter (near a) (a ∷ rest) ≡ a ∷ filter (near a) rest = cond-true (near a a) (a ∷ filter (near a) rest) (filter (near a) rest) (near-itself a) in
    let few : length (filter (near a) (a ∷ rest)) ≤ 1 = ltb-false 1 (length (filter (near a) (a ∷ rest))) alone in
    let left : near a p ≡ false =
    elim (cases_Bool (near a p)) [
      | inl passes ↦ absurd (omega (arith, few, ap (λ (l : List ℕ). length l) first, filter-there (near a) p rest passes there))
      | inr fails ↦ fails
    ] in
    let few_p : length (filter (near p) (a ∷ rest)) ≤ 1 = ltb-false 1 (length (filter (near p) (a ∷ rest))) lonely.0 in
    let right : near p a ≡ false =
    elim (cases_Bool (near p a)) [
      | inl passes ↦
          let grown : filter (near p) (a ∷ rest) ≡ a ∷ filter (near p) rest = cond-true (near p a) (a ∷ filter (near p) rest) (filter (near p) rest) passes in
          absurd (omega (arith, few_p, ap (λ (l : List ℕ). length l) grown, filter-there (near p) p rest (near-itself p) there))
      | inr fails ↦ fails
    ] in
    (apart-of a p left right, lonely-first a rest xs alone lonely.1 (λ x at. among x (or_right (nat_eq x p) (list_any (nat_eq x) xs) at)))

lonely-apart : (xs : List ℕ) → Lonely xs xs → AreApart xs
lonely-apart [] lonely = tt
lonely-apart (a ∷ rest) lonely = (
  lonely-first a rest rest lonely.0 lonely.1 (λ x at. at),
  lonely-apart rest (AllOf-map (λ p. nat_lt 1 (length (filter (near p) (a ∷ rest))) ≡ false) (λ p. nat_lt 1 (length (filter (near p) rest)) ≡ false) rest
      (λ p alone. le-ltb 1 (length (filter (near p) rest)) (omega (arith, filter-grows (near p) a rest, ltb-false 1 (length (filter (near p) (a ∷ rest))) alone))) lonely.1),
)

pub cons_not_nil : (x : ℕ) (xs : List ℕ) → x ∷ xs ≡ [] → ⊥
cons_not_nil x xs e = cc

pub filter-empty : (p : ℕ → Bool) (xs : List ℕ) → filter p xs ≡ [] → AllOf (λ x. p x ≡ false) xs
filter-empty p [] none = tt
filter-empty p (x ∷ xs) none =
    elim (cases_Bool (p x)) [
      | inl passes ↦ absurd (cons_not_nil x (filter p xs) (sym (cond-true (p x) (x ∷ filter p xs) (filter p xs) passes) ∙ none))
      | inr fails ↦ (fails, filter-empty p xs (sym (cond-false (p x) (x ∷ filter p xs) (filter p xs) fails) ∙ none))
    ]

pub none-overlap : (xs : List ℕ) → overlapping xs ≡ [] → AreApart xs
unfolding overlapping
none-overlap xs none = lonely-apart xs (filter-empty (λ a. nat_lt 1 (length (filter (near a) xs))) xs none)

pub some_not_none : {A : Type 0} {x : A} → Some x ≡ None → ⊥
some_not_none {A} {x} e = cc

-- the first finding, by the places of each kind
abbrev pub findings : Option ℕ → Option ℕ → Option ℕ → Option Finding
findings ends leaves overlap = first_break (found ExtrasEnd ends ∷ found ChainLeavesPage leaves ∷ found ChainsOverlap overlap ∷ [])

found-two : (leaves overlap : Option ℕ) → findings None leaves overlap ≡ None → (leaves ≡ None) × (overlap ≡ None)
found-two (Some n) overlap none = absurd (some_not_none none)
found-two None (Some n) none = absurd (some_not_none none)
found-two None None none = (refl, refl)

lowest-none : (xs : List ℕ) → lowest xs ≡ None → xs ≡ []
unfolding lowest
lowest-none [] none = refl
lowest-none (x ∷ xs) none = absurd (some_not_none none)

-- nothing found means nothing to be found
pub found-none : (ends : Option ℕ) (leaving overlap : List ℕ) → findings ends (lowest leaving) (lowest overlap) ≡ None → (leaving ≡ []) × (overlap ≡ [])
found-none (Some n) leaving overlap none = absurd (some_not_none none)
found-none None leaving overlap none =
    let parts : (lowest leaving ≡ None) × (lowest overlap ≡ None) = found-two (lowest leaving) (lowest overlap) none in
    (lowest-none leaving parts.0, lowest-none overlap parts.1)

-- what data without a finding have
pub record IsSound (s : Slide) (area : List ℕ) : Type 0 where
  pub stays : each_page (page_leaving s.mask s.extras area) 0 s.starts ≡ []
  pub apart : AreApart (each_page (page_reached s.mask s.extras area) 0 s.starts)

pub is-sound : (s : Slide) (area : List ℕ) → chain_finding s area ≡ None → IsSound s area
unfolding chain_finding leaving reached
is-sound s area none =
    let parts : (leaving s area ≡ []) × (overlapping (reached s area) ≡ []) = found-none (endless_page s.extras 0 s.starts) (leaving s area) (overlapping (reached s area)) none in
    record { stays = parts.0; apart = none-overlap (reached s area) parts.1 }
