-- The sieve of a page: following each place once, by rising place, counts all words that the chains reach.
use Rattle.std.proofs.Common.{◌≡◌, ◌<◌, ◌≤◌, ◌⊎◌, ℕ, zero, suc, ◌+◌, ◌-◌, ◌*◌, ◌/◌, List, [], ◌∷◌, length, get_or, set, sym, ap, ap₂, subst, refl, inl, inr, ◌∙◌, arith, cond, Bool, true, false}
use Rattle.std.specs.Prelude.{nat_eq, nat_lt, ◌&&◌, ◌||◌, filter, Some, if◌then◌else◌}
use Rattle.std.specs.List.{flat_map, list_any}
use Rattle.std.proofs.lemmas.Bool.{eq-eqb, ne_eqb, lt-ltb, le-ltb, cond-true, cond-false, cases_eq, cases_lt, and_right, and_left, cases_Bool, or_right, eqb-true, ltb-false}
use Rattle.std.proofs.Math.Nat.{mul-add, mul-pos, zero-mul}
use Rattle.std.proofs.lemmas.List.{get_or-set_other}
use Rattle.dsc_base.specs.Numbers.{number_at}
use Rattle.slide_chain.specs.Chains.{IsRun, delta_of, chain, lowest}
use Rattle.slide_chain.specs.Steps.Marks.{weight, counted, AreCounted, followed}
use Rattle.slide_chain.proofs.WordLaws.{delta-fours}
use Rattle.slide_chain.proofs.MadeLaws.{chain-ends, chain-goes}
use Rattle.slide_chain.proofs.MarkLaws.{AllOf, AllOf-map, weight-flat_map, weight-none, weight-zero, passing, passing-true, passing-false, passing-none, any-weight, counted-more, counted-set, counted-zero, counter-le, lowest-is}

plus_none : (n : ℕ) → n + 0 ≡ n
plus_none n = omega arith

none_plus : (n : ℕ) → 0 + n ≡ n
none_plus n = omega arith

product-pos : (a b : ℕ) → 0 < a → 0 < b → 0 < a * b
product-pos a b some more = mul-pos some more

-- ---- one step

-- how many places a step leads on
abbrev pub units_at : ℕ → List ℕ → ℕ → ℕ → ℕ
units_at mask area page k = delta_of mask (number_at 8 area (page + k * 4)) / 4

-- a delta is its units
pub delta-units : (mask : ℕ) (run : IsRun mask) (area : List ℕ) (page k : ℕ) → delta_of mask (number_at 8 area (page + k * 4)) ≡ units_at mask area page k * 4
delta-units mask run area page k = omega (arith, delta-fours mask run (number_at 8 area (page + k * 4)))

pub followed-none : (mask : ℕ) (area : List ℕ) (page k : ℕ) (m : List ℕ) → get_or m k 0 ≡ 0 → followed mask area page k m ≡ m
unfolding followed
followed-none mask area page k m none =
    cond-true (nat_eq (get_or m k 0) 0 || nat_eq (units_at mask area page k) 0) m (set m (k + units_at mask area page k) (get_or m (k + units_at mask area page k) 0 + get_or m k 0))
    (ap (λ (b : Bool). b || nat_eq (units_at mask area page k) 0) (eq-eqb (get_or m k 0) 0 none))

pub followed-ends : (mask : ℕ) (area : List ℕ) (page k : ℕ) (m : List ℕ) → units_at mask area page k ≡ 0 → followed mask area page k m ≡ m
unfolding followed
followed-ends mask area page k m none =
    cond-true (nat_eq (get_or m k 0) 0 || nat_eq (units_at mask area page k) 0) m (set m (k + units_at mask area page k) (get_or m (k + units_at mask area page k) 0 + get_or m k 0))
    (or_right (nat_eq (get_or m k 0) 0) (nat_eq (units_at mask area page k) 0) (eq-eqb (units_at mask area page k) 0 none))

pub followed-goes : (mask : ℕ) (area : List ℕ) (page k : ℕ) (m : List ℕ) → (get_or m k 0 ≡ 0 → ⊥) → (units_at mask area page k ≡ 0 → ⊥)
    → followed mask area page k m ≡ set m (k + units_at mask area page k) (get_or m (k + units_at mask area page k) 0 + get_or m k 0)
unfolding followed
followed-goes mask area page k m some goes =
    cond-false (nat_eq (get_or m k 0) 0 || nat_eq (units_at mask area page k) 0) m (set m (k + units_at mask area page k) (get_or m (k + units_at mask area page k) 0 + get_or m k 0))
    (ap₂ (λ (a b : Bool). a || b) (ne_eqb (get_or m k 0) 0 some) (ne_eqb (units_at mask area page k) 0 goes))

-- two counters together are at most the sum
pub two-le : (m : List ℕ) (k n p : ℕ) → k < p → p < k + n → get_or m p 0 + get_or m k 0 ≤ counted (λ j. 1) m k n
unfolding counted
two-le m k zero p more lt = absurd (omega arith)
two-le m k (suc n) p more lt = omega (arith, counter-le m (k + 1) n p (omega arith) (omega arith))

-- ---- chains

-- a chain that begins past the last place is empty
chain-past : (mask : ℕ) (area : List ℕ) (last n at : ℕ) → last < at → chain mask area last n at ≡ []
unfolding chain
chain-past mask area last zero at past = refl
chain-past mask area last (suc n) at past =
    cond-true (nat_lt last at) [] (at ∷ (if nat_eq (delta_of mask (number_at 8 area at)) 0 then [] else chain mask area last n (at + delta_of mask (number_at 8 area at)))) (lt-ltb last at past)

-- any number of steps that reaches the page's end will do
pub chain-fuel : (mask : ℕ) (run : IsRun mask) (area : List ℕ) (last n m at : ℕ) → last < at + 4 * n → last < at + 4 * m → chain mask area last n at ≡ chain mask area last m at
chain-fuel mask run area last zero m at enough_n enough_m = chain-past mask area last zero at (omega arith) ∙ sym (chain-past mask area last m at (omega arith))
chain-fuel mask run area last (suc n) zero at enough_n enough_m = chain-past mask area last (suc n) at (omega arith) ∙ sym (chain-past mask area last zero at (omega arith))
chain-fuel mask run area last (suc n) (suc m) at enough_n enough_m =
    elim (cases_lt last at) [
      | inl past ↦ chain-past mask area last (suc n) at past ∙ sym (chain-past mask area last (suc m) at past)
      | inr inside ↦ elim (cases_eq (delta_of mask (number_at 8 area at)) 0) [
        | inl none ↦ chain-ends mask area last n at inside none ∙ sym (chain-ends mask area last m at inside none)
        | inr some ↦
            let four : 4 ≤ delta_of mask (number_at 8 area at) = omega (arith, some, delta-fours mask run (number_at 8 area at)) in
            chain-goes mask area last n at (at + delta_of mask (number_at 8 area at)) inside some refl
            ∙ (ap (λ (l : List ℕ). at ∷ l) (chain-fuel mask run area last n m (at + delta_of mask (number_at 8 area at)) (omega (arith, four)) (omega (arith, four)))
            ∙ sym (chain-goes mask area last m at (at + delta_of mask (number_at 8 area at)) inside some refl))
      ]
    ]

-- a chain rises
pub chain-above : (mask : ℕ) (area : List ℕ) (last n low at : ℕ) → low ≤ at → AllOf (λ x. low ≤ x) (chain mask area last n at)
unfolding chain
chain-above mask area last zero low at le = tt
chain-above mask area last (suc n) low at le =
    elim (cases_lt last at) [
      | inl past ↦ subst (AllOf (λ x. low ≤ x)) (sym (chain-past mask area last (suc n) at past)) tt
      | inr inside ↦ elim (cases_eq (delta_of mask (number_at 8 area at)) 0) [
        | inl none ↦ subst (AllOf (λ x. low ≤ x)) (sym (chain-ends mask area last n at inside none)) (le, tt)
        | inr some ↦ subst (AllOf (λ x. low ≤ x)) (sym (chain-goes mask area last n at (at + delta_of mask (number_at 8 area at)) inside some refl))
            (le, chain-above mask area last n low (at + delta_of mask (number_at 8 area at)) (omega arith))
      ]
    ]

-- what a chain weighs: its first word, and the chain from the next one on
pub weigh : ℕ → List ℕ → ℕ → (ℕ → ℕ) → ℕ → ℕ
weigh mask area page g k = weight g (chain mask area (page + 0xFF8) 1024 (page + k * 4))

weigh-ends : (mask : ℕ) (run : IsRun mask) (area : List ℕ) (page k : ℕ) (g : ℕ → ℕ) → k < 1023 → units_at mask area page k ≡ 0 → weigh mask area page g k ≡ g (page + k * 4)
unfolding weigh weight
weigh-ends mask run area page k g within none =
    ap (weight g) (chain-ends mask area (page + 0xFF8) 1023 (page + k * 4) (omega arith) (omega (arith, delta-units mask run area page k, none))) ∙ plus_none (g (page + k * 4))

weigh-goes : (mask : ℕ) (run : IsRun mask) (area : List ℕ) (page k : ℕ) (g : ℕ → ℕ) → k < 1023 → (units_at mask area page k ≡ 0 → ⊥)
    → weigh mask area page g k ≡ g (page + k * 4) + weigh mask area page g (k + units_at mask area page k)
unfolding weigh weight
weigh-goes mask run area page k g within some =
    let units : delta_of mask (number_at 8 area (page + k * 4)) ≡ units_at mask area page k * 4 = delta-units mask run area page k in
    let next : page + k * 4 + delta_of mask (number_at 8 area (page + k * 4)) ≡ page + (k + units_at mask area page k) * 4 = omega (arith, units) in
    ap (weight g) (chain-goes mask area (page + 0xFF8) 1023 (page + k * 4) (page + (k + units_at mask area page k) * 4) (omega arith) (λ none. some (omega (arith, units, none))) next)
    ∙ ap (λ (l : List ℕ). g (page + k * 4) + weight g l)
    (chain-fuel mask run area (page + 0xFF8) 1023 1024 (page + (k + units_at mask area page k) * 4) (omega (arith, some)) (omega arith))

-- ---- the invariant

-- of the counters at first, what those passed count, and what the chains from the others weigh, is what all chains weigh
pub record Sifted (mask : ℕ) (area : List ℕ) (page : ℕ) (first m : List ℕ) (k : ℕ) : Type 0 where
  pub go : (g : ℕ → ℕ) → counted (weigh mask area page g) first 0 1023 ≡ counted (λ j. g (page + j * 4)) m 0 k + counted (weigh mask area page g) m k (1023 - k)
  pub room : counted (λ j. 1) m k (1023 - k) ≤ counted (λ j. 1) first 0 1023
  pub stays : (j : ℕ) → j < k → 0 < get_or m j 0 → page + j * 4 + delta_of mask (number_at 8 area (page + j * 4)) ≤ page + 0xFF8

counted-nothing : (f : ℕ → ℕ) (m : List ℕ) (k : ℕ) → counted f m k 0 ≡ 0
unfolding counted
counted-nothing f m k = refl

counted-first : (f : ℕ → ℕ) (m : List ℕ) (k n s : ℕ) → s ≡ suc n → counted f m k s ≡ get_or m k 0 * f k + counted f m (k + 1) n
unfolding counted
counted-first f m k n s is = ap (counted f m k) is

pub sifted-none : (mask : ℕ) (area : List ℕ) (page : ℕ) (m : List ℕ) → Sifted mask area page m m 0
sifted-none mask area page m = record {
  go = λ g. sym (ap (λ (x : ℕ). x + counted (weigh mask area page g) m 0 1023) (counted-nothing (λ j. g (page + j * 4)) m 0) ∙ none_plus (counted (weigh mask area page g) m 0 1023));
  room = omega arith;
  stays = λ j lt some. absurd (omega arith);
}

-- the counters behind a place, and the place itself, before and after the step
after-step : (mask : ℕ) (run : IsRun mask) (area : List ℕ) (page : ℕ) (m : List ℕ) (k n : ℕ) (g : ℕ → ℕ) → k + 1 + n ≡ 1023 → length m ≡ 1023
    → (get_or m k 0 ≡ 0) ⊎ (page + k * 4 + delta_of mask (number_at 8 area (page + k * 4)) ≤ page + 0xFF8)
    → get_or m k 0 * weigh mask area page g k + counted (weigh mask area page g) m (k + 1) n
    ≡ get_or m k 0 * g (page + k * 4) + counted (weigh mask area page g) (followed mask area page k m) (k + 1) n
after-step mask run area page m k n g places long (inl none) =
    let product : (x : ℕ) → get_or m k 0 * x ≡ 0 = λ x. ap (λ (c : ℕ). c * x) none ∙ zero-mul x in
    let same : counted (weigh mask area page g) (followed mask area page k m) (k + 1) n ≡ counted (weigh mask area page g) m (k + 1) n =
    ap (λ (l : List ℕ). counted (weigh mask area page g) l (k + 1) n) (followed-none mask area page k m none) in
    omega (arith, product (weigh mask area page g k), product (g (page + k * 4)), same)
after-step mask run area page m k n g places long (inr inside) =
    elim (cases_eq (units_at mask area page k) 0) [
      | inl ends ↦
          let same : counted (weigh mask area page g) (followed mask area page k m) (k + 1) n ≡ counted (weigh mask area page g) m (k + 1) n =
          ap (λ (l : List ℕ). counted (weigh mask area page g) l (k + 1) n) (followed-ends mask area page k m ends) in
          ap₂ (λ (a b : ℕ). get_or m k 0 * a + b) (weigh-ends mask run area page k g (omega arith) ends) (sym same)
      | inr goes ↦ elim (cases_eq (get_or m k 0) 0) [
        | inl none ↦
            let product : (x : ℕ) → get_or m k 0 * x ≡ 0 = λ x. ap (λ (c : ℕ). c * x) none ∙ zero-mul x in
            let same : counted (weigh mask area page g) (followed mask area page k m) (k + 1) n ≡ counted (weigh mask area page g) m (k + 1) n =
            ap (λ (l : List ℕ). counted (weigh mask area page g) l (k + 1) n) (followed-none mask area page k m none) in
            omega (arith, product (weigh mask area page g k), product (g (page + k * 4)), same)
        | inr some ↦
            let units : delta_of mask (number_at 8 area (page + k * 4)) ≡ units_at mask area page k * 4 = delta-units mask run area page k in
            let more : counted (weigh mask area page g) (followed mask area page k m) (k + 1) n ≡ counted (weigh mask area page g) m (k + 1) n + get_or m k 0 * weigh mask area page g (k + units_at mask area page k) =
            ap (λ (l : List ℕ). counted (weigh mask area page g) l (k + 1) n) (followed-goes mask area page k m some goes)
            ∙ counted-set (weigh mask area page g) m (k + 1) n (k + units_at mask area page k) (get_or m k 0) (omega (arith, goes)) (omega (arith, units, inside)) (omega (arith, units, inside)) in
            let whole : get_or m k 0 * weigh mask area page g k ≡ get_or m k 0 * g (page + k * 4) + get_or m k 0 * weigh mask area page g (k + units_at mask area page k) =
            ap (λ (x : ℕ). get_or m k 0 * x) (weigh-goes mask run area page k g (omega arith) goes) ∙ mul-add (get_or m k 0) (g (page + k * 4)) (weigh mask area page g (k + units_at mask area page k)) in
            omega (arith, more, whole)
      ]
    ]

-- the counters up to a place stay as they are
before-step : (mask : ℕ) (area : List ℕ) (page : ℕ) (m : List ℕ) (k j : ℕ) → j ≤ k → get_or (followed mask area page k m) j 0 ≡ get_or m j 0
before-step mask area page m k j le =
    elim (cases_eq (get_or m k 0) 0) [
      | inl none ↦ ap (λ (l : List ℕ). get_or l j 0) (followed-none mask area page k m none)
      | inr some ↦ elim (cases_eq (units_at mask area page k) 0) [
        | inl ends ↦ ap (λ (l : List ℕ). get_or l j 0) (followed-ends mask area page k m ends)
        | inr goes ↦ ap (λ (l : List ℕ). get_or l j 0) (followed-goes mask area page k m some goes)
            ∙ get_or-set_other m (k + units_at mask area page k) j (get_or m (k + units_at mask area page k) 0 + get_or m k 0) 0 (λ e. goes (omega (arith, e, le)))
      ]
    ]

counted-before : (mask : ℕ) (area : List ℕ) (page : ℕ) (m : List ℕ) (k : ℕ) (f : ℕ → ℕ) (a n : ℕ) → a + n ≤ k + 1 → counted f (followed mask area page k m) a n ≡ counted f m a n
unfolding counted
counted-before mask area page m k f a zero le = refl
counted-before mask area page m k f a (suc n) le =
    ap₂ (λ (x y : ℕ). x * f a + y) (before-step mask area page m k a (omega arith)) (counted-before mask area page m k f (a + 1) n (omega arith))

-- the step keeps the sum of the counters behind, or takes from it
ones-after : (mask : ℕ) (run : IsRun mask) (area : List ℕ) (page : ℕ) (m : List ℕ) (k n : ℕ) → k + 1 + n ≡ 1023 → length m ≡ 1023
    → (get_or m k 0 ≡ 0) ⊎ (page + k * 4 + delta_of mask (number_at 8 area (page + k * 4)) ≤ page + 0xFF8)
    → counted (λ j. 1) (followed mask area page k m) (k + 1) n ≤ get_or m k 0 * 1 + counted (λ j. 1) m (k + 1) n
ones-after mask run area page m k n places long inside =
    elim (cases_eq (get_or m k 0) 0) [
      | inl none ↦ omega (arith, ap (λ (l : List ℕ). counted (λ j. 1) l (k + 1) n) (followed-none mask area page k m none))
      | inr some ↦ elim (cases_eq (units_at mask area page k) 0) [
        | inl ends ↦ omega (arith, ap (λ (l : List ℕ). counted (λ j. 1) l (k + 1) n) (followed-ends mask area page k m ends))
        | inr goes ↦
            let stays : page + k * 4 + delta_of mask (number_at 8 area (page + k * 4)) ≤ page + 0xFF8 = elim inside [ inl none ↦ absurd (some none) | inr stays ↦ stays ] in
            let units : delta_of mask (number_at 8 area (page + k * 4)) ≡ units_at mask area page k * 4 = delta-units mask run area page k in
            omega (
              arith,
              ap (λ (l : List ℕ). counted (λ j. 1) l (k + 1) n) (followed-goes mask area page k m some goes),
              counted-set (λ j. 1) m (k + 1) n (k + units_at mask area page k) (get_or m k 0) (omega (arith, goes)) (omega (arith, units, stays)) (omega (arith, units, stays)),
            )
      ]
    ]

pub sifted-more : (mask : ℕ) (run : IsRun mask) (area : List ℕ) (page : ℕ) (first m new : List ℕ) (k : ℕ) → k < 1023 → length m ≡ 1023
    → (get_or m k 0 ≡ 0) ⊎ (page + k * 4 + delta_of mask (number_at 8 area (page + k * 4)) ≤ page + 0xFF8)
    → new ≡ followed mask area page k m → Sifted mask area page first m k → Sifted mask area page first new (k + 1)
sifted-more mask run area page first m new k within long inside is before =
    let n : ℕ = 1022 - k in
    let left : 1023 - k ≡ suc (1022 - k) = omega arith in
    let right : 1023 - (k + 1) ≡ 1022 - k = omega arith in
    let places : k + 1 + (1022 - k) ≡ 1023 = omega arith in
    let done : Sifted mask area page first (followed mask area page k m) (k + 1) = record {
      go = λ g.
          let one : suc k ≡ k + 1 = omega arith in
          let passed : counted (λ j. g (page + j * 4)) (followed mask area page k m) 0 (k + 1) ≡ counted (λ j. g (page + j * 4)) m 0 k + get_or m k 0 * g (page + k * 4) =
          counted-before mask area page m k (λ j. g (page + j * 4)) 0 (k + 1) (omega arith)
          ∙ (ap (counted (λ j. g (page + j * 4)) m 0) (sym one) ∙ (counted-more (λ j. g (page + j * 4)) m 0 k ∙ ap (λ (j : ℕ). counted (λ (i : ℕ). g (page + i * 4)) m 0 k + get_or m j 0 * g (page + j * 4)) (none_plus k))) in
          let split : counted (weigh mask area page g) m k (1023 - k) ≡ get_or m k 0 * weigh mask area page g k + counted (weigh mask area page g) m (k + 1) (1022 - k) =
          counted-first (weigh mask area page g) m k (1022 - k) (1023 - k) left in
          let step : get_or m k 0 * weigh mask area page g k + counted (weigh mask area page g) m (k + 1) (1022 - k)
          ≡ get_or m k 0 * g (page + k * 4) + counted (weigh mask area page g) (followed mask area page k m) (k + 1) (1022 - k) =
          after-step mask run area page m k (1022 - k) g places long inside in
          let behind : counted (weigh mask area page g) (followed mask area page k m) (k + 1) (1023 - (k + 1)) ≡ counted (weigh mask area page g) (followed mask area page k m) (k + 1) (1022 - k) =
          ap (counted (weigh mask area page g) (followed mask area page k m) (k + 1)) right in
          omega (arith, before.go g, passed, split, step, behind);
      room =
          let split : counted (λ j. 1) m k (1023 - k) ≡ get_or m k 0 * 1 + counted (λ j. 1) m (k + 1) (1022 - k) = counted-first (λ j. 1) m k (1022 - k) (1023 - k) left in
          let behind : counted (λ j. 1) (followed mask area page k m) (k + 1) (1023 - (k + 1)) ≡ counted (λ j. 1) (followed mask area page k m) (k + 1) (1022 - k) =
          ap (counted (λ j. 1) (followed mask area page k m) (k + 1)) right in
          omega (arith, before.room, split, behind, ones-after mask run area page m k (1022 - k) places long inside);
      stays = λ j lt some.
          let here : get_or (followed mask area page k m) j 0 ≡ get_or m j 0 = before-step mask area page m k j (omega arith) in
          elim (cases_eq j k) [
            | inl same ↦ elim inside [
              | inl none ↦ absurd (omega (arith, none, some, here, ap (λ (i : ℕ). get_or m i 0) same))
              | inr stays ↦ subst (λ (i : ℕ). page + i * 4 + delta_of mask (number_at 8 area (page + i * 4)) ≤ page + 0xFF8) (sym same) stays
            ]
            | inr other ↦ before.stays j (omega (arith, lt, other)) (omega (arith, some, here))
          ];
    } in
    subst (λ (l : List ℕ). Sifted mask area page first l (k + 1)) (sym is) done

-- ---- what the sieve has found

-- of any list of places that is counted at first, what is weighed
pub weighs : (mask : ℕ) (area : List ℕ) (page : ℕ) (first m places : List ℕ) (k : ℕ) (g : ℕ → ℕ) → AreCounted first page places → Sifted mask area page first m k
    → weight g (flat_map (chain mask area (page + 0xFF8) 1024) places) ≡ counted (λ j. g (page + j * 4)) m 0 k + counted (weigh mask area page g) m k (1023 - k)
unfolding weigh
weighs mask area page first m places k g is sifted =
    weight-flat_map g (chain mask area (page + 0xFF8) 1024) places ∙ (sym (is (λ h. weight g (chain mask area (page + 0xFF8) 1024 h))) ∙ sifted.go g)

-- at the end the counters count all that is reached
pub sifted-all : (mask : ℕ) (area : List ℕ) (page : ℕ) (first m places : List ℕ) (k : ℕ) → k ≡ 1023 → AreCounted first page places → Sifted mask area page first m k
    → AreCounted m page (flat_map (chain mask area (page + 0xFF8) 1024) places)
sifted-all mask area page first m places k all is sifted = λ g.
    let none : 1023 - k ≡ 0 = omega arith in
    let nothing : counted (weigh mask area page g) m k (1023 - k) ≡ 0 = ap (counted (weigh mask area page g) m k) none ∙ counted-nothing (weigh mask area page g) m k in
    let whole : counted (λ j. g (page + j * 4)) m 0 k ≡ counted (λ j. g (page + j * 4)) m 0 1023 = ap (counted (λ j. g (page + j * 4)) m 0) all in
    omega (arith, weighs mask area page first m places k g is sifted, nothing, whole)

-- whether the step from a place leads past the last one
abbrev pub leaves : ℕ → List ℕ → ℕ → ℕ → Bool
leaves mask area page a = nat_lt (page + 0xFF8) (a + delta_of mask (number_at 8 area a))

pub any-filter : (test p : ℕ → Bool) (a : ℕ) (xs : List ℕ) → p a ≡ true → ((x : ℕ) → test x ≡ true → x ≡ a) → list_any test xs ≡ true → list_any test (filter p xs) ≡ true
any-filter test p a [] passes only there = there
any-filter test p a (x ∷ xs) passes only there =
    elim (cases_Bool (test x)) [
      | inl here ↦
          let kept : p x ≡ true = ap p (only x here) ∙ passes in
          ap (list_any test) (cond-true (p x) (x ∷ filter p xs) (filter p xs) kept) ∙ ap (λ (b : Bool). b || list_any test (filter p xs)) here
      | inr absent ↦
          let later : list_any test xs ≡ true = ap (λ (b : Bool). b || list_any test xs) (sym absent) ∙ there in
          let rest : list_any test (filter p xs) ≡ true = any-filter test p a xs passes only later in
          elim (p x) as (λ b. list_any test (cond b (x ∷ filter p xs) (filter p xs)) ≡ true) [
            | true ↦ or_right (test x) (list_any test (filter p xs)) rest
            | false ↦ rest
          ]
    ]

pub all-filter : (P : ℕ → Type 0) (p : ℕ → Bool) (xs : List ℕ) → AllOf (λ x. p x ≡ true → P x) xs → AllOf P (filter p xs)
all-filter P p [] all = tt
all-filter P p (x ∷ xs) all =
    elim (cases_Bool (p x)) [
      | inl passes ↦ subst (AllOf P) (sym (cond-true (p x) (x ∷ filter p xs) (filter p xs) passes)) (all.0 passes, all-filter P p xs all.1)
      | inr fails ↦ subst (AllOf P) (sym (cond-false (p x) (x ∷ filter p xs) (filter p xs) fails)) (all-filter P p xs all.1)
    ]

weigh-itself : (mask : ℕ) (area : List ℕ) (page k : ℕ) → k < 1023 → 0 < weigh mask area page (passing (nat_eq (page + k * 4))) k
unfolding weigh weight
weigh-itself mask area page k within =
    let one : passing (nat_eq (page + k * 4)) (page + k * 4) ≡ 1 = passing-true (nat_eq (page + k * 4)) (page + k * 4) (eq-eqb (page + k * 4) (page + k * 4) refl) in
    elim (cases_eq (delta_of mask (number_at 8 area (page + k * 4))) 0) [
      | inl none ↦
          let is : weight (passing (nat_eq (page + k * 4))) (chain mask area (page + 0xFF8) 1024 (page + k * 4)) ≡ passing (nat_eq (page + k * 4)) (page + k * 4) + 0 =
          ap (weight (passing (nat_eq (page + k * 4)))) (chain-ends mask area (page + 0xFF8) 1023 (page + k * 4) (omega arith) none) in
          omega (arith, is, one)
      | inr some ↦
          let next : ℕ = page + k * 4 + delta_of mask (number_at 8 area (page + k * 4)) in
          let is : weight (passing (nat_eq (page + k * 4))) (chain mask area (page + 0xFF8) 1024 (page + k * 4))
          ≡ passing (nat_eq (page + k * 4)) (page + k * 4) + weight (passing (nat_eq (page + k * 4))) (chain mask area (page + 0xFF8) 1023 next) =
          ap (weight (passing (nat_eq (page + k * 4)))) (chain-goes mask area (page + 0xFF8) 1023 (page + k * 4) next (omega arith) some refl) in
          omega (arith, is, one)
    ]

-- the first place whose step leaves the page is the least of all
pub sifted-leaves : (mask : ℕ) (area : List ℕ) (page : ℕ) (first m places : List ℕ) (k : ℕ) → k < 1023 → 0 < get_or m k 0
    → page + 0xFF8 < page + k * 4 + delta_of mask (number_at 8 area (page + k * 4)) → AreCounted first page places → Sifted mask area page first m k
    → lowest (filter (leaves mask area page) (flat_map (chain mask area (page + 0xFF8) 1024) places)) ≡ Some (page + k * 4)
unfolding weigh
sifted-leaves mask area page first m places k within some out is sifted =
    let at : ℕ = page + k * 4 in
    let rs : List ℕ = flat_map (chain mask area (page + 0xFF8) 1024) places in
    let test : ℕ → Bool = λ x. leaves mask area page x && nat_lt x (page + k * 4) in
    let left : 1023 - k ≡ suc (1022 - k) = omega arith in
    -- it is reached
    let here : 0 < get_or m k 0 * weigh mask area page (passing (nat_eq (page + k * 4))) k = product-pos (get_or m k 0) (weigh mask area page (passing (nat_eq (page + k * 4))) k) some (weigh-itself mask area page k within) in
    let there : 0 < weight (passing (nat_eq (page + k * 4))) (flat_map (chain mask area (page + 0xFF8) 1024) places) =
    omega (
      arith,
      weighs mask area page first m places k (passing (nat_eq (page + k * 4))) is sifted,
      here,
      counted-first (weigh mask area page (passing (nat_eq (page + k * 4)))) m k (1022 - k) (1023 - k) left,
    ) in
    let any : list_any (nat_eq (page + k * 4)) (flat_map (chain mask area (page + 0xFF8) 1024) places) ≡ true =
    any-weight (nat_eq (page + k * 4)) (flat_map (chain mask area (page + 0xFF8) 1024) places) ∙ lt-ltb 0 (weight (passing (nat_eq (page + k * 4))) (flat_map (chain mask area (page + 0xFF8) 1024) places)) there in
    let member : list_any (nat_eq (page + k * 4)) (filter (leaves mask area page) (flat_map (chain mask area (page + 0xFF8) 1024) places)) ≡ true =
    any-filter (nat_eq (page + k * 4)) (leaves mask area page) (page + k * 4) (flat_map (chain mask area (page + 0xFF8) 1024) places)
    (lt-ltb (page + 0xFF8) (page + k * 4 + delta_of mask (number_at 8 area (page + k * 4))) out) (λ x e. sym (eqb-true (page + k * 4) x e)) any in
    -- and none before it leaves the page
    let passed : counted (λ j. passing (λ x. leaves mask area page x && nat_lt x (page + k * 4)) (page + j * 4)) m 0 k ≡ 0 =
    counted-zero (λ j. passing (λ x. leaves mask area page x && nat_lt x (page + k * 4)) (page + j * 4)) m 0 k
    (λ j above below counts. passing-false (λ x. leaves mask area page x && nat_lt x (page + k * 4)) (page + j * 4)
    (and_left (leaves mask area page (page + j * 4)) (nat_lt (page + j * 4) (page + k * 4))
    (le-ltb (page + 0xFF8) (page + j * 4 + delta_of mask (number_at 8 area (page + j * 4))) (sifted.stays j (omega arith) counts)))) in
    let behind : counted (weigh mask area page (passing (λ x. leaves mask area page x && nat_lt x (page + k * 4)))) m k (1023 - k) ≡ 0 =
    counted-zero (weigh mask area page (passing (λ x. leaves mask area page x && nat_lt x (page + k * 4)))) m k (1023 - k)
    (λ j above below counts. weight-zero (passing (λ x. leaves mask area page x && nat_lt x (page + k * 4))) (chain mask area (page + 0xFF8) 1024 (page + j * 4))
    (AllOf-map (λ x. page + k * 4 ≤ x) (λ x. passing (λ y. leaves mask area page y && nat_lt y (page + k * 4)) x ≡ 0) (chain mask area (page + 0xFF8) 1024 (page + j * 4))
    (λ x le. passing-false (λ y. leaves mask area page y && nat_lt y (page + k * 4)) x (and_right (leaves mask area page x) (nat_lt x (page + k * 4)) (le-ltb x (page + k * 4) le)))
    (chain-above mask area (page + 0xFF8) 1024 (page + k * 4) (page + j * 4) (omega arith)))) in
    let nothing : weight (passing (λ x. leaves mask area page x && nat_lt x (page + k * 4))) (flat_map (chain mask area (page + 0xFF8) 1024) places) ≡ 0 =
    weighs mask area page first m places k (passing (λ x. leaves mask area page x && nat_lt x (page + k * 4))) is sifted ∙ ap₂ (λ (a b : ℕ). a + b) passed behind in
    let above : AllOf (λ x. leaves mask area page x ≡ true → page + k * 4 ≤ x) (flat_map (chain mask area (page + 0xFF8) 1024) places) =
    AllOf-map (λ x. passing (λ y. leaves mask area page y && nat_lt y (page + k * 4)) x ≡ 0) (λ x. leaves mask area page x ≡ true → page + k * 4 ≤ x) (flat_map (chain mask area (page + 0xFF8) 1024) places)
    (λ x gone out_x. ltb-false x (page + k * 4)
    (ap (λ (b : Bool). b && nat_lt x (page + k * 4)) (sym out_x) ∙ passing-none (λ y. leaves mask area page y && nat_lt y (page + k * 4)) x gone))
    (weight-none (passing (λ x. leaves mask area page x && nat_lt x (page + k * 4))) (flat_map (chain mask area (page + 0xFF8) 1024) places) nothing) in
    lowest-is (page + k * 4) (filter (leaves mask area page) (flat_map (chain mask area (page + 0xFF8) 1024) places)) member
    (all-filter (λ x. page + k * 4 ≤ x) (leaves mask area page) (flat_map (chain mask area (page + 0xFF8) 1024) places) above)
