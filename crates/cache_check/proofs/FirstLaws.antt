-- The first of several that are tried by their numbers.
use Rattle.std.proofs.Common.{◌≡◌, ◌≤◌, ◌<◌, ℕ, zero, suc, ◌+◌, ◌-◌, Option, Some, None, refl, sym, ap, ap₂, ◌∙◌, arith, inl, inr}
use Rattle.std.specs.Option.{option_or}
use Rattle.std.proofs.lemmas.Bool.{cases_lt}
use Rattle.cache_check.specs.Firsts.{first_below}

pub none_below : {X : Type 0} (f : ℕ → Option X) → first_below f 0 ≡ None
unfolding first_below
none_below f = refl

pub none_more : {X : Type 0} (f : ℕ → Option X) (n : ℕ) → first_below f n ≡ None → f n ≡ None → first_below f (n + 1) ≡ None
unfolding first_below
none_more {X = X} f n none here =
    let next : n + 1 ≡ suc n = omega arith in
    ap (λ (m : ℕ). first_below f m) next ∙ (ap (λ (o : Option X). option_or o (f n)) none ∙ here)

kept : {X : Type 0} (f : ℕ → Option X) (k n : ℕ) (x : X) → first_below f k ≡ Some x → first_below f (k + n) ≡ Some x
unfolding first_below
kept {X = X} f k zero x found = let same : k + 0 ≡ k = omega arith in ap (λ (m : ℕ). first_below f m) same ∙ found
kept {X = X} f k (suc n) x found =
    let next : k + suc n ≡ suc (k + n) = omega arith in
    ap (λ (m : ℕ). first_below f m) next ∙ ap (λ (o : Option X). option_or o (f (k + n))) (kept f k n x found)

-- the first one that is there
pub found_below : {X : Type 0} (f : ℕ → Option X) (k n : ℕ) (x : X) → first_below f k ≡ None → f k ≡ Some x → k < n → first_below f n ≡ Some x
unfolding first_below
found_below {X = X} f k n x none here lt =
    let next : n ≡ suc k + (n - suc k) = omega arith in
    ap (λ (m : ℕ). first_below f m) next ∙ kept f (suc k) (n - suc k) x (ap (λ (o : Option X). option_or o (f k)) none ∙ here)

-- where none is the first, none is there
pub none_each : {X : Type 0} (f : ℕ → Option X) (n k : ℕ) → first_below f n ≡ None → k < n → f k ≡ None
unfolding first_below
none_each f zero k none lt = absurd (omega arith)
none_each {X = X} f (suc n) k none lt = at (first_below f n) (f n) (λ front below. none_each f n k front below) refl refl none
  where
    at : (a b : Option X) → (first_below f n ≡ None → k < n → f k ≡ None) → first_below f n ≡ a → f n ≡ b → option_or a b ≡ None → f k ≡ None
    at (Some x) b before is_a is_b none = absurd (cc)
    at None b before is_a is_b none = elim (cases_lt k n) [
      | inl below ↦ before is_a below
      | inr over ↦ let same : k ≡ n = omega (arith, over, lt) in ap f same ∙ (is_b ∙ none)
    ]

-- and where each is absent
pub none_of_each : {X : Type 0} (f : ℕ → Option X) (n : ℕ) → ((k : ℕ) → k < n → f k ≡ None) → first_below f n ≡ None
unfolding first_below
none_of_each f zero none = refl
none_of_each {X = X} f (suc n) none =
    ap₂ (λ (a b : Option X). option_or a b) (none_of_each f n (λ k lt. none k (omega (arith, lt)))) (none n (omega arith))

-- all of them were tried
pub none_all : {X : Type 0} (f : ℕ → Option X) (k n : ℕ) → first_below f k ≡ None → n ≤ k → k ≤ n → first_below f n ≡ None
none_all f k n none from to = let same : n ≡ k = omega (arith, from, to) in ap (λ (m : ℕ). first_below f m) same ∙ none

-- the one that was found
pub found_here : {X : Type 0} (f : ℕ → Option X) (k n : ℕ) (here : Option X) (x : X) → first_below f k ≡ None → k < n → here ≡ f k → here ≡ Some x → Some x ≡ first_below f n
found_here f k n here x none lt is found = sym (found_below f k n x none (sym is ∙ found) lt)
