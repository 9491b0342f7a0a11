-- How many items of a list pass a test.
use Rattle.std.proofs.Common.{◌≡◌, ◌≤◌, ◌<◌, ◌+◌, ℕ, zero, suc, Bool, true, false, cond, List, [], ◌∷◌, length, get_or, refl, ap, ◌∙◌, arith}
use Rattle.std.specs.Prelude.{count_by}
use Rattle.std.proofs.lemmas.List.Sums.{sum_by-cons}

counted : {X : Type 0} (p : X → Bool) (x : X) (xs : List X) (b : Bool) → p x ≡ b → count_by p (x ∷ xs) ≡ cond b 1 0 + count_by p xs
counted p x xs b is = sum_by-cons (λ y. cond (p y) 1 0) x xs ∙ ap (λ (c : Bool). cond c 1 0 + count_by p xs) is

pub none_counted : {X : Type 0} (p : X → Bool) (xs : List X) → ((k : ℕ) (d : X) → k < length xs → p (get_or xs k d) ≡ false) → count_by p xs ≡ 0
none_counted p [] none = refl
none_counted p (x ∷ xs) none =
    let rest = none_counted p xs (λ k d lt. none (suc k) d (omega arith)) in
    let here = counted p x xs false (none 0 x (omega arith)) in
    omega (arith, rest, here)

at_most_one : (b : Bool) → cond b 1 0 ≤ 1
at_most_one true = omega arith
at_most_one false = omega arith

-- one at most, where no other item than one of them passes
pub one_counted : {X : Type 0} (p : X → Bool) (xs : List X) (j : ℕ) → ((k : ℕ) (d : X) → k < length xs → (k ≡ j → ⊥) → p (get_or xs k d) ≡ false) → count_by p xs ≤ 1
one_counted p [] j none = omega arith
one_counted p (x ∷ xs) zero none =
    let rest = none_counted p xs (λ k d lt. none (suc k) d (omega arith) (λ e. omega (arith, e))) in
    let few = at_most_one (p x) in
    let here = counted p x xs (p x) refl in
    omega (arith, rest, few, here)
one_counted p (x ∷ xs) (suc j) none =
    let rest = one_counted p xs j (λ k d lt apart. none (suc k) d (omega arith) (λ e. apart (omega (arith, e)))) in
    let here = counted p x xs false (none 0 x (omega arith) (λ e. omega (arith, e))) in
    omega (arith, rest, here)

pub some_counted : {X : Type 0} (p : X → Bool) (xs : List X) (i : ℕ) (d : X) → i < length xs → p (get_or xs i d) ≡ true → 1 ≤ count_by p xs
some_counted p [] i d lt passes = absurd (omega arith)
some_counted p (x ∷ xs) zero d lt passes = let here = counted p x xs true passes in omega (arith, here)
some_counted p (x ∷ xs) (suc i) d lt passes = let rest = some_counted p xs i d (omega arith) passes in let here = counted p x xs (p x) refl in omega (arith, rest, here)

-- two at least, where two items pass
pub two_counted : {X : Type 0} (p : X → Bool) (xs : List X) (i j : ℕ) (d : X) → i < j → j < length xs → p (get_or xs i d) ≡ true → p (get_or xs j d) ≡ true → 2 ≤ count_by p xs
two_counted p [] i j d lt inside first second = absurd (omega arith)
two_counted p (x ∷ xs) i zero d lt inside first second = absurd (omega arith)
two_counted p (x ∷ xs) zero (suc j) d lt inside first second =
    let here = counted p x xs true first in
    let rest = some_counted p xs j d (omega arith) second in
    omega (arith, here, rest)
two_counted p (x ∷ xs) (suc i) (suc j) d lt inside first second = let rest = two_counted p xs i j d (omega arith) (omega arith) first second in let here = counted p x xs (p x) refl in omega (arith, rest, here)
