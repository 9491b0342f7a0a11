-- Whether an item of a list passes a test.
use Rattle.std.proofs.Common.{◌≡◌, ◌<◌, ℕ, suc, Bool, false, ◌||◌, List, [], ◌∷◌, length, get_or, refl, sym, ap, ◌∙◌, arith, inl, inr}
use Rattle.std.specs.List.{list_any}
use Rattle.std.proofs.lemmas.Bool.{cases_lt, cases_Bool}
use Rattle.std.proofs.lemmas.List.{get_or_read}
use Rattle.std.proofs.lemmas.List.Folds.{list_any-from_Any}

pub any_nowhere : {X : Type 0} (p : X → Bool) (xs : List X) → ((k : ℕ) (d : X) → k < length xs → p (get_or xs k d) ≡ false) → list_any p xs ≡ false
any_nowhere p [] none = refl
any_nowhere p (x ∷ xs) none = ap (λ (b : Bool). b || list_any p xs) (none 0 x (omega arith)) ∙ any_nowhere p xs (λ k d lt. none (suc k) d (omega arith))

-- where no earlier item passes, and no later one unless this one does
pub any_at : {X : Type 0} (p : X → Bool) (xs : List X) (i : ℕ) (x : X) → i < length xs → x ≡ get_or xs i x → ((k : ℕ) (d : X) → k < i → p (get_or xs k d) ≡ false)
    → (p x ≡ false → (k : ℕ) (d : X) → i < k → k < length xs → p (get_or xs k d) ≡ false) → p x ≡ list_any p xs
any_at p xs i x lt is earlier later = elim (cases_Bool (p x)) [
  | inl passes ↦ passes ∙ sym (list_any-from_Any p xs (i, x, lt, sym is, passes))
  | inr fails ↦
      fails
      ∙ sym (any_nowhere p xs (λ k d inside.
      elim (cases_lt k i) [
        | inl before ↦ earlier k d before
        | inr from ↦ elim (cases_lt i k) [
          | inl behind ↦ later fails k d behind inside
          | inr same ↦
              let e : i ≡ k = omega arith in
              ap p (ap (λ (j : ℕ). get_or xs j d) (sym e) ∙ sym (get_or_read xs i x lt is d)) ∙ fails
        ]
      ]))
]
