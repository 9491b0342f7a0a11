-- A list that grows item by item, where something is true of each item and its number.
use Rattle.std.proofs.Common.{◌≡◌, ◌⊎◌, ℕ, zero, suc, ◌+◌, Some, List, [], ◌∷◌, ◌++◌, length, refl, sym, ap, ◌∙◌, subst, arith, inl, inr, length-append}
use Rattle.std.specs.Prelude.{slice_get}

pub record AreEach {X : Type 0} (holds : ℕ → X → Type 0) (n : ℕ) (xs : List X) : Type 0 where
  pub count : length xs ≡ n
  pub each : (k : ℕ) (x : X) → slice_get xs k ≡ Some x → holds k x

nothing : {X : Type 0} (xs : List X) → xs ≡ [] → (k : ℕ) (x : X) → slice_get xs k ≡ Some x → ⊥
nothing [] none k x got = cc
nothing (y ∷ xs) none k x got = cc

pub each_none : {X : Type 0} (holds : ℕ → X → Type 0) (xs : List X) → xs ≡ [] → AreEach holds 0 xs
each_none {X} holds xs none = record {
  count = ap (λ (l : List X). length l) none;
  each = λ k x got. absurd (nothing xs none k x got);
}

-- the item at a place of a list with one more
at_end : {X : Type 0} (xs : List X) (y x : X) (k : ℕ) → slice_get (xs ++ y ∷ []) k ≡ Some x → (slice_get xs k ≡ Some x) ⊎ ((k ≡ length xs) × (x ≡ y))
at_end [] y x zero got = inr (refl, cc)
at_end [] y x (suc k) got = absurd (cc)
at_end (z ∷ xs) y x zero got = inl got
at_end (z ∷ xs) y x (suc k) got = elim (at_end xs y x k got) [
  | inl before ↦ inl before
  | inr last ↦ inr (omega (arith, last.0), last.1)
]

pub each_more : {X : Type 0} (holds : ℕ → X → Type 0) (n : ℕ) (xs ys : List X) (x : X) → AreEach holds n xs → holds n x → ys ≡ xs ++ x ∷ [] → AreEach holds (n + 1) ys
each_more {X} holds n xs ys x done last grown = record {
  count = ap (λ (l : List X). length l) grown ∙ omega (arith, length-append xs (x ∷ []), done.count);
  each = λ k y got.
      elim (at_end xs x y k (sym (ap (λ (l : List X). slice_get l k) grown) ∙ got)) [
        | inl before ↦ done.each k y before
        | inr at ↦
            let number : n ≡ k = omega (arith, at.0, done.count) in
            subst (holds k) (sym at.1) (subst (λ (j : ℕ). holds j x) number last)
      ];
}
