-- The first place in a list at which a test passes.
use Rattle.std.proofs.Common.{◌≡◌, ◌<◌, ℕ, zero, suc, ◌+◌, Bool, true, false, not, cond, if◌then◌else◌, nat_lt, List, [], ◌∷◌, ◌++◌, take, length, refl, sym, ap, ◌∙◌, arith, Option, Some, None, inl, inr}
use Rattle.std.specs.Prelude.{position, option_map}
use Rattle.std.specs.Option.{option_or}
use Rattle.std.specs.List.{position_or_len}
use Rattle.std.proofs.lemmas.Bool.{cases_lt, lt-ltb, le-ltb}

abbrev one_more : Option ℕ → Option ℕ
one_more o = option_map (λ (k : ℕ). k + 1) o

abbrev here : Bool → Option ℕ → Option ℕ
here b o = if b then Some 0 else one_more o

abbrev within : ℕ → ℕ → Option ℕ
within n m = cond (nat_lt n m) (Some n) None

within_more : (n m : ℕ) → within (1 + n) (suc m) ≡ one_more (within n m)
within_more n m =
    elim (cases_lt n m) [
      | inl lt ↦
          let some : within (1 + n) (suc m) ≡ Some (1 + n) = ap (λ (b : Bool). cond b (Some (1 + n)) None) (lt-ltb (1 + n) (suc m) (omega arith)) in
          let back : one_more (within n m) ≡ Some (n + 1) = ap (λ (b : Bool). one_more (cond b (Some n) None)) (lt-ltb n m lt) in
          let e : 1 + n ≡ n + 1 = omega arith in
          some ∙ (ap (λ (k : ℕ). let o : Option ℕ = Some k in o) e ∙ sym back)
      | inr le ↦
          ap (λ (b : Bool). cond b (Some (1 + n)) None) (le-ltb (1 + n) (suc m) (omega arith))
          ∙ sym (ap (λ (b : Bool). one_more (cond b (Some n) None)) (le-ltb n m le))
    ]

pub position-cons : {X : Type 0} (p : X → Bool) (x : X) (xs : List X) → position p (x ∷ xs) ≡ here (p x) (position p xs)
position-cons p x xs = go (p x)
  where
    go : (b : Bool) → within (cond (not b) (1 + position_or_len p xs) 0) (suc (length xs)) ≡ here b (position p xs)
    go true = ap (λ (b : Bool). cond b (Some 0) None) (lt-ltb 0 (suc (length xs)) (omega arith))
    go false = within_more (position_or_len p xs) (length xs)

-- one item more
abbrev pub or_last : Option ℕ → Bool → ℕ → Option ℕ
or_last o b n = option_or o (if b then Some n else None)

pub position-push : {X : Type 0} (p : X → Bool) (xs : List X) (x : X) → position p (xs ++ x ∷ []) ≡ or_last (position p xs) (p x) (length xs)
position-push p [] x = position-cons p x [] ∙ go (p x)
  where
    go : (b : Bool) → here b None ≡ or_last None b 0
    go true = refl
    go false = refl
position-push p (y ∷ ys) x =
    position-cons p y (ys ++ x ∷ [])
    ∙ (ap (λ (o : Option ℕ). here (p y) o) (position-push p ys x)
    ∙ (go (p y) (position p ys) (p x) ∙ ap (λ (o : Option ℕ). or_last o (p x) (suc (length ys))) (sym (position-cons p y ys))))
  where
    go : (a : Bool) (o : Option ℕ) (b : Bool) → here a (or_last o b (length ys)) ≡ or_last (here a o) b (suc (length ys))
    go true o b = refl
    go false (Some k) b = refl
    go false None true = let e : length ys + 1 ≡ suc (length ys) = omega arith in ap (λ (k : ℕ). let o : Option ℕ = Some k in o) e
    go false None false = refl

-- in the first n items alone
abbrev pub below : ℕ → Option ℕ → Option ℕ
below n None = None
below n (Some k) = if nat_lt k n then Some k else None

below_none : (o : Option ℕ) → None ≡ below 0 o
below_none None = refl
below_none (Some k) = sym (ap (λ (b : Bool). cond b (Some k) None) (le-ltb k 0 (omega arith)))

below_more : (n : ℕ) (b : Bool) (o : Option ℕ) → here b (below n o) ≡ below (suc n) (here b o)
below_more n true o = sym (ap (λ (b : Bool). cond b (Some 0) None) (lt-ltb 0 (suc n) (omega arith)))
below_more n false None = refl
below_more n false (Some k) =
    elim (cases_lt k n) [
      | inl lt ↦
          ap (λ (b : Bool). one_more (cond b (Some k) None)) (lt-ltb k n lt) ∙ sym (ap (λ (b : Bool). cond b (Some (k + 1)) None) (lt-ltb (k + 1) (suc n) (omega arith)))
      | inr le ↦
          ap (λ (b : Bool). one_more (cond b (Some k) None)) (le-ltb k n le) ∙ sym (ap (λ (b : Bool). cond b (Some (k + 1)) None) (le-ltb (k + 1) (suc n) (omega arith)))
    ]

pub position-take : {X : Type 0} (p : X → Bool) (n : ℕ) (xs : List X) → position p (take n xs) ≡ below n (position p xs)
position-take p zero xs = below_none (position p xs)
position-take p (suc n) [] = refl
position-take p (suc n) (x ∷ xs) =
    position-cons p x (take n xs)
    ∙ (ap (λ (o : Option ℕ). here (p x) o) (position-take p n xs)
    ∙ (below_more n (p x) (position p xs) ∙ ap (λ (o : Option ℕ). below (suc n) o) (sym (position-cons p x xs))))

pub from_below : (n k : ℕ) (o : Option ℕ) → below n o ≡ Some k → o ≡ Some k
from_below n k None some = absurd (cc)
from_below n k (Some j) some = elim (cases_lt j n) [
  | inl lt ↦ sym (ap (λ (b : Bool). cond b (Some j) None) (lt-ltb j n lt)) ∙ some
  | inr le ↦
      let none : below n (Some j) ≡ None = ap (λ (b : Bool). cond b (Some j) None) (le-ltb j n le) in
      absurd (cc)
]

pub below_same : (n k : ℕ) → k < n → below n (Some k) ≡ Some k
below_same n k lt = ap (λ (b : Bool). cond b (Some k) None) (lt-ltb k n lt)

pub position-within : {X : Type 0} (p : X → Bool) (xs : List X) (k : ℕ) → position p xs ≡ Some k → k < length xs
position-within p xs k some = elim (cases_lt (position_or_len p xs) (length xs)) [
  | inl lt ↦
      let is : position p xs ≡ Some (position_or_len p xs) = ap (λ (b : Bool). cond b (Some (position_or_len p xs)) None) (lt-ltb (position_or_len p xs) (length xs) lt) in
      let same : position_or_len p xs ≡ k = cc in
      omega (arith, lt, same)
  | inr le ↦
      let none : position p xs ≡ None = ap (λ (b : Bool). cond b (Some (position_or_len p xs)) None) (le-ltb (position_or_len p xs) (length xs) le) in
      absurd (cc)
]
