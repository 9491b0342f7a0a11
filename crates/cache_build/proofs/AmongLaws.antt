-- Edits that are among those of lists which are joined of what each item and its number give.
use Rattle.std.proofs.Common.{◌≡◌, ◌⊎◌, ℕ, zero, suc, ◌+◌, Bool, true, false, cond, Some, List, [], ◌∷◌, ◌++◌, map, refl, subst, arith, inl, inr}
use Rattle.std.specs.Prelude.{slice_get}
use Rattle.std.specs.List.{flat_map, enumerate_from}
use Rattle.dsc_base.specs.declared.edits.Edit.{Edit}
use Rattle.dsc_base.specs.Edits.{IsAmong}

among_left : (e : Edit) (xs ys : List Edit) → IsAmong e xs → IsAmong e (xs ++ ys)
among_left e [] ys none = absurd none
among_left e (x ∷ xs) ys (inl is) = inl is
among_left e (x ∷ xs) ys (inr later) = inr (among_left e xs ys later)

among_right : (e : Edit) (xs ys : List Edit) → IsAmong e ys → IsAmong e (xs ++ ys)
among_right e [] ys there = there
among_right e (x ∷ xs) ys there = inr (among_right e xs ys there)

among_either : (e : Edit) (xs ys : List Edit) → IsAmong e (xs ++ ys) → IsAmong e xs ⊎ IsAmong e ys
among_either e [] ys there = inr there
among_either e (x ∷ xs) ys (inl is) = inl (inl is)
among_either e (x ∷ xs) ys (inr later) = elim (among_either e xs ys later) [ inl left ↦ inl (inr left) | inr right ↦ inr right ]

-- ---- joined lists

-- what the item with a number gives
pub record IsGiven {X : Type 0} (h : ℕ → X → List Edit) (n : ℕ) (xs : List X) (e : Edit) : Type 0 where
  pub number : ℕ
  pub item : X
  pub item_is : slice_get xs number ≡ Some item
  pub among : IsAmong e (h (n + number) item)

given_from : {X : Type 0} (h : ℕ → X → List Edit) (n m : ℕ) (xs : List X) (k : ℕ) (x : X) (e : Edit) → slice_get xs k ≡ Some x → m ≡ n + k → IsAmong e (h m x)
    → IsAmong e (flat_map (λ p. h p.0 p.1) (enumerate_from n xs))
given_from h n m [] k x e got at there = absurd (cc)
given_from {X} h n m (y ∷ ys) zero x e got at there =
    let same : x ≡ y = cc in
    let number : m ≡ n = omega (arith, at) in
    let here : IsAmong e (h n y) = subst (λ (z : X). IsAmong e (h n z)) same (subst (λ (j : ℕ). IsAmong e (h j x)) number there) in
    among_left e (h n y) (flat_map (λ p. h p.0 p.1) (enumerate_from (n + 1) ys)) here
given_from h n m (y ∷ ys) (suc k) x e got at there =
    among_right e (h n y) (flat_map (λ p. h p.0 p.1) (enumerate_from (n + 1) ys)) (given_from h (n + 1) m ys k x e got (omega (arith, at)) there)

pub among_given : {X : Type 0} (h : ℕ → X → List Edit) (xs : List X) (k : ℕ) (x : X) (e : Edit) → slice_get xs k ≡ Some x → IsAmong e (h k x)
    → IsAmong e (flat_map (λ p. h p.0 p.1) (enumerate_from 0 xs))
among_given h xs k x e got there = given_from h 0 k xs k x e got (omega arith) there

pub given_at : {X : Type 0} (h : ℕ → X → List Edit) (n : ℕ) (xs : List X) (e : Edit) → IsAmong e (flat_map (λ p. h p.0 p.1) (enumerate_from n xs)) → IsGiven h n xs e
given_at h n [] e there = absurd there
given_at {X} h n (y ∷ ys) e there = elim (among_either e (h n y) (flat_map (λ p. h p.0 p.1) (enumerate_from (n + 1) ys)) there) [
  | inl here ↦ record { number = 0; item = y; item_is = refl; among = subst (λ (j : ℕ). IsAmong e (h j y)) (let same : n ≡ n + 0 = omega arith in same) here }
  | inr later ↦
      let rest : IsGiven h (n + 1) ys e = given_at h (n + 1) ys e later in
      record {
        number = suc rest.number;
        item = rest.item;
        item_is = rest.item_is;
        among = subst (λ (j : ℕ). IsAmong e (h j rest.item)) (let same : n + 1 + rest.number ≡ n + suc rest.number = omega arith in same) rest.among;
      }
]

-- what is in a joined list is what one of the items gives, by its number
pub record IsOf {X : Type 0} (h : ℕ → X → List Edit) (xs : List X) (e : Edit) : Type 0 where
  pub number : ℕ
  pub item : X
  pub item_is : slice_get xs number ≡ Some item
  pub among : IsAmong e (h number item)

pub among_of : {X : Type 0} (h : ℕ → X → List Edit) (xs : List X) (e : Edit) → IsAmong e (flat_map (λ p. h p.0 p.1) (enumerate_from 0 xs)) → IsOf h xs e
among_of h xs e there =
    let one : IsGiven h 0 xs e = given_at h 0 xs e there in
    record {
      number = one.number;
      item = one.item;
      item_is = one.item_is;
      among = subst (λ (j : ℕ). IsAmong e (h j one.item)) (let same : 0 + one.number ≡ one.number = omega arith in same) one.among;
    }

-- ---- edits of the items that pass a test

passed_here : {X : Type 0} (f : X → Edit) (b : Bool) (x : X) (rest : List X) → b ≡ true → IsAmong (f x) (map f (cond b (x ∷ rest) rest))
passed_here f true x rest is = inl refl
passed_here f false x rest isnt = absurd (cc)

passed_later : {X : Type 0} (f : X → Edit) (b : Bool) (e : Edit) (x : X) (rest : List X) → IsAmong e (map f rest) → IsAmong e (map f (cond b (x ∷ rest) rest))
passed_later f true e x rest later = inr later
passed_later f false e x rest later = later

pub record IsPassed {X : Type 0} (f : X → Edit) (test : X → Bool) (xs : List X) (e : Edit) : Type 0 where
  pub number : ℕ
  pub item : X
  pub item_is : slice_get xs number ≡ Some item
  pub passes : test item ≡ true
  pub same : e ≡ f item

passed_one : {X : Type 0} (f : X → Edit) (b : Bool) (e : Edit) (x : X) (rest : List X) → IsAmong e (map f (cond b (x ∷ rest) rest)) → ((b ≡ true) × (e ≡ f x)) ⊎ IsAmong e (map f rest)
passed_one f true e x rest (inl is) = inl (refl, is)
passed_one f true e x rest (inr later) = inr later
passed_one f false e x rest later = inr later
