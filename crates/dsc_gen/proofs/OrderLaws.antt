-- Deltas in their order: sorted by whatever means, the same deltas are the same list.
use Rattle.std.proofs.Common.{◌≡◌, ◌≤◌, ◌<◌, ◌+◌, ℕ, suc, Bool, true, false, List, [], ◌∷◌, refl, sym, ap, ap₂, ◌∙◌, subst, arith, if◌then◌else◌, nat_le, nat_eq, nat_lt, ◌&&◌, ◌||◌, inl, inr, true≢false, IsPermutation, IsSorted, Ordering, Less, Equal, Greater, is_lt, cond}
use Rattle.std.specs.Ordering.{ordering_then, nat_cmp}
use Rattle.std.specs.List.{sum_by, AllByRecursion}
use Rattle.std.proofs.lemmas.Bool.{cond-true, cond-false, cases_Bool, cases_lt, lt-ltb}
use Rattle.std.proofs.lemmas.Bool.Decides.{nat_tests}
use Rattle.std.proofs.lemmas.List.Sorted.{sum_by-IsPermutation}
use Rattle.std.proofs.lemmas.List.Sums.{sum_by-cons}
use Rattle.dsc_gen.specs.declared.split.Delta.{Delta}
use Rattle.dsc_gen.specs.Split.{is_before, put_in_order, in_order}

-- the test as an order
is_total : (a b : Delta) → is_before a b ≡ false → is_before b a ≡ true
is_total a b h = grind (arith, nat_tests)

same_place : (a b : Delta) → is_before a b ≡ true → is_before b a ≡ true → a.to ≡ b.to
same_place a b h k = grind (arith, nat_tests)

same_from : (a b : Delta) → is_before a b ≡ true → is_before b a ≡ true → a.from ≡ b.from
same_from a b h k = grind (arith, nat_tests)

is_chained : (a b c : Delta) → is_before a b ≡ true → is_before b c ≡ true → is_before a c ≡ true
is_chained a b c h k = grind (arith, nat_tests)

same_delta : (a b : Delta) → is_before a b ≡ true → is_before b a ≡ true → a ≡ b
same_delta a b h k = ap₂ (λ (t f : ℕ). (let d : Delta = record { to = t; from = f } in d)) (same_place a b h k) (same_from a b h k)

-- each delta is before all later ones
abbrev pub Follow : Delta → List Delta → Type 0
Follow d ds = AllByRecursion (λ e. is_before d e ≡ true) ds

abbrev pub Up : List Delta → Type 0
Up [] = Unit {0}
Up (d ∷ ds) = Follow d ds × Up ds

follow_further : (a b : Delta) (ds : List Delta) → is_before a b ≡ true → Follow b ds → Follow a ds
follow_further a b [] h all = tt
follow_further a b (d ∷ ds) h all = (is_chained a b d h all.0, follow_further a b ds h all.1)

put-first : (d e : Delta) (es : List Delta) → is_before d e ≡ true → put_in_order d (e ∷ es) ≡ d ∷ (e ∷ es)
put-first d e es h = cond-true (is_before d e) (d ∷ (e ∷ es)) (e ∷ put_in_order d es) h

put-later : (d e : Delta) (es : List Delta) → is_before d e ≡ false → put_in_order d (e ∷ es) ≡ e ∷ put_in_order d es
put-later d e es h = cond-false (is_before d e) (d ∷ (e ∷ es)) (e ∷ put_in_order d es) h

follow_put : (a d : Delta) (es : List Delta) → is_before a d ≡ true → Follow a es → Follow a (put_in_order d es)
follow_put a d [] h all = (h, tt)
follow_put a d (e ∷ es) h all = elim (cases_Bool (is_before d e)) as (λ _. Follow a (put_in_order d (e ∷ es))) [
  | inl first ↦ subst (λ (xs : List Delta). Follow a xs) (sym (put-first d e es first)) (h, all)
  | inr later ↦ subst (λ (xs : List Delta). Follow a xs) (sym (put-later d e es later)) (all.0, follow_put a d es h all.1)
]

up_put : (d : Delta) (es : List Delta) → Up es → Up (put_in_order d es)
up_put d [] up = (tt, tt)
up_put d (e ∷ es) up = elim (cases_Bool (is_before d e)) as (λ _. Up (put_in_order d (e ∷ es))) [
  | inl first ↦ subst Up (sym (put-first d e es first)) ((first, follow_further d e es first up.0), up)
  | inr later ↦ subst Up (sym (put-later d e es later)) (follow_put e d es (is_total d e later) up.0, up_put d es up.1)
]

up_in_order : (ds : List Delta) → Up (in_order ds)
up_in_order [] = tt
up_in_order (d ∷ ds) = up_put d (in_order ds) (up_in_order ds)

sum_put : (f : Delta → ℕ) (d : Delta) (es : List Delta) → sum_by f (put_in_order d es) ≡ f d + sum_by f es
sum_put f d [] = sum_by-cons f d []
sum_put f d (e ∷ es) = elim (cases_Bool (is_before d e)) as (λ _. sum_by f (put_in_order d (e ∷ es)) ≡ f d + sum_by f (e ∷ es)) [
  | inl first ↦ ap (sum_by f) (put-first d e es first) ∙ sum_by-cons f d (e ∷ es)
  | inr later ↦
      let here : sum_by f (put_in_order d (e ∷ es)) ≡ f e + sum_by f (put_in_order d es) = ap (sum_by f) (put-later d e es later) ∙ sum_by-cons f e (put_in_order d es) in
      let rest = sum_put f d es in
      let all = sum_by-cons f e es in
      omega (arith, here, rest, all)
]

pub sum_in_order : (f : Delta → ℕ) (ds : List Delta) → sum_by f (in_order ds) ≡ sum_by f ds
sum_in_order f [] = refl
sum_in_order f (d ∷ ds) =
    let here = sum_put f d (in_order ds) in
    let rest = sum_in_order f ds in
    let all = sum_by-cons f d ds in
    omega (arith, here, rest, all)

-- equal in the sum of every weight
abbrev WeighSame : List Delta → List Delta → Type 0
WeighSame xs ys = (weight : Delta → ℕ) → sum_by weight xs ≡ sum_by weight ys

-- what isn't behind a delta weighs 1
abbrev not_behind : Delta → Delta → ℕ
not_behind d e = if is_before d e then 0 else 1

weightless : (d e : Delta) → is_before d e ≡ true → not_behind d e ≡ 0
weightless d e h = ap (λ (b : Bool). if b then 0 else 1) h

none_above : (d : Delta) (ds : List Delta) → Follow d ds → sum_by (not_behind d) ds ≡ 0
none_above d [] all = refl
none_above d (e ∷ es) all =
    let whole = sum_by-cons (not_behind d) e es in
    let here = weightless d e all.0 in
    let rest = none_above d es all.1 in
    omega (arith, whole, here, rest)

itself : (d : Delta) → is_before d d ≡ true
itself d = grind (arith, nat_tests)

-- the first of one list is before the first of the other
first_before : (x y : Delta) (xs ys : List Delta) → Follow x xs → WeighSame (x ∷ xs) (y ∷ ys) → is_before x y ≡ true
first_before x y xs ys up same = elim (cases_Bool (is_before x y)) [
  | inl is ↦ is
  | inr not ↦
      let none = none_above x (x ∷ xs) (itself x, up) in
      let all = same (not_behind x) in
      let whole = sum_by-cons (not_behind x) y ys in
      let one : not_behind x y ≡ 1 = ap (λ (b : Bool). if b then 0 else 1) not in
      absurd (omega (arith, none, all, whole, one))
]

none_left : (d : Delta) (ds : List Delta) → sum_by (λ (e : Delta). 1) (d ∷ ds) ≡ 0 → ⊥
none_left d ds none = let all = sum_by-cons (λ (e : Delta). 1) d ds in omega (arith, all)

same_list : (xs ys : List Delta) → Up xs → Up ys → WeighSame xs ys → xs ≡ ys
same_list [] [] first second same = refl
same_list [] (y ∷ ys) first second same = absurd (none_left y ys (sym (same (λ e. 1))))
same_list (x ∷ xs) [] first second same = absurd (none_left x xs (same (λ e. 1)))
same_list (x ∷ xs) (y ∷ ys) first second same =
    let e : x ≡ y = same_delta x y (first_before x y xs ys first.0 same) (first_before y x ys xs second.0 (λ weight. sym (same weight))) in
    let rest : xs ≡ ys =
    same_list xs ys first.1 second.1
    (λ weight.
    let all = same weight in
    let left = sum_by-cons weight x xs in
    let right = sum_by-cons weight y ys in
    let head : weight x ≡ weight y = ap weight e in
    omega (arith, all, left, right, head)) in
    ap₂ (λ (d : Delta) (ds : List Delta). d ∷ ds) e rest

-- what a sort by an order leaves, where the order answers as the test does
up_sorted : (cmp : Delta → Delta → Ordering) → ((a b : Delta) → is_lt (cmp b a) ≡ false → is_before a b ≡ true) → (ds : List Delta) → IsSorted cmp ds → Up ds
up_sorted cmp agrees [] sorted = tt
up_sorted cmp agrees (d ∷ []) sorted = (tt, tt)
up_sorted cmp agrees (d ∷ e ∷ es) sorted =
    let tail : IsSorted cmp (e ∷ es) = λ k default low high. rw Rattle.std.proofs.Common.add-one (rw Rattle.std.proofs.Common.add-one at (sorted (suc k) default (omega arith) (omega arith))) in
    let up = up_sorted cmp agrees (e ∷ es) tail in
    let first = agrees d e (sorted 0 d (omega arith) (omega arith)) in
    ((first, follow_further d e es first up.0), up)

sorted_is : (cmp : Delta → Delta → Ordering) → ((a b : Delta) → is_lt (cmp b a) ≡ false → is_before a b ≡ true) → (xs ys : List Delta) → IsPermutation xs ys → IsSorted cmp ys → ys ≡ in_order xs
sorted_is cmp agrees xs ys moved sorted =
    same_list ys (in_order xs) (up_sorted cmp agrees ys sorted) (up_in_order xs) (λ weight. sum_by-IsPermutation weight xs ys moved ∙ sym (sum_in_order weight xs))

-- by the places, and then by where they stand
abbrev pub delta_cmp : Delta → Delta → Ordering
delta_cmp a b = ordering_then (nat_cmp a.to b.to) (nat_cmp a.from b.from)

agrees : (a b : Delta) → is_lt (delta_cmp b a) ≡ false → is_before a b ≡ true
agrees a b h = elim (cases_lt b.to a.to) [
  | inl lt ↦
      let less : nat_cmp b.to a.to ≡ Less = ap (λ (t : Bool). cond t Less (cond (nat_eq b.to a.to) Equal Greater)) (lt-ltb b.to a.to lt) in
      absurd (true≢false (sym (ap (λ (o : Ordering). is_lt (ordering_then o (nat_cmp b.from a.from))) less) ∙ h))
  | inr le ↦ grind (arith, nat_tests)
]

pub delta_order : (xs ys : List Delta) → IsPermutation xs ys → IsSorted delta_cmp ys → ys ≡ in_order xs
delta_order = sorted_is delta_cmp agrees
