-- Locations in address order. Sorted by whatever means, the same locations are the same list where no two have one address, and have the same list of addresses always.
use Rattle.std.proofs.Common.{◌≡◌, ◌≤◌, ◌<◌, ◌+◌, ℕ, suc, Bool, true, false, List, [], ◌∷◌, length, get_or, refl, sym, ap, ◌∙◌, subst, arith, if◌then◌else◌, nat_le, nat_eq, inl, inr}
use Rattle.std.specs.List.{All, sum_by}
use Rattle.std.specs.List.Sorted.{IsNonDecreasingBy, IsPermutation}
use Rattle.std.proofs.lemmas.Bool.{cond-true, cond-false, cases_lt, cases_Bool, le-leb, lt-leb}
use Rattle.std.proofs.lemmas.Bool.Decides.{nat_tests}
use Rattle.std.proofs.lemmas.List.Elements.{All-cons}
use Rattle.std.proofs.lemmas.List.Sorted.{IsPermutation-refl, IsPermutation-cons, IsPermutation-trans, IsPermutation-insert}
use Rattle.std.proofs.lemmas.List.Sums.{sum_by-cons}
use Rattle.macho_image.specs.declared.place.Location.{Location}
use Rattle.macho_image.specs.Order.{put_in_order, in_address_order, addresses_of}

-- addresses that don't fall, from a floor on
abbrev pub UpFrom : ℕ → List Location → Type 0
UpFrom floor [] = Unit {0}
UpFrom floor (l ∷ ls) = (floor ≤ l.address) × UpFrom l.address ls

-- addresses at least 8 apart, from a floor on
abbrev pub SpacedFrom : ℕ → List Location → Type 0
SpacedFrom floor [] = Unit {0}
SpacedFrom floor (l ∷ ls) = (floor ≤ l.address) × SpacedFrom (l.address + 8) ls

pub up_lower : (a b : ℕ) (ls : List Location) → a ≤ b → UpFrom b ls → UpFrom a ls
up_lower a b [] le up = tt
up_lower a b (l ∷ ls) le up = (omega (arith, up.0), up.1)

pub spaced_up : (floor : ℕ) (ls : List Location) → SpacedFrom floor ls → UpFrom floor ls
spaced_up floor [] spaced = tt
spaced_up floor (l ∷ ls) spaced = (spaced.0, up_lower l.address (l.address + 8) ls (omega arith) (spaced_up (l.address + 8) ls spaced.1))

pub up_from : (floor : ℕ) (ls : List Location) → ((d : Location) → 0 < length ls → floor ≤ (get_or ls 0 d).address) → IsNonDecreasingBy (λ l. l.address) ls → UpFrom floor ls
up_from floor [] low rises = tt
up_from floor (l ∷ ls) low rises =
    (low l (omega arith), up_from l.address ls (λ d some. rises 0 1 d (omega arith) (omega arith)) (λ i j d le lt. rises (suc i) (suc j) d (omega arith) (omega arith)))

-- a list that was put in order
put-least : (l : Location) (m : Location) (ms : List Location) → l.address ≤ m.address → put_in_order l (m ∷ ms) ≡ l ∷ (m ∷ ms)
put-least l m ms le = cond-true (nat_le l.address m.address) (l ∷ (m ∷ ms)) (m ∷ put_in_order l ms) (le-leb l.address m.address le)

put-behind : (l : Location) (m : Location) (ms : List Location) → m.address < l.address → put_in_order l (m ∷ ms) ≡ m ∷ put_in_order l ms
put-behind l m ms lt = cond-false (nat_le l.address m.address) (l ∷ (m ∷ ms)) (m ∷ put_in_order l ms) (lt-leb l.address m.address lt)

up_put : (floor : ℕ) (l : Location) (ls : List Location) → floor ≤ l.address → UpFrom floor ls → UpFrom floor (put_in_order l ls)
up_put floor l [] low up = (low, tt)
up_put floor l (m ∷ ms) low up = elim (cases_lt m.address l.address) as (λ _. UpFrom floor (put_in_order l (m ∷ ms))) [
  | inl lt ↦ subst (λ (xs : List Location). UpFrom floor xs) (sym (put-behind l m ms lt)) (up.0, up_put m.address l ms (omega arith) up.1)
  | inr le ↦ subst (λ (xs : List Location). UpFrom floor xs) (sym (put-least l m ms le)) (low, (le, up.1))
]

pub up_in_order : (ls : List Location) → UpFrom 0 (in_address_order ls)
up_in_order [] = tt
up_in_order (l ∷ ls) = up_put 0 l (in_address_order ls) (omega arith) (up_in_order ls)

sum_put : (f : Location → ℕ) (l : Location) (ls : List Location) → sum_by f (put_in_order l ls) ≡ f l + sum_by f ls
sum_put f l [] = sum_by-cons f l []
sum_put f l (m ∷ ms) = elim (cases_lt m.address l.address) [
  | inl lt ↦
      let e : sum_by f (put_in_order l (m ∷ ms)) ≡ f m + sum_by f (put_in_order l ms) = ap (sum_by f) (put-behind l m ms lt) ∙ sum_by-cons f m (put_in_order l ms) in
      let rest = sum_put f l ms in
      let all = sum_by-cons f m ms in
      omega (arith, e, rest, all)
  | inr le ↦ ap (sum_by f) (put-least l m ms le) ∙ sum_by-cons f l (m ∷ ms)
]

pub sum_in_order : (f : Location → ℕ) (ls : List Location) → sum_by f (in_address_order ls) ≡ sum_by f ls
sum_in_order f [] = refl
sum_in_order f (l ∷ ls) =
    let here = sum_put f l (in_address_order ls) in
    let rest = sum_in_order f ls in
    let all = sum_by-cons f l ls in
    omega (arith, here, rest, all)

-- what the locations at an address weigh
abbrev at : ℕ → (Location → ℕ) → Location → ℕ
at address weight l = if nat_eq l.address address then weight l else 0

at-here : (address : ℕ) (weight : Location → ℕ) (l : Location) → l.address ≡ address → at address weight l ≡ weight l
at-here address weight l e = let t : nat_eq l.address address ≡ true = grind (arith, nat_tests) in ap (λ (b : Bool). if b then weight l else 0) t

at-elsewhere : (address : ℕ) (weight : Location → ℕ) (l : Location) → address < l.address → at address weight l ≡ 0
at-elsewhere address weight l lt = let t : nat_eq l.address address ≡ false = grind (arith, nat_tests) in ap (λ (b : Bool). if b then weight l else 0) t

none_below : (address floor : ℕ) (weight : Location → ℕ) (ls : List Location) → address < floor → UpFrom floor ls → sum_by (at address weight) ls ≡ 0
none_below address floor weight [] lt up = refl
none_below address floor weight (l ∷ ls) lt up =
    let here = at-elsewhere address weight l (omega (arith, up.0)) in
    let rest = none_below address l.address weight ls (omega (arith, up.0)) up.1 in
    let all = sum_by-cons (at address weight) l ls in
    omega (arith, here, rest, all)

-- where no location has the address, whatever is weighed weighs nothing
weightless : (address : ℕ) (weight : Location → ℕ) (ls : List Location) → sum_by (at address (λ l. 1)) ls ≡ 0 → sum_by (at address weight) ls ≡ 0
weightless address weight [] none = refl
weightless address weight (l ∷ ls) none = elim (cases_Bool (nat_eq l.address address)) [
  | inl same ↦
      let one : at address (λ l. 1) l ≡ 1 = ap (λ (b : Bool). if b then 1 else 0) same in
      let all = sum_by-cons (at address (λ l. 1)) l ls in
      absurd (omega (arith, one, all))
  | inr other ↦
      let one : at address (λ l. 1) l ≡ 0 = ap (λ (b : Bool). if b then 1 else 0) other in
      let here : at address weight l ≡ 0 = ap (λ (b : Bool). if b then weight l else 0) other in
      let all = sum_by-cons (at address (λ l. 1)) l ls in
      let rest = weightless address weight ls (omega (arith, one, all)) in
      let whole = sum_by-cons (at address weight) l ls in
      omega (arith, here, rest, whole)
]

-- two lists in order that weigh the same at each address begin with one address
not_below : (x y : Location) (xs ys : List Location) → UpFrom y.address ys → sum_by (at x.address (λ l. 1)) (x ∷ xs) ≡ sum_by (at x.address (λ l. 1)) (y ∷ ys) → x.address < y.address → ⊥
not_below x y xs ys up same lt =
    let here = at-here x.address (λ l. 1) x refl in
    let one = sum_by-cons (at x.address (λ l. 1)) x xs in
    let none = none_below x.address y.address (λ l. 1) (y ∷ ys) lt (omega arith, up) in
    omega (arith, here, one, none)

one_first : (x y : Location) (xs ys : List Location) → UpFrom x.address xs → UpFrom y.address ys
    → ((address : ℕ) → sum_by (at address (λ l. 1)) (x ∷ xs) ≡ sum_by (at address (λ l. 1)) (y ∷ ys)) → x.address ≡ y.address
one_first x y xs ys first second same = elim (cases_lt x.address y.address) [
  | inl lt ↦ absurd (not_below x y xs ys second (same x.address) lt)
  | inr le ↦ elim (cases_lt y.address x.address) [
    | inl lt ↦ absurd (not_below y x ys xs first (sym (same y.address)) lt)
    | inr ge ↦ omega arith
  ]
]

-- equal in the sum of every weight, and of every weight that is told by the address
abbrev pub WeighSame : List Location → List Location → Type 0
WeighSame xs ys = (weight : Location → ℕ) → sum_by weight xs ≡ sum_by weight ys

abbrev pub AddressesWeighSame : List Location → List Location → Type 0
AddressesWeighSame xs ys = (weight : ℕ → ℕ) → sum_by (λ l. weight l.address) xs ≡ sum_by (λ l. weight l.address) ys

none_left : (l : Location) (ls : List Location) → sum_by (λ (m : Location). 1) (l ∷ ls) ≡ 0 → ⊥
none_left l ls none = let all = sum_by-cons (λ (m : Location). 1) l ls in omega (arith, all)

pub same_addresses : (a b : ℕ) (xs ys : List Location) → UpFrom a xs → UpFrom b ys → AddressesWeighSame xs ys → addresses_of xs ≡ addresses_of ys
same_addresses a b [] [] first second same = refl
same_addresses a b [] (y ∷ ys) first second same = absurd (none_left y ys (sym (same (λ n. 1))))
same_addresses a b (x ∷ xs) [] first second same = absurd (none_left x xs (same (λ n. 1)))
same_addresses a b (x ∷ xs) (y ∷ ys) first second same =
    let e : x.address ≡ y.address = one_first x y xs ys first.1 second.1 (λ address. same (λ n. if nat_eq n address then 1 else 0)) in
    let rest : addresses_of xs ≡ addresses_of ys =
    same_addresses x.address y.address xs ys first.1 second.1
    (λ weight.
    let all = same weight in
    let left = sum_by-cons (λ (l : Location). weight l.address) x xs in
    let right = sum_by-cons (λ (l : Location). weight l.address) y ys in
    let head : weight x.address ≡ weight y.address = ap weight e in
    omega (arith, all, left, right, head)) in
    ap (λ (n : ℕ). n ∷ addresses_of xs) e ∙ ap (λ (ns : List ℕ). y.address ∷ ns) rest

-- the part of the first location that a weight tells
same_part : (weight : Location → ℕ) (x y : Location) (xs ys : List Location) → x.address ≡ y.address → SpacedFrom (x.address + 8) xs → WeighSame (x ∷ xs) (y ∷ ys) → weight x ≡ weight y
same_part weight x y xs ys e spaced same =
    let up = spaced_up (x.address + 8) xs spaced in
    let one = same (at x.address (λ l. 1)) in
    let left = sum_by-cons (at x.address (λ l. 1)) x xs in
    let right = sum_by-cons (at x.address (λ l. 1)) y ys in
    let left_here = at-here x.address (λ l. 1) x refl in
    let right_here = at-here x.address (λ l. 1) y (sym e) in
    let left_rest = none_below x.address (x.address + 8) (λ l. 1) xs (omega arith) up in
    let right_rest = weightless x.address weight ys (omega (arith, one, left, right, left_here, right_here, left_rest)) in
    let all = same (at x.address weight) in
    let first = sum_by-cons (at x.address weight) x xs in
    let second = sum_by-cons (at x.address weight) y ys in
    let first_here = at-here x.address weight x refl in
    let second_here = at-here x.address weight y (sym e) in
    let first_rest = none_below x.address (x.address + 8) weight xs (omega arith) up in
    omega (arith, all, first, second, first_here, second_here, first_rest, right_rest)

pub same_list : (a b : ℕ) (xs ys : List Location) → SpacedFrom a xs → UpFrom b ys → WeighSame xs ys → xs ≡ ys
same_list a b [] [] first second same = refl
same_list a b [] (y ∷ ys) first second same = absurd (none_left y ys (sym (same (λ l. 1))))
same_list a b (x ∷ xs) [] first second same = absurd (none_left x xs (same (λ l. 1)))
same_list a b (x ∷ xs) (y ∷ ys) first second same =
    let up = up_lower x.address (x.address + 8) xs (omega arith) (spaced_up (x.address + 8) xs first.1) in
    let address : x.address ≡ y.address = one_first x y xs ys up second.1 (λ address. same (at address (λ l. 1))) in
    let segment : x.segment ≡ y.segment = same_part (λ l. l.segment) x y xs ys address first.1 same in
    let section : x.section ≡ y.section = same_part (λ l. l.section) x y xs ys address first.1 same in
    let e : x ≡ y = λ i. record { segment = segment i; section = section i; address = address i } in
    let rest : xs ≡ ys =
    same_list (x.address + 8) y.address xs ys first.1 second.1
    (λ weight.
    let all = same weight in
    let left = sum_by-cons weight x xs in
    let right = sum_by-cons weight y ys in
    let head : weight x ≡ weight y = ap weight e in
    omega (arith, all, left, right, head)) in
    ap (λ (l : Location). l ∷ xs) e ∙ ap (λ (ls : List Location). y ∷ ls) rest

-- in another order
all_put : (P : Location → Type 0) (l : Location) (ls : List Location) → P l → All P ls → All P (put_in_order l ls)
all_put P l [] one all = All-cons P l [] one all
all_put P l (m ∷ ms) one all = elim (cases_lt m.address l.address) as (λ _. All P (put_in_order l (m ∷ ms))) [
  | inl lt ↦
      subst (λ (xs : List Location). All P xs) (sym (put-behind l m ms lt))
      (All-cons P m (put_in_order l ms) (all 0 m (omega arith)) (all_put P l ms one (λ i d inside. all (suc i) d (omega arith))))
  | inr le ↦ subst (λ (xs : List Location). All P xs) (sym (put-least l m ms le)) (All-cons P l (m ∷ ms) one all)
]

pub all_in_order : (P : Location → Type 0) (ls : List Location) → All P ls → All P (in_address_order ls)
all_in_order P [] all = all
all_in_order P (l ∷ ls) all = all_put P l (in_address_order ls) (all 0 l (omega arith)) (all_in_order P ls (λ i d inside. all (suc i) d (omega arith)))

length_put : (l : Location) (ls : List Location) → length (put_in_order l ls) ≡ suc (length ls)
length_put l [] = refl
length_put l (m ∷ ms) = elim (cases_lt m.address l.address) [
  | inl lt ↦ ap length (put-behind l m ms lt) ∙ ap suc (length_put l ms)
  | inr le ↦ ap length (put-least l m ms le)
]

pub length_in_order : (ls : List Location) → length (in_address_order ls) ≡ length ls
length_in_order [] = refl
length_in_order (l ∷ ls) = length_put l (in_address_order ls) ∙ ap suc (length_in_order ls)

-- putting in order only moves locations, and moves none that are in order
put_moves : (l : Location) (ls : List Location) → IsPermutation (l ∷ ls) (put_in_order l ls)
put_moves l [] = IsPermutation-refl (l ∷ [])
put_moves l (m ∷ ms) = elim (cases_lt m.address l.address) [
  | inl lt ↦
      let swapped : IsPermutation (l ∷ m ∷ ms) (m ∷ l ∷ ms) = IsPermutation-insert (m ∷ ms) 1 l in
      subst (λ (xs : List Location). IsPermutation (l ∷ m ∷ ms) xs) (sym (put-behind l m ms lt))
      (IsPermutation-trans (l ∷ m ∷ ms) (m ∷ l ∷ ms) (m ∷ put_in_order l ms) swapped (IsPermutation-cons m (l ∷ ms) (put_in_order l ms) (put_moves l ms)))
  | inr le ↦ subst (λ (xs : List Location). IsPermutation (l ∷ m ∷ ms) xs) (sym (put-least l m ms le)) (IsPermutation-refl (l ∷ m ∷ ms))
]

pub order_moves : (ls : List Location) → IsPermutation ls (in_address_order ls)
order_moves [] = IsPermutation-refl []
order_moves (l ∷ ls) =
    IsPermutation-trans (l ∷ ls) (l ∷ in_address_order ls) (put_in_order l (in_address_order ls)) (IsPermutation-cons l ls (in_address_order ls) (order_moves ls)) (put_moves l (in_address_order ls))

pub in_order_same : (floor : ℕ) (ls : List Location) → SpacedFrom floor ls → in_address_order ls ≡ ls
in_order_same floor ls spaced = sym (same_list floor 0 ls (in_address_order ls) spaced (up_in_order ls) (λ weight. sym (sum_in_order weight ls)))
