-- Of locations in address order, the first that has another one near is the first whose next one is near.
use Rattle.std.proofs.Common.{◌≡◌, ◌≤◌, ◌<◌, ◌+◌, ◌-◌, ℕ, zero, suc, Bool, true, false, List, [], ◌∷◌, ◌++◌, length, get_or, take, drop, length-drop, drop-cons, refl, sym, ap, ◌∙◌, subst, arith, append_assoc, cond, if◌then◌else◌, nat_lt, inl, inr, Option, Some, None}
use Rattle.std.specs.Prelude.{find, count_by}
use Rattle.std.proofs.lemmas.Bool.{cond-true, cond-false, cases_Bool, cases_lt, lt-ltb, le-ltb}
use Rattle.std.proofs.lemmas.Bool.Decides.{nat_tests}
use Rattle.std.specs.List.{All, AllPairs, sum_by}
use Rattle.std.specs.List.Sorted.{IsPermutation, IsNonDecreasingBy}
use Rattle.std.proofs.lemmas.List.{get_or-take, length-take-le}
use Rattle.std.proofs.lemmas.List.Elements.{All-cons, All-nil}
use Rattle.std.proofs.lemmas.List.Sorted.{All-permutation, IsPermutation-sym, sum_by-IsPermutation}
use Rattle.std.proofs.lemmas.List.Sums.{sum_by-cons, sum_by-append, get_or-le-sum_by, sum_by_more_le}
use Rattle.macho_image.specs.declared.place.Location.{Location}
use Rattle.macho_image.specs.Order.{in_address_order, addresses_of, is_near, first_close}
use Rattle.macho_image.proofs.OrderLaws.{UpFrom, SpacedFrom, up_from, up_in_order, sum_in_order, same_addresses, order_moves}

-- the first location whose next one is near
abbrev pub close_pair : List Location → Option ℕ
close_pair [] = None
close_pair (l ∷ []) = None
close_pair (l ∷ m ∷ ms) = if nat_lt m.address (l.address + 8) then Some l.address else close_pair (m ∷ ms)

abbrev one_if : Bool → ℕ
one_if b = cond b 1 0

near_count : ℕ → List ℕ → ℕ
near_count a ns = count_by (is_near a) ns

count-cons : (a n : ℕ) (ns : List ℕ) → near_count a (n ∷ ns) ≡ one_if (is_near a n) + near_count a ns
unfolding near_count
count-cons a n ns = sum_by-cons (λ (x : ℕ). cond (is_near a x) 1 0) n ns

count-append : (a : ℕ) (ns ms : List ℕ) → near_count a (ns ++ ms) ≡ near_count a ns + near_count a ms
unfolding near_count
count-append a ns ms = sum_by-append (λ (x : ℕ). cond (is_near a x) 1 0) ns ms

near_yes : (a b : ℕ) → a ≤ b → b < a + 8 → one_if (is_near a b) ≡ 1
near_yes a b le lt = let e : is_near a b ≡ true = grind (arith, nat_tests) in ap one_if e

near_no : (a b : ℕ) → a + 8 ≤ b → one_if (is_near a b) ≡ 0
near_no a b le = let e : is_near a b ≡ false = grind (arith, nat_tests) in ap one_if e

near_not_before : (a b : ℕ) → b + 8 ≤ a → one_if (is_near a b) ≡ 0
near_not_before a b le = let e : is_near a b ≡ false = grind (arith, nat_tests) in ap one_if e

none_far : (a floor : ℕ) (ls : List Location) → a + 8 ≤ floor → UpFrom floor ls → near_count a (addresses_of ls) ≡ 0
unfolding near_count
none_far a floor [] le up = refl
none_far a floor (l ∷ ls) le up =
    let here = near_no a l.address (omega (arith, up.0)) in
    let rest = none_far a l.address ls (omega (arith, up.0)) up.1 in
    let all = count-cons a l.address (addresses_of ls) in
    omega (arith, here, rest, all)

-- nothing of those before is near to what stands at or above the floor
abbrev AllBelow : List ℕ → ℕ → Type 0
AllBelow before floor = (a : ℕ) → floor ≤ a → near_count a before ≡ 0

below_more : (before : List ℕ) (floor next n : ℕ) → AllBelow before floor → floor ≤ next → n + 8 ≤ next → AllBelow (before ++ n ∷ []) next
unfolding near_count
below_more before floor next n below le far a above =
    let here = near_not_before a n (omega arith) in
    let old = below a (omega arith) in
    let last = count-cons a n [] in
    let all = count-append a before (n ∷ []) in
    omega (arith, here, old, last, all)

find_in : List ℕ → List ℕ → Option ℕ
find_in all ns = find (λ a. nat_lt 1 (near_count a all)) ns

find_here : (all : List ℕ) (n : ℕ) (ns : List ℕ) → 1 < near_count n all → find_in all (n ∷ ns) ≡ Some n
unfolding find_in
find_here all n ns more = cond-true (nat_lt 1 (near_count n all)) (Some n) (find_in all ns) (lt-ltb 1 (near_count n all) more)

find_later : (all : List ℕ) (n : ℕ) (ns : List ℕ) → near_count n all ≤ 1 → find_in all (n ∷ ns) ≡ find_in all ns
unfolding find_in
find_later all n ns few = cond-false (nat_lt 1 (near_count n all)) (Some n) (find_in all ns) (le-ltb 1 (near_count n all) few)

close_from : (before : List ℕ) (floor : ℕ) (ls : List Location) → AllBelow before floor → UpFrom floor ls → find_in (before ++ addresses_of ls) (addresses_of ls) ≡ close_pair ls
unfolding find_in
close_from before floor [] below up = refl
close_from before floor (l ∷ []) below up =
    let all = count-append l.address before (l.address ∷ []) in
    let old = below l.address up.0 in
    let self = near_yes l.address l.address (omega arith) (omega arith) in
    let last = count-cons l.address l.address [] in
    let none : near_count l.address [] ≡ 0 = none_far l.address (l.address + 8) [] (omega arith) tt in
    find_later (before ++ l.address ∷ []) l.address [] (omega (arith, all, old, self, last, none))
close_from before floor (l ∷ m ∷ ms) below up =
    let rest = addresses_of (m ∷ ms) in
    let all = count-append l.address before (l.address ∷ rest) in
    let old = below l.address up.0 in
    let self = near_yes l.address l.address (omega arith) (omega arith) in
    let one = count-cons l.address l.address rest in
    elim (cases_lt m.address (l.address + 8)) as (λ _. find_in (before ++ l.address ∷ rest) (l.address ∷ rest) ≡ close_pair (l ∷ m ∷ ms)) [
      | inl near ↦
          let next = near_yes l.address m.address up.1.0 near in
          let two = count-cons l.address m.address (addresses_of ms) in
          find_here (before ++ l.address ∷ rest) l.address rest (omega (arith, all, old, self, one, next, two))
          ∙ sym (cond-true (nat_lt m.address (l.address + 8)) (Some l.address) (close_pair (m ∷ ms)) (lt-ltb m.address (l.address + 8) near))
      | inr far ↦
          let none = none_far l.address m.address (m ∷ ms) far (omega arith, up.1.1) in
          find_later (before ++ l.address ∷ rest) l.address rest (omega (arith, all, old, self, one, none))
          ∙ (ap (λ (ns : List ℕ). find_in ns rest) (sym (append_assoc before (l.address ∷ []) rest))
          ∙ (close_from (before ++ l.address ∷ []) m.address (m ∷ ms) (below_more before floor m.address l.address below (omega (arith, up.0, up.1.0)) far) (omega arith, up.1.1)
          ∙ sym (cond-false (nat_lt m.address (l.address + 8)) (Some l.address) (close_pair (m ∷ ms)) (le-ltb m.address (l.address + 8) far))))
    ]

pub close_is : (ls : List Location) → UpFrom 0 ls → first_close (addresses_of ls) ≡ close_pair ls
unfolding first_close find_in near_count
close_is ls up = close_from [] 0 ls (λ a le. refl) up

-- where no pair is close, all are apart
pub close_spaced : (floor : ℕ) (ls : List Location) → UpFrom floor ls → close_pair ls ≡ None → SpacedFrom floor ls
close_spaced floor [] up none = tt
close_spaced floor (l ∷ []) up none = (up.0, tt)
close_spaced floor (l ∷ m ∷ ms) up none = elim (cases_lt m.address (l.address + 8)) [
  | inl near ↦ absurd (some_none (sym (cond-true (nat_lt m.address (l.address + 8)) (Some l.address) (close_pair (m ∷ ms)) (lt-ltb m.address (l.address + 8) near)) ∙ none))
  | inr far ↦ (
    up.0,
    close_spaced (l.address + 8) (m ∷ ms) (far, up.1.1)
        (sym (cond-false (nat_lt m.address (l.address + 8)) (Some l.address) (close_pair (m ∷ ms)) (le-ltb m.address (l.address + 8) far)) ∙ none),
  )
]
  where
    some_none : ◌≡◌ {A = Option ℕ} (Some l.address) None → ⊥
    some_none e = cc

spaced_next : (floor : ℕ) (ls : List Location) → SpacedFrom floor ls → (k : ℕ) (d : Location) → suc k < length ls → (get_or ls k d).address + 8 ≤ (get_or ls (suc k) d).address
spaced_next floor [] spaced k d lt = absurd (omega arith)
spaced_next floor (l ∷ []) spaced k d lt = absurd (omega arith)
spaced_next floor (l ∷ m ∷ ms) spaced zero d lt = spaced.1.0
spaced_next floor (l ∷ m ∷ ms) spaced (suc k) d lt = spaced_next (l.address + 8) (m ∷ ms) spaced.1 k d (omega arith)

pub spaced_apart : (floor : ℕ) (ls : List Location) → SpacedFrom floor ls → (k : ℕ) (d : Location) → k + 1 < length ls → (get_or ls k d).address + 8 ≤ (get_or ls (k + 1) d).address
spaced_apart floor ls spaced k d lt =
    let e : suc k ≡ k + 1 = omega arith in
    subst (λ (n : ℕ). (get_or ls k d).address + 8 ≤ (get_or ls n d).address) e (spaced_next floor ls spaced k d (omega arith))

drop_here : (ls : List Location) (i : ℕ) (d : Location) → i < length ls → drop i ls ≡ get_or ls i d ∷ drop (i + 1) ls
drop_here ls i d lt = let e : suc i ≡ i + 1 = omega arith in drop-cons ls i d lt ∙ ap (λ (n : ℕ). get_or ls i d ∷ drop n ls) e

-- the pair before a place, and none at the end
pub close_here : (ls : List Location) (i : ℕ) (d : Location) → 1 ≤ i → i < length ls → (get_or ls i d).address - (get_or ls (i - 1) d).address < 8 → close_pair (drop (i - 1) ls) ≡ Some (get_or ls (i - 1) d).address
close_here ls i d some lt near =
    let low = get_or ls (i - 1) d in
    let high = get_or ls i d in
    let one : drop (i - 1) ls ≡ low ∷ drop (i - 1 + 1) ls = drop_here ls (i - 1) d (omega arith) in
    let back : i - 1 + 1 ≡ i = omega arith in
    let two : drop (i - 1 + 1) ls ≡ high ∷ drop (i + 1) ls = ap (λ (n : ℕ). drop n ls) back ∙ drop_here ls i d lt in
    ap close_pair (one ∙ ap (λ (r : List Location). low ∷ r) two)
    ∙ cond-true (nat_lt high.address (low.address + 8)) (Some low.address) (close_pair (high ∷ drop (i + 1) ls)) (lt-ltb high.address (low.address + 8) (omega arith))

close_short : (ls : List Location) → length ls ≤ 1 → close_pair ls ≡ None
close_short [] few = refl
close_short (l ∷ []) few = refl
close_short (l ∷ m ∷ ms) few = absurd (omega arith)

pub close_end : (ls : List Location) (i : ℕ) → length ls ≤ i → close_pair (drop (i - 1) ls) ≡ None
close_end ls i past = close_short (drop (i - 1) ls) (omega (arith, length-drop (i - 1) ls))

-- sorted by whatever means, locations have the same first close address
pub close_sorted : (ls sorted : List Location) → IsPermutation ls sorted → IsNonDecreasingBy (λ (l : Location). l.address) sorted → first_close (addresses_of sorted) ≡ first_close (addresses_of (in_address_order ls))
close_sorted ls sorted moved rises =
    ap first_close
    (same_addresses 0 0 sorted (in_address_order ls) (up_from 0 sorted (λ d some. omega arith) rises) (up_in_order ls)
    (λ weight. sum_by-IsPermutation (λ (l : Location). weight l.address) ls sorted moved ∙ sym (sum_in_order (λ (l : Location). weight l.address) ls)))

-- where no address is close to another one, no two locations are
two_weigh : (f : Location → ℕ) (ls : List Location) (i j : ℕ) (d : Location) → i < j → j < length ls → f (get_or ls i d) + f (get_or ls j d) ≤ sum_by f ls
two_weigh f ls i j d lt within =
    let long : length (take j ls) ≡ j = length-take-le j ls (omega arith) in
    let first : f (get_or (take j ls) i d) ≤ sum_by f (take j ls) = get_or-le-sum_by f (take j ls) i d (omega arith) in
    let same : f (get_or (take j ls) i d) ≡ f (get_or ls i d) = ap f (get_or-take j ls i d lt) in
    let second = sum_by_more_le f ls j d within in
    omega arith

near_sum : (a : ℕ) (ls : List Location) → near_count a (addresses_of ls) ≡ sum_by (λ (l : Location). one_if (is_near a l.address)) ls
unfolding near_count
near_sum a [] = refl
near_sum a (l ∷ ls) =
    let here = count-cons a l.address (addresses_of ls) in
    let rest = near_sum a ls in
    let all = sum_by-cons (λ (m : Location). one_if (is_near a m.address)) l ls in
    omega arith

all_few : (all : List ℕ) (ls : List Location) → find_in all (addresses_of ls) ≡ None → All (λ (l : Location). near_count l.address all ≤ 1) ls
unfolding find_in near_count
all_few all [] none = All-nil (λ (l : Location). near_count l.address all ≤ 1)
all_few all (l ∷ ls) none = elim (cases_lt 1 (near_count l.address all)) [
  | inl many ↦ absurd (some_none (sym (find_here all l.address (addresses_of ls) many) ∙ none))
  | inr few ↦
      All-cons (λ (m : Location). near_count m.address all ≤ 1) l ls few
      (all_few all ls (sym (find_later all l.address (addresses_of ls) few) ∙ none))
]
  where
    some_none : ◌≡◌ {A = Option ℕ} (Some l.address) None → ⊥
    some_none e = cc

pub close_apart : (ls : List Location) → first_close (addresses_of (in_address_order ls)) ≡ None → AllPairs (λ (l m : Location). is_near l.address m.address ≡ false) ls
unfolding first_close find_in near_count
close_apart ls none i j d lt within = elim (cases_Bool (is_near (get_or ls i d).address (get_or ls j d).address)) [
  | inl near ↦
      let sorted = in_address_order ls in
      let a = (get_or ls i d).address in
      let weight : Location → ℕ = λ l. one_if (is_near a l.address) in
      let few : All (λ (l : Location). near_count l.address (addresses_of sorted) ≤ 1) ls =
      All-permutation (λ (l : Location). near_count l.address (addresses_of sorted) ≤ 1) sorted ls (IsPermutation-sym ls sorted (order_moves ls)) (all_few (addresses_of sorted) sorted none) in
      let one : near_count a (addresses_of sorted) ≤ 1 = few i d (omega arith) in
      let counted : near_count a (addresses_of sorted) ≡ sum_by weight sorted = near_sum a sorted in
      let moved : sum_by weight sorted ≡ sum_by weight ls = sum_in_order weight ls in
      let both : weight (get_or ls i d) + weight (get_or ls j d) ≤ sum_by weight ls = two_weigh weight ls i j d lt within in
      let self : weight (get_or ls i d) ≡ 1 = near_yes a a (omega arith) (omega arith) in
      let other : weight (get_or ls j d) ≡ 1 = ap one_if near in
      absurd (omega (arith, one, counted, moved, both, self, other))
  | inr far ↦ far
]
