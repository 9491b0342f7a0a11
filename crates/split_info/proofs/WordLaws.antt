-- Words in the order of their addresses: the one that is looked for is found by halving.
use Rattle.std.proofs.Common.{◌≡◌, ◌≤◌, ◌<◌, ◌+◌, ◌-◌, ℕ, Bool, true, false, ◌&&◌, List, length, get_or, refl, sym, ap, arith, nat_eq, nat_lt, nat_le, inl, inr}
use Rattle.std.specs.List.{list_any}
use Rattle.std.specs.List.Sorted.{IsNonDecreasingBy, IsPartitionedBy, IsPartitionPoint}
use Rattle.std.proofs.lemmas.Bool.{cases_lt, ne_eqb, eqb-false}
use Rattle.std.proofs.lemmas.Bool.Decides.{nat_tests}
use Rattle.std.proofs.lemmas.List.{get_or_read}
use Rattle.macho_image.specs.declared.place.Location.{Location}
use Rattle.split_info.specs.Overlap.{shares}
use Rattle.split_info.proofs.AnyLaws.{any_at, any_nowhere}

abbrev pub address_of : Location → ℕ
address_of l = l.address

-- words below an address, and those that end by it
abbrev pub is_below : ℕ → Location → Bool
is_below from l = nat_lt l.address from

abbrev pub ends_by : ℕ → Location → Bool
ends_by from l = nat_le l.address from && nat_le 8 (from - l.address)

abbrev pub IsPoint : (Location → Bool) → List Location → ℕ → Type 0
IsPoint p ls i = IsPartitionPoint (λ l. p l ≡ true) (λ l. p l ≡ false) ls i

below_is : (from a : ℕ) (l : Location) → l.address ≡ a → a < from → is_below from l ≡ true
below_is from a l is lt = grind (arith, nat_tests)

below_yes : (from : ℕ) (l : Location) → is_below from l ≡ true → l.address < from
below_yes from l is = grind (arith, nat_tests)

below_no : (from : ℕ) (l : Location) → is_below from l ≡ false → from ≤ l.address
below_no from l is = grind (arith, nat_tests)

ends_is : (from : ℕ) (l : Location) → l.address + 8 ≤ from → ends_by from l ≡ true
ends_is from l le = let first : l.address ≤ from = omega arith in let second : 8 ≤ from - l.address = omega arith in grind (arith, nat_tests)

ends_yes : (from : ℕ) (l : Location) → ends_by from l ≡ true → l.address + 8 ≤ from
ends_yes from l is =
    let first : l.address ≤ from = grind (arith, nat_tests) in
    let second : 8 ≤ from - l.address = grind (arith, nat_tests) in
    omega arith

ends_no : (from : ℕ) (l : Location) → ends_by from l ≡ false → from < l.address + 8
ends_no from l is = elim (cases_lt from (l.address + 8)) [ inl lt ↦ lt | inr le ↦ let yes = ends_is from l le in absurd (cc) ]

pub below_parted : (from : ℕ) (ls : List Location) → IsNonDecreasingBy address_of ls → IsPartitionedBy (is_below from) ls
below_parted from ls rises i j d le lt is =
    let up = rises i j d le lt in
    let low = below_yes from (get_or ls j d) is in
    below_is from (get_or ls i d).address (get_or ls i d) refl (omega (arith, up, low))

pub ends_parted : (from : ℕ) (ls : List Location) → IsNonDecreasingBy address_of ls → IsPartitionedBy (ends_by from) ls
ends_parted from ls rises i j d le lt is =
    let up = rises i j d le lt in
    let low = ends_yes from (get_or ls j d) is in
    ends_is from (get_or ls i d) (omega (arith, up, low))

-- a word at an address
pub stands_at : (from : ℕ) (ls : List Location) (i : ℕ) (l : Location) → IsNonDecreasingBy address_of ls → IsPoint (is_below from) ls i → i < length ls → l ≡ get_or ls i l
    → nat_eq l.address from ≡ list_any (λ (m : Location). nat_eq m.address from) ls
stands_at from ls i l rises point lt is =
    any_at (λ (m : Location). nat_eq m.address from) ls i l lt is
    (λ k d before.
    let low = below_yes from (get_or ls k d) (point.0 k d (omega arith) before) in
    ne_eqb (get_or ls k d).address from (λ same. omega (arith, low, same)))
    (λ fails k d behind inside.
    let up = rises i k d (omega arith) inside in
    let here : l ≡ get_or ls i d = get_or_read ls i l lt is d in
    let same : l.address ≡ (get_or ls i d).address = ap address_of here in
    let high = below_no from (get_or ls i d) (point.1 i d (omega arith) lt) in
    let apart = eqb-false l.address from fails in
    ne_eqb (get_or ls k d).address from (λ e. apart (omega (arith, up, same, high, e))))

pub stands_past : (from : ℕ) (ls : List Location) (i : ℕ) → IsPoint (is_below from) ls i → length ls ≤ i → false ≡ list_any (λ (m : Location). nat_eq m.address from) ls
stands_past from ls i point past =
    sym (any_nowhere (λ (m : Location). nat_eq m.address from) ls (λ k d inside.
    let low = below_yes from (get_or ls k d) (point.0 k d (omega arith) (omega arith)) in
    ne_eqb (get_or ls k d).address from (λ same. omega (arith, low, same))))

-- a word that shares a byte with some others
abbrev pub shares_word : ℕ → ℕ → Location → Bool
shares_word from width l = shares from width l.address 8

before_none : (from width a : ℕ) → a + 8 ≤ from → shares from width a 8 ≡ false
before_none from width a le = grind (arith, nat_tests)

behind_none : (from width a : ℕ) → from + width ≤ a → shares from width a 8 ≡ false
behind_none from width a le = grind (arith, nat_tests)

shares_is : (from width a : ℕ) → from < a + 8 → a < from + width → shares from width a 8 ≡ true
shares_is from width a first second = grind (arith, nat_tests)

shares_not : (from width a : ℕ) → from < a + 8 → shares from width a 8 ≡ false → from + width ≤ a
shares_not from width a first is = elim (cases_lt a (from + width)) [ inl lt ↦ let yes = shares_is from width a first lt in absurd (cc) | inr le ↦ le ]

pub shares_here : (from width : ℕ) (ls : List Location) (i : ℕ) (l : Location) → IsNonDecreasingBy address_of ls → IsPoint (ends_by from) ls i → i < length ls → l ≡ get_or ls i l
    → shares from width l.address 8 ≡ list_any (shares_word from width) ls
shares_here from width ls i l rises point lt is =
    any_at (shares_word from width) ls i l lt is
    (λ k d before. before_none from width (get_or ls k d).address (ends_yes from (get_or ls k d) (point.0 k d (omega arith) before)))
    (λ fails k d behind inside.
    let up = rises i k d (omega arith) inside in
    let here : l ≡ get_or ls i d = get_or_read ls i l lt is d in
    let same : l.address ≡ (get_or ls i d).address = ap address_of here in
    let high = ends_no from (get_or ls i d) (point.1 i d (omega arith) lt) in
    let far = shares_not from width l.address (omega (arith, same, high)) fails in
    behind_none from width (get_or ls k d).address (omega (arith, up, same, far)))

pub shares_past : (from width : ℕ) (ls : List Location) (i : ℕ) → IsPoint (ends_by from) ls i → length ls ≤ i → false ≡ list_any (shares_word from width) ls
shares_past from width ls i point past =
    sym (any_nowhere (shares_word from width) ls (λ k d inside. before_none from width (get_or ls k d).address (ends_yes from (get_or ls k d) (point.0 k d (omega arith) (omega arith)))))
