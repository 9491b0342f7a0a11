-- The word at an address, of words that rise; and the bound words that lead beyond the segments.
use Rattle.std.proofs.Common.{◌≡◌, ◌≤◌, ◌<◌, ◌+◌, ℕ, zero, suc, Bool, true, false, not, List, [], ◌∷◌, length, map, get_or, refl, sym, ap, ap₂, ◌∙◌, subst, arith, nat_eq, nat_lt, cond, inl, inr, ◌⊎◌, ◌-◌, Option, Some, None}
use Rattle.std.specs.Prelude.{position}
use Rattle.std.specs.List.{position_or_len, Contains}
use Rattle.std.specs.List.Sorted.{IsNonDecreasingBy, IsPartitionedBy, IsPartitionPoint}
use Rattle.std.proofs.lemmas.Bool.{cond-true, cond-false, eq-eqb, cases_lt}
use Rattle.std.proofs.lemmas.List.Sorted.{IsNonDecreasingBy-from_all_adjacent}
use Rattle.std.proofs.lemmas.Bool.Decides.{nat_tests}
use Rattle.std.proofs.lemmas.List.{get_or_read, length-map}
use Rattle.prebind.specs.declared.resolved.WordTarget.{WordTarget}
use Rattle.prebind.specs.declared.resolved.PlacedWord.{PlacedWord}
use Rattle.ref_rewrite.specs.Steps.{target_at}

abbrev pub address_of : PlacedWord → ℕ
address_of w = w.at.address

abbrev pub is_below : ℕ → PlacedWord → Bool
is_below a w = nat_lt w.at.address a

abbrev pub IsPoint : ℕ → List PlacedWord → ℕ → Type 0
IsPoint a ws i = IsPartitionPoint (λ w. is_below a w ≡ true) (λ w. is_below a w ≡ false) ws i

below_is : (a x : ℕ) (w : PlacedWord) → w.at.address ≡ x → x < a → is_below a w ≡ true
below_is a x w is lt = grind (arith, nat_tests)

below_yes : (a : ℕ) (w : PlacedWord) → is_below a w ≡ true → w.at.address < a
below_yes a w is = grind (arith, nat_tests)

below_no : (a : ℕ) (w : PlacedWord) → is_below a w ≡ false → a ≤ w.at.address
below_no a w is = grind (arith, nat_tests)

pub parted : (a : ℕ) (ws : List PlacedWord) → IsNonDecreasingBy address_of ws → IsPartitionedBy (is_below a) ws
parted a ws rises i j d le lt is =
    let up = rises i j d le lt in
    let low = below_yes a (get_or ws j d) is in
    below_is a (get_or ws i d).at.address (get_or ws i d) refl (omega (arith, up, low))

-- the first word at an address, and none
unlike : (a x : ℕ) → (x ≡ a → ⊥) → nat_eq x a ≡ false
unlike a x apart = grind (arith, nat_tests)

pub found : (a : ℕ) (ws : List PlacedWord) (i : ℕ) (w : PlacedWord) → ((k : ℕ) (d : PlacedWord) → k < i → (get_or ws k d).at.address < a) → i < length ws → w ≡ get_or ws i w → w.at.address ≡ a
    → Some w.target ≡ target_at ws a
found a [] i w below lt is same = absurd (omega arith)
found a (v ∷ vs) zero w below lt is same =
    let here : v.at.address ≡ a = ap address_of (sym is) ∙ same in
    ap (λ (u : PlacedWord). let o : Option WordTarget = Some u.target in o) is ∙ sym (cond-true (nat_eq v.at.address a) (let o : Option WordTarget = Some v.target in o) (target_at vs a) (eq-eqb v.at.address a here))
found a (v ∷ vs) (suc i) w below lt is same =
    let low = below 0 v (omega arith) in
    found a vs i w (λ k d before. below (suc k) d (omega arith)) (omega arith) is same
    ∙ sym (cond-false (nat_eq v.at.address a) (let o : Option WordTarget = Some v.target in o) (target_at vs a) (unlike a v.at.address (λ e. omega (arith, e, low))))

pub missing : (a : ℕ) (ws : List PlacedWord) → ((k : ℕ) (d : PlacedWord) → k < length ws → (get_or ws k d).at.address ≡ a → ⊥) → None ≡ target_at ws a
missing a [] none = refl
missing a (v ∷ vs) none =
    missing a vs (λ k d lt. none (suc k) d (omega arith))
    ∙ sym (cond-false (nat_eq v.at.address a) (let o : Option WordTarget = Some v.target in o) (target_at vs a) (unlike a v.at.address (none 0 v (omega arith))))

-- by halving
pub target_here : (a : ℕ) (ws : List PlacedWord) (i : ℕ) (w : PlacedWord) → IsPoint a ws i → i < length ws → w ≡ get_or ws i w → w.at.address ≡ a → Some w.target ≡ target_at ws a
target_here a ws i w point lt is same = found a ws i w (λ k d before. below_yes a (get_or ws k d) (point.0 k d (omega arith) before)) lt is same

pub target_past : (a : ℕ) (ws : List PlacedWord) (i : ℕ) → IsPoint a ws i → length ws ≤ i → None ≡ target_at ws a
target_past a ws i point past =
    missing a ws (λ k d lt same. let low = below_yes a (get_or ws k d) (point.0 k d (omega arith) (omega arith)) in omega (arith, low, same))

pub target_none : (a : ℕ) (ws : List PlacedWord) (i : ℕ) (w : PlacedWord) → IsNonDecreasingBy address_of ws → IsPoint a ws i → i < length ws → w ≡ get_or ws i w → (w.at.address ≡ a → ⊥) → None ≡ target_at ws a
target_none a ws i w rises point lt is apart =
    missing a ws (λ k d inside same. by_side k d inside same (cases k))
  where
    cases : (k : ℕ) → (k < i) ⊎ (i ≤ k)
    cases k = cases_lt k i

    by_side : (k : ℕ) (d : PlacedWord) → k < length ws → (get_or ws k d).at.address ≡ a → (k < i) ⊎ (i ≤ k) → ⊥
    by_side k d inside same (inl before) = let low = below_yes a (get_or ws k d) (point.0 k d (omega arith) before) in omega (arith, low, same)
    by_side k d inside same (inr behind) =
        let up = rises i k d behind inside in
        let here : w ≡ get_or ws i d = get_or_read ws i w lt is d in
        let equal : w.at.address ≡ (get_or ws i d).at.address = ap address_of here in
        let high = below_no a (get_or ws i d) (point.1 i d (omega arith) lt) in
        apart (omega (arith, up, equal, high, same))

-- ---- words at rising addresses

abbrev pub Rise : List PlacedWord → Type 0
Rise ws = (i : ℕ) (d : PlacedWord) → i + 1 < length ws → (get_or ws i d).at.address < (get_or ws (i + 1) d).at.address

pub rise_in_order : (ws : List PlacedWord) → Rise ws → IsNonDecreasingBy address_of ws
rise_in_order ws rises = IsNonDecreasingBy-from_all_adjacent address_of ws (λ k d lt. let up = rises k d lt in omega (arith, up))

-- each word leads where the one at its address does
pub own_target : (ws : List PlacedWord) (w : PlacedWord) → Rise ws → Contains ws w → target_at ws w.at.address ≡ Some w.target
own_target ws w rises (k, lt, is) =
    let at : get_or ws k w ≡ w = is in
    sym (found w.at.address ws k w (λ j d before. below j d before) lt (sym at) refl)
  where
    far : (j n : ℕ) (d : PlacedWord) → j + suc n < length ws → (get_or ws j d).at.address < (get_or ws (j + suc n) d).at.address
    far j zero d inside = subst (λ (m : ℕ). (get_or ws j d).at.address < (get_or ws m d).at.address) (omega arith) (rises j d (omega arith))
    far j (suc n) d inside =
        let first = far j n d (omega arith) in
        let last = rises (j + suc n) d (omega arith) in
        let next : j + suc n + 1 ≡ j + suc (suc n) = omega arith in
        let there : (get_or ws (j + suc n) d).at.address < (get_or ws (j + suc (suc n)) d).at.address = subst (λ (m : ℕ). (get_or ws (j + suc n) d).at.address < (get_or ws m d).at.address) next last in
        omega (arith, first, there)

    below : (j : ℕ) (d : PlacedWord) → j < k → (get_or ws j d).at.address < w.at.address
    below j d before =
        let far_off = far j (k - suc j) d (omega (arith, lt, before)) in
        let same : j + suc (k - suc j) ≡ k = omega (arith, before) in
        let there : get_or ws k d ≡ w = sym (get_or_read ws k w lt (sym is) d) in
        subst (λ (v : PlacedWord). (get_or ws j d).at.address < v.at.address) there (subst (λ (m : ℕ). (get_or ws j d).at.address < (get_or ws m d).at.address) same far_off)

-- the first item that passes, of items and of what is made of them
pub positions_agree : {X Y : Type 0} (p : X → Bool) (q : Y → Bool) (f : X → Y) (xs : List X) → ((i : ℕ) (d : X) → i < length xs → p (get_or xs i d) ≡ q (f (get_or xs i d))) → position p xs ≡ position q (map f xs)
positions_agree {X} {Y} p q f xs same =
    ap₂ (λ (n m : ℕ). cond (nat_lt n m) (let o : Option ℕ = Some n in o) None) (prefixes xs same) (sym (length-map xs f))
  where
    prefixes : (ys : List X) → ((i : ℕ) (d : X) → i < length ys → p (get_or ys i d) ≡ q (f (get_or ys i d))) → position_or_len p ys ≡ position_or_len q (map f ys)
    prefixes [] here = refl
    prefixes (y ∷ ys) here =
        ap₂ (λ (b : Bool) (n : ℕ). cond (not b) (1 + n) 0) (here 0 y (omega arith)) (prefixes ys (λ i d lt. here (suc i) d (omega arith)))
