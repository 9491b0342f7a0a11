-- What names have in common at their fronts, and how that goes with their order.
use Rattle.std.proofs.Common.{◌≡◌, ◌≢◌, ◌≤◌, ◌<◌, ◌⊎◌, ℕ, zero, suc, ◌+◌, List, [], ◌∷◌, take, drop, length, get_or, refl, sym, ap, ap₂, subst, ◌∙◌, arith, inl, inr, cond, Ordering}
use Rattle.std.specs.Prelude.{nat_eq, nat_lt}
use Rattle.std.specs.List.{common_prefix_len}
use Rattle.std.specs.declared.cmp.Ordering.TheVariants.{Less, Equal, Greater}
use Rattle.std.specs.Ordering.{nat_cmp, ordering_then}
use Rattle.std.specs.Cmp.Lexicographic.{slice_cmp}
use Rattle.std.proofs.lemmas.Bool.{cond-true, cond-false, cases_Bool, cases_order, eqb-true, eqb-false, eq-eqb, ne_eqb, le-ltb}
use Rattle.std.proofs.lemmas.List.{drop_all}
use Rattle.std.proofs.lemmas.List.Sums.{common_prefix_len-drop_no}

abbrev pub common : List ℕ → List ℕ → ℕ
common a b = common_prefix_len nat_eq a b

common-nil : (a : List ℕ) → common a [] ≡ 0
common-nil [] = refl
common-nil (x ∷ a) = refl

pub common-stops : (a b : List ℕ) (len : ℕ) → len + common (drop len a) (drop len b) ≡ common a b → (length b ≤ len) ⊎ ((len < length a) × (len < length b) × (get_or b len 0 ≢ get_or a len 0)) → len ≡ common a b
common-stops a b len so (inl past) =
    let none : common (drop len a) (drop len b) ≡ 0 = ap (common (drop len a)) (drop_all len b past) ∙ common-nil (drop len a) in omega (arith, so, none)
common-stops a b len so (inr differ) =
    let none = common_prefix_len-drop_no nat_eq a b len 0 0 differ.0 differ.1 (ne_eqb (get_or a len 0) (get_or b len 0) (λ e. differ.2 (sym e))) in omega (arith, so, none)

-- the same first byte, and another one
common-same : (x y : ℕ) (a b : List ℕ) → x ≡ y → common (x ∷ a) (y ∷ b) ≡ 1 + common a b
common-same x y a b same = cond-true (nat_eq x y) (1 + common a b) 0 (eq-eqb x y same)

common-other : (x y : ℕ) (a b : List ℕ) → x ≢ y → common (x ∷ a) (y ∷ b) ≡ 0
common-other x y a b other = cond-false (nat_eq x y) (1 + common a b) 0 (ne_eqb x y other)

pub cases_same : (x y : ℕ) → (x ≡ y) ⊎ (x ≢ y)
cases_same x y = elim (cases_Bool (nat_eq x y)) [ inl same ↦ inl (eqb-true x y same) | inr other ↦ inr (eqb-false x y other) ]

-- fronts are the same as far as they are in common
pub common-take : (k : ℕ) (a b : List ℕ) → k ≤ common a b → take k a ≡ take k b
common-take zero a b le = refl
common-take (suc k) [] b le = absurd (omega arith)
common-take (suc k) (x ∷ a) [] le = absurd (omega arith)
common-take (suc k) (x ∷ a) (y ∷ b) le =
    elim (cases_same x y) [
      | inl same ↦ ap₂ (λ (z : ℕ) (l : List ℕ). z ∷ l) same (common-take k a b (omega (arith, common-same x y a b same)))
      | inr other ↦ absurd (omega (arith, common-other x y a b other))
    ]

pub common-least : (k : ℕ) (a b : List ℕ) → k ≤ length a → k ≤ length b → take k a ≡ take k b → k ≤ common a b
common-least zero a b in_a in_b same = omega arith
common-least (suc k) [] b in_a in_b same = absurd (omega arith)
common-least (suc k) (x ∷ a) [] in_a in_b same = absurd (omega arith)
common-least (suc k) (x ∷ a) (y ∷ b) in_a in_b same =
    let heads : x ≡ y = ap (λ (l : List ℕ). get_or l 0 0) same in
    omega (arith, common-same x y a b heads, common-least k a b (omega arith) (omega arith) (ap (λ (l : List ℕ). drop 1 l) same))

-- behind what they have in common the bytes differ
pub common-differs : (a b : List ℕ) → common a b < length a → common a b < length b → get_or a (common a b) 0 ≢ get_or b (common a b) 0
common-differs [] b in_a in_b same = omega arith
common-differs (x ∷ a) [] in_a in_b same = omega arith
common-differs (x ∷ a) (y ∷ b) in_a in_b same =
    elim (cases_same x y) [
      | inl heads ↦
          let e : common (x ∷ a) (y ∷ b) ≡ suc (common a b) = omega (arith, common-same x y a b heads) in
          common-differs a b (omega (arith, e)) (omega (arith, e)) (subst (λ (n : ℕ). get_or (x ∷ a) n 0 ≡ get_or (y ∷ b) n 0) e same)
      | inr other ↦ other (subst (λ (n : ℕ). get_or (x ∷ a) n 0 ≡ get_or (y ∷ b) n 0) (common-other x y a b other) same)
    ]

pub common-all : (a : List ℕ) → common a a ≡ length a
common-all [] = refl
common-all (x ∷ a) = common-same x x a a refl ∙ (let e = common-all a in omega (arith, e))

-- order
cmp_then : (x y : ℕ) (a b : List ℕ) → slice_cmp nat_cmp (x ∷ a) (y ∷ b) ≡ Less → (x < y) ⊎ ((x ≡ y) × (slice_cmp nat_cmp a b ≡ Less))
cmp_then x y a b less =
    elim (cases_order x y) [
      | inl same ↦ inr (same, sym (then_equal (cmp_equal x y same)) ∙ less)
      | inr (inl below) ↦ inl below
      | inr (inr above) ↦ absurd (let e = sym (then_greater (cmp_greater x y above)) ∙ less in cc)
    ]
  where
    cmp_equal : (x y : ℕ) → x ≡ y → nat_cmp x y ≡ Equal
    cmp_equal x y same =
        cond-false (nat_lt x y) Less (cond (nat_eq x y) Equal Greater) (le-ltb x y (omega arith)) ∙ cond-true (nat_eq x y) Equal Greater (eq-eqb x y same)

    cmp_greater : (x y : ℕ) → y < x → nat_cmp x y ≡ Greater
    cmp_greater x y above =
        cond-false (nat_lt x y) Less (cond (nat_eq x y) Equal Greater) (le-ltb x y (omega arith)) ∙ cond-false (nat_eq x y) Equal Greater (ne_eqb x y (omega arith))

    then_equal : nat_cmp x y ≡ Equal → slice_cmp nat_cmp (x ∷ a) (y ∷ b) ≡ slice_cmp nat_cmp a b
    then_equal is = ap (λ (o : Ordering). ordering_then o (slice_cmp nat_cmp a b)) is

    then_greater : nat_cmp x y ≡ Greater → slice_cmp nat_cmp (x ∷ a) (y ∷ b) ≡ Greater
    then_greater is = ap (λ (o : Ordering). ordering_then o (slice_cmp nat_cmp a b)) is

-- the first bytes behind equal fronts rise
pub rising_bytes : (d : ℕ) (a b : List ℕ) → d < length a → d < length b → take d a ≡ take d b → slice_cmp nat_cmp a b ≡ Less → get_or a d 0 ≤ get_or b d 0
rising_bytes d [] b in_a in_b same less = absurd (omega arith)
rising_bytes d (x ∷ a) [] in_a in_b same less = absurd (omega arith)
rising_bytes zero (x ∷ a) (y ∷ b) in_a in_b same less = elim (cmp_then x y a b less) [ inl below ↦ omega arith | inr equal ↦ omega (arith, equal.0) ]
rising_bytes (suc d) (x ∷ a) (y ∷ b) in_a in_b same less =
    let heads : x ≡ y = ap (λ (l : List ℕ). get_or l 0 0) same in
    elim (cmp_then x y a b less) [
      | inl below ↦ absurd (omega (arith, heads))
      | inr equal ↦ rising_bytes d a b (omega arith) (omega arith) (ap (λ (l : List ℕ). drop 1 l) same) equal.1
    ]

-- a front stands before
pub front_first : (a : List ℕ) (k : ℕ) → slice_cmp nat_cmp a (take k a) ≢ Less
front_first [] k less = front_nil k less
  where
    front_nil : (k : ℕ) → slice_cmp nat_cmp [] (take k []) ≢ Less
    front_nil zero less = cc
    front_nil (suc k) less = cc
front_first (x ∷ a) zero less = cc
front_first (x ∷ a) (suc k) less =
    elim (cmp_then x x a (take k a) less) [ inl below ↦ omega arith | inr equal ↦ front_first a k equal.1 ]

-- of three names in order, the first has no more in common with the last than with the one between
pub common-falls : (a b c : List ℕ) → slice_cmp nat_cmp a b ≡ Less → slice_cmp nat_cmp b c ≡ Less → common a c ≤ common a b
common-falls [] b c first second = omega arith
common-falls (x ∷ a) [] c first second = absurd (cc)
common-falls (x ∷ a) (y ∷ b) [] first second = omega arith
common-falls (x ∷ a) (y ∷ b) (z ∷ c) first second =
    elim (cases_same x z) [
      | inl same ↦
          elim (cmp_then x y a b first) [
            | inl below ↦ elim (cmp_then y z b c second) [ inl later ↦ absurd (omega (arith, same)) | inr equal ↦ absurd (omega (arith, same, equal.0)) ]
            | inr equal ↦
                elim (cmp_then y z b c second) [
                  | inl later ↦ absurd (omega (arith, same, equal.0))
                  | inr equal' ↦ omega (arith, common-same x z a c same, common-same x y a b equal.0, common-falls a b c equal.1 equal'.1)
                ]
          ]
      | inr other ↦ omega (arith, common-other x z a c other)
    ]

-- what is known to be in common need not be compared
pub common-from : (d : ℕ) (a b : List ℕ) → d ≤ length a → d ≤ length b → take d a ≡ take d b → d + common (drop d a) (drop d b) ≡ common a b
common-from zero a b in_a in_b same = omega arith
common-from (suc d) [] b in_a in_b same = absurd (omega arith)
common-from (suc d) (x ∷ a) [] in_a in_b same = absurd (omega arith)
common-from (suc d) (x ∷ a) (y ∷ b) in_a in_b same =
    let heads : x ≡ y = ap (λ (l : List ℕ). get_or l 0 0) same in
    omega (arith, common-same x y a b heads, common-from d a b (omega arith) (omega arith) (ap (λ (l : List ℕ). drop 1 l) same))
