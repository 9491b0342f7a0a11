-- What is found by halving in a list that rises by a key.
use Rattle.std.proofs.Common.{◌≡◌, ◌≤◌, ◌<◌, ℕ, true, false, nat_eq, nat_lt, Some, None, List, length, get_or, sym, ap, ◌∙◌, subst, arith, inl, inr}
use Rattle.std.specs.Prelude.{find, slice_get}
use Rattle.std.specs.List.{position_or_len}
use Rattle.std.specs.List.Sorted.{IsPartitionedBy, IsPartitionPoint}
use Rattle.std.proofs.lemmas.Bool.{cases_lt, ltb-true, lt-ltb, eq-eqb, ne_eqb}
use Rattle.std.proofs.lemmas.Bool.Decides.{nat_tests}
use Rattle.std.proofs.lemmas.List.Folds.{find_at}
use Rattle.std.proofs.lemmas.List.Sums.{position_or_len_is}
use Rattle.std.proofs.lemmas.Option.{slice_get-get_or, slice_get_past}

module _ {X : Type 0} (key : X → ℕ) (xs : List X) (rises : (i j : ℕ) (d : X) → i < j → j < length xs → key (get_or xs i d) < key (get_or xs j d)) (k : ℕ) where
  pub parted : IsPartitionedBy (λ (x : X). nat_lt (key x) k) xs
  parted i j d le lt is = elim (cases_lt i j) [
    | inl before ↦
        let high : key (get_or xs j d) < k = ltb-true (key (get_or xs j d)) k is in
        lt-ltb (key (get_or xs i d)) k (omega (arith, rises i j d before lt, high))
    | inr same ↦ let e : i ≡ j = omega (arith, le, same) in subst (λ (m : ℕ). nat_lt (key (get_or xs m d)) k ≡ true) (sym e) is
  ]

  module _ (n : ℕ) (point : IsPartitionPoint (λ (x : X). nat_lt (key x) k ≡ true) (λ (x : X). nat_lt (key x) k ≡ false) xs n) where
    low : (i : ℕ) (d : X) → i < n → nat_eq (key (get_or xs i d)) k ≡ false
    low i d lt =
        let under : key (get_or xs i d) < k = ltb-true (key (get_or xs i d)) k (point.0 i d (omega arith) lt) in
        ne_eqb (key (get_or xs i d)) k (λ same. omega (arith, under, same))

    pub found : (x : X) → n < length xs → x ≡ get_or xs n x → key x ≡ k → find (λ (y : X). nat_eq (key y) k) xs ≡ Some x
    found x inside at is =
        let here : nat_eq (key (get_or xs n x)) k ≡ true = sym (ap (λ (y : X). nat_eq (key y) k) at) ∙ eq-eqb (key x) k is in
        let first : position_or_len (λ (y : X). nat_eq (key y) k) xs ≡ n =
        position_or_len_is (λ (y : X). nat_eq (key y) k) xs n x (omega arith) (λ i lt. low i x lt) (λ _. here) in
        find_at (λ (y : X). nat_eq (key y) k) xs ∙ (ap (λ (m : ℕ). slice_get xs m) first ∙ (slice_get-get_or xs n x inside ∙ ap (λ (y : X). Some y) (sym at)))

    none_at : (d : X) → n ≤ length xs → ((i : ℕ) → n ≤ i → i < length xs → nat_eq (key (get_or xs i d)) k ≡ false) → find (λ (y : X). nat_eq (key y) k) xs ≡ None
    none_at d bound behind =
        let all : position_or_len (λ (y : X). nat_eq (key y) k) xs ≡ length xs =
        position_or_len_is (λ (y : X). nat_eq (key y) k) xs (length xs) d (omega arith)
        (λ i lt. elim (cases_lt i n) [ inl under ↦ low i d under | inr over ↦ behind i over lt ]) (λ lt. absurd (omega (arith, lt))) in
        find_at (λ (y : X). nat_eq (key y) k) xs ∙ (ap (λ (m : ℕ). slice_get xs m) all ∙ slice_get_past xs (length xs) (omega arith))

    pub other : (x : X) → n < length xs → x ≡ get_or xs n x → (key x ≡ k → ⊥) → find (λ (y : X). nat_eq (key y) k) xs ≡ None
    other x inside at differs =
        let not_under : nat_lt (key (get_or xs n x)) k ≡ false = point.1 n x (omega arith) inside in
        let from : k ≤ key (get_or xs n x) = grind (arith, nat_tests) in
        let is : key x ≡ key (get_or xs n x) = ap key at in
        none_at x (omega (arith, inside)) (λ i le lt. ne_eqb (key (get_or xs i x)) k (λ same. elim (cases_lt n i) [
          | inl after ↦ omega (arith, rises n i x after lt, from, same)
          | inr here ↦ let e : i ≡ n = omega (arith, le, here) in differs (is ∙ (ap (λ (m : ℕ). key (get_or xs m x)) (sym e) ∙ same))
        ]))

    pub past : (d : X) → length xs ≤ n → n ≤ length xs → find (λ (y : X). nat_eq (key y) k) xs ≡ None
    past d all bound = none_at d bound (λ i le lt. absurd (omega (arith, all, le, lt)))
