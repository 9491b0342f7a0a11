-- The least of places, pages one after the other, and words that overlap or stand in order in two parts.
use Rattle.std.proofs.Common.{◌≡◌, ◌<◌, ◌≤◌, ℕ, zero, suc, ◌+◌, ◌*◌, List, [], ◌∷◌, ◌++◌, length, take, drop, get_or, sym, ap, ap₂, subst, refl, inl, inr, ◌∙◌, arith, cond, Bool, true, false}
use Rattle.std.specs.Prelude.{nat_eq, nat_lt, nat_le, ◌&&◌, ◌||◌, filter, min, unwrap_or, Option, Some, None, if◌then◌else◌}
use Rattle.std.specs.List.{list_any}
use Rattle.std.proofs.lemmas.Bool.{eq-eqb, ne_eqb, le-ltb, lt-leb, cases_eq, cases_lt, and_right, and_left, false≢true, or_right}
use Rattle.std.proofs.lemmas.List.{append-nil, append_assoc, length-take-le, take-append-drop}
use Rattle.std.proofs.Math.Seq.{take-suc}
use Rattle.std.proofs.Math.Bool.{or-false}
use Rattle.std.proofs.lemmas.List.Elements.{filter-append}
use Rattle.std.proofs.lemmas.List.Folds.{list_any-append}
use Rattle.slide_chain.specs.Chains.{each_page, in_order, overlapping, lowest}
use Rattle.slide_chain.proofs.ListLaws.{drop-at}
use Rattle.slide_chain.proofs.MarkLaws.{AllOf, AllOf-map, lowest-is}
use Rattle.slide_chain.proofs.SieveLaws.{all-filter}
use Rattle.slide_chain.proofs.PageLaws.{filter-none, AllOf-append}

-- ---- the least of places

-- what the least of places is
abbrev pub LeastOf : List ℕ → Option ℕ → Type 0
LeastOf xs None = xs ≡ []
LeastOf xs (Some a) = (list_any (nat_eq a) xs ≡ true) × AllOf (λ x. a ≤ x) xs

pub lowest-cons : (x : ℕ) (xs : List ℕ) (o : Option ℕ) → LeastOf xs o → LeastOf (x ∷ xs) (Some (min x (unwrap_or o x)))
lowest-cons x xs None none =
    let same : min x x ≡ x = omega arith in (
      ap (λ (m : ℕ). nat_eq m x || list_any (nat_eq m) xs) same ∙ ap (λ (b : Bool). b || list_any (nat_eq x) xs) (eq-eqb x x refl),
      (omega arith, subst (AllOf (λ y. min x x ≤ y)) (sym none) tt),
    )
lowest-cons x xs (Some b) (there, all) =
    elim (cases_lt b x) [
      | inl less ↦
          let is : min x b ≡ b = omega (arith, less) in
          subst (λ (m : ℕ). (nat_eq m x || list_any (nat_eq m) xs ≡ true) × ((m ≤ x) × AllOf (λ y. m ≤ y) xs)) (sym is) (or_right (nat_eq b x) (list_any (nat_eq b) xs) there, (omega (arith, less), all))
      | inr more ↦
          let is : min x b ≡ x = omega (arith, more) in
          subst (λ (m : ℕ). (nat_eq m x || list_any (nat_eq m) xs ≡ true) × ((m ≤ x) × AllOf (λ y. m ≤ y) xs)) (sym is)
          (ap (λ (t : Bool). t || list_any (nat_eq x) xs) (eq-eqb x x refl), (omega arith, AllOf-map (λ y. b ≤ y) (λ y. x ≤ y) xs (λ y le. omega (arith, le, more)) all))
    ]

pub lowest-tells : (xs : List ℕ) → LeastOf xs (lowest xs)
unfolding lowest
lowest-tells [] = refl
lowest-tells (x ∷ xs) = lowest-cons x xs (lowest xs) (lowest-tells xs)

-- what holds of all holds of one that is there
pub any-all : (P : ℕ → Type 0) (a : ℕ) (xs : List ℕ) → list_any (nat_eq a) xs ≡ true → AllOf P xs → P a
any-all P a [] there all = absurd (false≢true there)
any-all P a (x ∷ xs) there all =
    elim (cases_eq a x) [
      | inl same ↦ subst P (sym same) all.0
      | inr other ↦ any-all P a xs (ap (λ (b : Bool). b || list_any (nat_eq a) xs) (sym (ne_eqb a x other)) ∙ there) all.1
    ]

pub lowest-there : (a : ℕ) (xs : List ℕ) → lowest xs ≡ Some a → LeastOf xs (Some a)
lowest-there a xs is = subst (LeastOf xs) is (lowest-tells xs)

-- places that lie behind don't change the least
pub lowest-first : (a : ℕ) (xs ys : List ℕ) → lowest xs ≡ Some a → AllOf (λ y. a ≤ y) ys → lowest (xs ++ ys) ≡ Some a
lowest-first a xs ys is behind =
    let tells : LeastOf xs (Some a) = lowest-there a xs is in
    lowest-is a (xs ++ ys) (list_any-append (nat_eq a) xs ys ∙ ap (λ (b : Bool). b || list_any (nat_eq a) ys) tells.0) (AllOf-append (λ y. a ≤ y) xs ys tells.1 behind)

pub lowest-under : (P : ℕ → Type 0) (a : ℕ) (xs : List ℕ) → lowest xs ≡ Some a → AllOf P xs → P a
lowest-under P a xs is all = any-all P a xs (lowest-there a xs is).0 all

-- ---- pages

pub each_page-append : (f : ℕ → ℕ → List ℕ) (p : ℕ) (xs ys : List ℕ) → each_page f p (xs ++ ys) ≡ each_page f p xs ++ each_page f (p + 4096 * length xs) ys
unfolding each_page
each_page-append f p [] ys =
    let same : p ≡ p + 4096 * 0 = omega arith in
    ap (λ (q : ℕ). each_page f q ys) same
each_page-append f p (x ∷ xs) ys =
    let same : p + 4096 + 4096 * length xs ≡ p + 4096 * length (x ∷ xs) = omega arith in
    ap (λ (l : List ℕ). f p x ++ l) (each_page-append f (p + 4096) xs ys ∙ ap (λ (q : ℕ). each_page f (p + 4096) xs ++ each_page f q ys) same)
    ∙ sym (append_assoc (f p x) (each_page f (p + 4096) xs) (each_page f (p + 4096 * length (x ∷ xs)) ys))

pub each_page-above : (f : ℕ → ℕ → List ℕ) → ((page start : ℕ) → AllOf (λ x. page ≤ x) (f page start)) → (p : ℕ) (xs : List ℕ) → AllOf (λ x. p ≤ x) (each_page f p xs)
unfolding each_page
each_page-above f above p [] = tt
each_page-above f above p (x ∷ xs) =
    AllOf-append (λ y. p ≤ y) (f p x) (each_page f (p + 4096) xs) (above p x) (AllOf-map (λ y. p + 4096 ≤ y) (λ y. p ≤ y) (each_page f (p + 4096) xs) (λ y le. omega (arith, le)) (each_page-above f above (p + 4096) xs))

pub each_page-below : (f : ℕ → ℕ → List ℕ) → ((page start : ℕ) → AllOf (λ x. x ≤ page + 0xFF8) (f page start)) → (p : ℕ) (xs : List ℕ) → AllOf (λ x. x + 8 ≤ p + 4096 * length xs) (each_page f p xs)
unfolding each_page
each_page-below f below p [] = tt
each_page-below f below p (x ∷ xs) =
    AllOf-append (λ y. y + 8 ≤ p + 4096 * length (x ∷ xs)) (f p x) (each_page f (p + 4096) xs)
    (AllOf-map (λ y. y ≤ p + 0xFF8) (λ y. y + 8 ≤ p + 4096 * length (x ∷ xs)) (f p x) (λ y le. omega (arith, le)) (below p x))
    (AllOf-map (λ y. y + 8 ≤ p + 4096 + 4096 * length xs) (λ y. y + 8 ≤ p + 4096 * length (x ∷ xs)) (each_page f (p + 4096) xs) (λ y le. omega (arith, le)) (each_page-below f below (p + 4096) xs))

-- one page more
pub each_page-push : (f : ℕ → ℕ → List ℕ) (xs : List ℕ) (i : ℕ) → i < length xs → each_page f 0 (take (i + 1) xs) ≡ each_page f 0 (take i xs) ++ f (i * 4096) (get_or xs i 0)
unfolding each_page
each_page-push f xs i within =
    let one : i + 1 ≡ suc i = omega arith in
    let place : 0 + 4096 * length (take i xs) ≡ i * 4096 = omega (arith, length-take-le i xs (omega arith)) in
    ap (λ (n : ℕ). each_page f 0 (take n xs)) one
    ∙ (ap (each_page f 0) (take-suc xs i 0 within)
    ∙ (each_page-append f 0 (take i xs) (get_or xs i 0 ∷ [])
    ∙ ap (λ (l : List ℕ). each_page f 0 (take i xs) ++ l) (append-nil (f (0 + 4096 * length (take i xs)) (get_or xs i 0)) ∙ ap (λ (q : ℕ). f q (get_or xs i 0)) place)))

pub each_page-split : (f : ℕ → ℕ → List ℕ) (xs : List ℕ) (i : ℕ) → i < length xs
    → each_page f 0 xs ≡ each_page f 0 (take i xs) ++ (f (i * 4096) (get_or xs i 0) ++ each_page f (i * 4096 + 4096) (drop (i + 1) xs))
unfolding each_page
each_page-split f xs i within =
    let place : 0 + 4096 * length (take i xs) ≡ i * 4096 = omega (arith, length-take-le i xs (omega arith)) in
    ap (each_page f 0) (sym (take-append-drop i xs) ∙ ap (λ (l : List ℕ). take i xs ++ l) (drop-at xs i within))
    ∙ (each_page-append f 0 (take i xs) (get_or xs i 0 ∷ drop (i + 1) xs)
    ∙ ap (λ (q : ℕ). each_page f 0 (take i xs) ++ (f q (get_or xs i 0) ++ each_page f (q + 4096) (drop (i + 1) xs))) place)

-- ---- overlaps of words in two parts

pub filter-same : (p q : ℕ → Bool) (xs : List ℕ) → AllOf (λ x. p x ≡ q x) xs → filter p xs ≡ filter q xs
filter-same p q [] same = refl
filter-same p q (x ∷ xs) same = ap₂ (λ (b : Bool) (l : List ℕ). if b then x ∷ l else l) same.0 (filter-same p q xs same.1)

abbrev pub near : ℕ → ℕ → Bool
near a b = nat_le a b && nat_lt b (a + 8)

pub overlapping-append : (end : ℕ) (xs ys : List ℕ) → AllOf (λ x. x + 8 ≤ end) xs → AllOf (λ y. end ≤ y) ys → overlapping (xs ++ ys) ≡ overlapping xs ++ overlapping ys
unfolding overlapping
overlapping-append end xs ys before behind =
    filter-append (λ a. nat_lt 1 (length (filter (near a) (xs ++ ys)))) xs ys
    ∙ ap₂ (λ (l r : List ℕ). l ++ r)
    (filter-same (λ a. nat_lt 1 (length (filter (near a) (xs ++ ys)))) (λ a. nat_lt 1 (length (filter (near a) xs))) xs
    (AllOf-map (λ x. x + 8 ≤ end) (λ x. nat_lt 1 (length (filter (near x) (xs ++ ys))) ≡ nat_lt 1 (length (filter (near x) xs))) xs
    (λ x le. ap (λ (l : List ℕ). nat_lt 1 (length l)) (filter-append (near x) xs ys
    ∙ (ap (λ (l : List ℕ). filter (near x) xs ++ l)
    (filter-none (near x) ys (AllOf-map (λ y. end ≤ y) (λ y. near x y ≡ false) ys (λ y above. and_right (nat_le x y) (nat_lt y (x + 8)) (le-ltb y (x + 8) (omega (arith, le, above)))) behind))
    ∙ append-nil (filter (near x) xs)))) before))
    (filter-same (λ a. nat_lt 1 (length (filter (near a) (xs ++ ys)))) (λ a. nat_lt 1 (length (filter (near a) ys))) ys
    (AllOf-map (λ y. end ≤ y) (λ y. nat_lt 1 (length (filter (near y) (xs ++ ys))) ≡ nat_lt 1 (length (filter (near y) ys))) ys
    (λ y above. ap (λ (l : List ℕ). nat_lt 1 (length l)) (filter-append (near y) xs ys
    ∙ ap (λ (l : List ℕ). l ++ filter (near y) ys)
    (filter-none (near y) xs (AllOf-map (λ x. x + 8 ≤ end) (λ x. near y x ≡ false) xs (λ x le. and_left (nat_le y x) (nat_lt x (y + 8)) (lt-leb y x (omega (arith, le, above)))) before)))) behind))

pub overlapping-under : (P : ℕ → Type 0) (xs : List ℕ) → AllOf P xs → AllOf P (overlapping xs)
unfolding overlapping
overlapping-under P xs all =
    all-filter P (λ a. nat_lt 1 (length (filter (near a) xs))) xs (AllOf-map P (λ x. nat_lt 1 (length (filter (near x) xs)) ≡ true → P x) xs (λ x holds passes. holds) all)

-- ---- order of words in two parts

pub in_order-split : (l : List ℕ) (m n at : ℕ) → in_order l (m + n) at ≡ in_order l m at ++ in_order l n (at + 4 * m)
unfolding in_order
in_order-split l zero n at =
    let none : 0 + n ≡ n = omega arith in
    let same : at ≡ at + 4 * 0 = omega arith in
    ap₂ (in_order l) none same
in_order-split l (suc m) n at =
    let one : suc m + n ≡ suc (m + n) = omega arith in
    let place : at + 4 + 4 * m ≡ at + 4 * suc m = omega arith in
    let later : in_order l (m + n) (at + 4) ≡ in_order l m (at + 4) ++ in_order l n (at + 4 * suc m) = in_order-split l m n (at + 4) ∙ ap (λ (p : ℕ). in_order l m (at + 4) ++ in_order l n p) place in
    ap (λ (k : ℕ). in_order l k at) one
    ∙ elim (list_any (nat_eq at) l) as (λ b. (cond b (at ∷ in_order l (m + n) (at + 4)) (in_order l (m + n) (at + 4))) ≡ (cond b (at ∷ in_order l m (at + 4)) (in_order l m (at + 4))) ++ in_order l n (at + 4 * suc m)) [
      | true ↦ ap (λ (r : List ℕ). at ∷ r) later
      | false ↦ later
    ]

pub any-none : (p : ℕ → Bool) (xs : List ℕ) → AllOf (λ x. p x ≡ false) xs → list_any p xs ≡ false
any-none p [] none = refl
any-none p (x ∷ xs) none = ap₂ (λ (a b : Bool). a || b) none.0 (any-none p xs none.1)

pub in_order-left : (xs ys : List ℕ) (n at end : ℕ) → at + 4 * n ≤ end → AllOf (λ y. end ≤ y) ys → in_order (xs ++ ys) n at ≡ in_order xs n at
unfolding in_order
in_order-left xs ys zero at end le behind = refl
in_order-left xs ys (suc n) at end le behind =
    let none : list_any (nat_eq at) ys ≡ false = any-none (nat_eq at) ys (AllOf-map (λ y. end ≤ y) (λ y. nat_eq at y ≡ false) ys (λ y above. ne_eqb at y (λ e. omega (arith, e, above, le))) behind) in
    ap₂ (λ (b : Bool) (l : List ℕ). if b then at ∷ l else l)
    (list_any-append (nat_eq at) xs ys ∙ (ap (λ (b : Bool). list_any (nat_eq at) xs || b) none ∙ or-false (list_any (nat_eq at) xs)))
    (in_order-left xs ys n (at + 4) end (omega (arith, le)) behind)

pub in_order-right : (xs ys : List ℕ) (n at end : ℕ) → end ≤ at → AllOf (λ x. x + 8 ≤ end) xs → in_order (xs ++ ys) n at ≡ in_order ys n at
unfolding in_order
in_order-right xs ys zero at end le before = refl
in_order-right xs ys (suc n) at end le before =
    let none : list_any (nat_eq at) xs ≡ false = any-none (nat_eq at) xs (AllOf-map (λ x. x + 8 ≤ end) (λ x. nat_eq at x ≡ false) xs (λ x under. ne_eqb at x (λ e. omega (arith, e, under, le))) before) in
    ap₂ (λ (b : Bool) (l : List ℕ). if b then at ∷ l else l) (list_any-append (nat_eq at) xs ys ∙ ap (λ (b : Bool). b || list_any (nat_eq at) ys) none) (in_order-right xs ys n (at + 4) end (omega (arith, le)) before)

pub in_order-append : (xs ys : List ℕ) (i : ℕ) → AllOf (λ x. x + 8 ≤ i * 4096) xs → AllOf (λ y. i * 4096 ≤ y) ys
    → in_order (xs ++ ys) (1024 * (i + 1)) 0 ≡ in_order xs (1024 * i) 0 ++ in_order ys 1024 (i * 4096)
in_order-append xs ys i before behind =
    let count : 1024 * (i + 1) ≡ 1024 * i + 1024 = omega arith in
    let place : 0 + 4 * (1024 * i) ≡ i * 4096 = omega arith in
    ap (λ (n : ℕ). in_order (xs ++ ys) n 0) count
    ∙ (in_order-split (xs ++ ys) (1024 * i) 1024 0
    ∙ ap₂ (λ (l r : List ℕ). l ++ r) (in_order-left xs ys (1024 * i) 0 (i * 4096) (omega arith) behind)
    (ap (in_order (xs ++ ys) 1024) place ∙ in_order-right xs ys 1024 (i * 4096) (i * 4096) (omega arith) before))
