-- The least address that clashes, found by going through ascending lists side by side.
use Rattle.std.proofs.Common.{◌≡◌, ◌≤◌, ◌<◌, ◌⊎◌, ◌+◌, ℕ, zero, suc, min, Bool, true, false, ◌||◌, List, [], ◌∷◌, ◌++◌, length, get_or, drop, drop-cons, refl, sym, ap, ◌∙◌, subst, arith, append-nil, inl, inr, Option, Some, None}
use Rattle.std.specs.Prelude.{filter, find}
use Rattle.std.specs.List.{Contains, list_any}
use Rattle.std.specs.List.Sorted.{IsPermutation, IsNonDecreasingBy}
use Rattle.std.proofs.lemmas.Bool.{cond-true, cond-false, cases_Bool, cases_lt, false≢true}
use Rattle.std.proofs.lemmas.Bool.Decides.{nat_tests}
use Rattle.std.proofs.lemmas.List.Sorted.{Contains-permutation, IsPermutation-sym}
use Rattle.dsc_base.specs.declared.rule.Rule.TheVariants.{WordsOverlap}
use Rattle.dsc_base.specs.Refusals.{broken, least}
use Rattle.macho_image.proofs.Unbroken.{broken_none}
use Rattle.macho_image.specs.Order.{is_near}
use Rattle.bind_ops.specs.Clash.{is_skew, in_pairs, clashing, least_of, clash_break, begins_in, first_in}

-- numbers in a list
abbrev pub Has : List ℕ → ℕ → Type 0
Has [] x = ⊥
Has (y ∷ ys) x = (y ≡ x) ⊎ Has ys x

contains_has : (xs : List ℕ) (x k : ℕ) → k < length xs → get_or xs k x ≡ x → Has xs x
contains_has [] x k lt is = absurd (omega arith)
contains_has (y ∷ ys) x zero lt is = inl is
contains_has (y ∷ ys) x (suc k) lt is = inr (contains_has ys x k (omega arith) is)

has_contains : (xs : List ℕ) (x : ℕ) → Has xs x → Contains xs x
has_contains [] x has = absurd has
has_contains (y ∷ ys) x (inl e) = (0, omega arith, e)
has_contains (y ∷ ys) x (inr rest) = let c = has_contains ys x rest in (suc c.0, omega (arith, c.1), c.2)

has_permuted : (xs ys : List ℕ) (x : ℕ) → IsPermutation xs ys → Has xs x → Has ys x
has_permuted xs ys x moved has = let c = Contains-permutation xs ys x moved (has_contains xs x has) in contains_has ys x c.0 c.1 c.2

has_left : (xs ys : List ℕ) (x : ℕ) → Has xs x → Has (xs ++ ys) x
has_left [] ys x has = absurd has
has_left (z ∷ zs) ys x (inl e) = inl e
has_left (z ∷ zs) ys x (inr rest) = inr (has_left zs ys x rest)

has_right : (xs ys : List ℕ) (x : ℕ) → Has ys x → Has (xs ++ ys) x
has_right [] ys x has = has
has_right (z ∷ zs) ys x has = inr (has_right zs ys x has)

has_cases : (xs ys : List ℕ) (x : ℕ) → Has (xs ++ ys) x → Has xs x ⊎ Has ys x
has_cases [] ys x has = inr has
has_cases (z ∷ zs) ys x (inl e) = inl (inl e)
has_cases (z ∷ zs) ys x (inr rest) = elim (has_cases zs ys x rest) [ inl left ↦ inl (inr left) | inr right ↦ inr right ]

has_filter : (p : ℕ → Bool) (xs : List ℕ) (x : ℕ) → Has (filter p xs) x → Has xs x × (p x ≡ true)
has_filter p [] x has = absurd has
has_filter p (y ∷ ys) x has = elim (cases_Bool (p y)) [
  | inl is ↦ kept (has_filter p ys x) (subst (λ (l : List ℕ). Has l x) (cond-true (p y) (y ∷ filter p ys) (filter p ys) is) has) is
  | inr is_not ↦
      let rest = has_filter p ys x (subst (λ (l : List ℕ). Has l x) (cond-false (p y) (y ∷ filter p ys) (filter p ys) is_not) has) in
      (inr rest.0, rest.1)
]
  where
    kept : (Has (filter p ys) x → Has ys x × (p x ≡ true)) → Has (y ∷ filter p ys) x → p y ≡ true → Has (y ∷ ys) x × (p x ≡ true)
    kept others (inl e) is = (inl e, subst (λ (z : ℕ). p z ≡ true) e is)
    kept others (inr later) is = let rest = others later in (inr rest.0, rest.1)

filter_has : (p : ℕ → Bool) (xs : List ℕ) (x : ℕ) → Has xs x → p x ≡ true → Has (filter p xs) x
filter_has p [] x has is = absurd has
filter_has p (y ∷ ys) x (inl e) is =
    let here : p y ≡ true = subst (λ (z : ℕ). p z ≡ true) (sym e) is in
    subst (λ (l : List ℕ). Has l x) (sym (cond-true (p y) (y ∷ filter p ys) (filter p ys) here)) (inl e)
filter_has p (y ∷ ys) x (inr later) is =
    let rest = filter_has p ys x later is in
    elim (cases_Bool (p y)) [
      | inl here ↦ subst (λ (l : List ℕ). Has l x) (sym (cond-true (p y) (y ∷ filter p ys) (filter p ys) here)) (inr rest)
      | inr gone ↦ subst (λ (l : List ℕ). Has l x) (sym (cond-false (p y) (y ∷ filter p ys) (filter p ys) gone)) rest
    ]

any_has : (p : ℕ → Bool) (ys : List ℕ) → list_any p ys ≡ true → (y : ℕ) × Has ys y × (p y ≡ true)
any_has p [] any = absurd (cc)
any_has p (y ∷ ys) any = elim (cases_Bool (p y)) [
  | inl is ↦ (y, inl refl, is)
  | inr is_not ↦
      let rest = any_has p ys (sym (ap (λ (b : Bool). b || list_any p ys) is_not) ∙ any) in
      (rest.0, inr rest.1, rest.2)
]

has_any : (p : ℕ → Bool) (ys : List ℕ) (y : ℕ) → Has ys y → p y ≡ true → list_any p ys ≡ true
has_any p [] y has is = absurd has
has_any p (z ∷ zs) y (inl e) is = ap (λ (b : Bool). b || list_any p zs) (subst (λ (x : ℕ). p x ≡ true) (sym e) is)
has_any p (z ∷ zs) y (inr later) is =
    let rest = has_any p zs y later is in
    elim (cases_Bool (p z)) [
      | inl here ↦ ap (λ (b : Bool). b || list_any p zs) here
      | inr gone ↦ ap (λ (b : Bool). b || list_any p zs) gone ∙ rest
    ]

pair_has : (share : ℕ → ℕ → Bool) (xs ys : List ℕ) (x : ℕ) → Has (in_pairs share xs ys) x → Has xs x × ((y : ℕ) × Has ys y × (share x y ≡ true))
pair_has share xs ys x has = let f = has_filter (λ z. list_any (share z) ys) xs x has in (f.0, any_has (share x) ys f.1)

has_pair : (share : ℕ → ℕ → Bool) (xs ys : List ℕ) (x y : ℕ) → Has xs x → Has ys y → share x y ≡ true → Has (in_pairs share xs ys) x
has_pair share xs ys x y first second is = filter_has (λ z. list_any (share z) ys) xs x first (has_any (share x) ys y second is)

-- the least number of which something is true
abbrev IsLeast : (ℕ → Type 0) → Option ℕ → Type 0
IsLeast P None = (x : ℕ) → P x → ⊥
IsLeast P (Some a) = P a × ((x : ℕ) → P x → a ≤ x)

least_both : (P Q : ℕ → Type 0) (a b : Option ℕ) → IsLeast P a → IsLeast Q b → IsLeast (λ x. P x ⊎ Q x) (least a b)
least_both P Q None None first second = λ x has. elim has [ inl p ↦ first x p | inr q ↦ second x q ]
least_both P Q None (Some b) first second = (inr second.0, λ x has. elim has [ inl p ↦ absurd (first x p) | inr q ↦ second.1 x q ])
least_both P Q (Some a) None first second = (inl first.0, λ x has. elim has [ inl p ↦ first.1 x p | inr q ↦ absurd (second x q) ])
least_both P Q (Some a) (Some b) first second = (one (min a b) refl, λ x has. elim has [ inl p ↦ (let le = first.1 x p in omega arith) | inr q ↦ (let le = second.1 x q in omega arith) ])
  where
    one : (m : ℕ) → m ≡ min a b → P m ⊎ Q m
    one m is = elim (cases_lt b a) [
      | inl lt ↦ let e : b ≡ m = omega arith in inr (subst Q e second.0)
      | inr le ↦ let e : a ≡ m = omega arith in inl (subst P e first.0)
    ]

same_least : (P Q : ℕ → Type 0) (a b : Option ℕ) → IsLeast P a → IsLeast Q b → ((x : ℕ) → P x → (y : ℕ) × Q y × (y ≤ x)) → ((x : ℕ) → Q x → (y : ℕ) × P y × (y ≤ x)) → a ≡ b
same_least P Q None None first second there back = refl
same_least P Q None (Some b) first second there back = let u = back b second.0 in absurd (first u.0 u.1)
same_least P Q (Some a) None first second there back = let u = there a first.0 in absurd (second u.0 u.1)
same_least P Q (Some a) (Some b) first second there back =
    let u = there a first.0 in
    let v = back b second.0 in
    let low = second.1 u.0 u.1 in
    let high = first.1 v.0 v.1 in
    let e : a ≡ b = omega (arith, u.2, v.2, low, high) in
    ap (λ (n : ℕ). let o : Option ℕ = Some n in o) e

least_of_has : (xs : List ℕ) → IsLeast (Has xs) (least_of xs)
least_of_has [] = λ x has. has
least_of_has (y ∷ ys) = least_both (λ (x : ℕ). y ≡ x) (Has ys) (Some y) (least_of ys) (refl, λ x e. omega arith) (least_of_has ys)

-- a number of a list that has one of another list at least so far and less than a word above it
abbrev Low : ℕ → List ℕ → List ℕ → ℕ → Type 0
Low gap xs ys x = Has xs x × ((y : ℕ) × Has ys y × (x + gap ≤ y) × (y < x + 8))

low_of : (gap x : ℕ) (ys : List ℕ) → list_any (begins_in gap x) ys ≡ true → (y : ℕ) × Has ys y × (x + gap ≤ y) × (y < x + 8)
low_of gap x ys any =
    let found = any_has (begins_in gap x) ys any in
    let y = found.0 in
    let is : begins_in gap x y ≡ true = found.2 in
    (y, found.1, grind (arith, nat_tests), grind (arith, nat_tests))

any_low : (gap x y : ℕ) (ys : List ℕ) → Has ys y → x + gap ≤ y → y < x + 8 → list_any (begins_in gap x) ys ≡ true
any_low gap x y ys has low high =
    let is : begins_in gap x y ≡ true = grind (arith, nat_tests) in
    has_any (begins_in gap x) ys y has is

abbrev Ascends : List ℕ → Type 0
Ascends xs = IsNonDecreasingBy (λ (x : ℕ). x) xs

behind : (x : ℕ) (xs : List ℕ) → Ascends (x ∷ xs) → Ascends xs
behind x xs up = λ i j d le lt. up (suc i) (suc j) d (omega arith) (omega arith)

front_least : (x : ℕ) (xs : List ℕ) (y : ℕ) → Ascends (x ∷ xs) → Has xs y → x ≤ y
front_least x [] y up has = absurd has
front_least x (z ∷ zs) y up (inl e) = let le : x ≤ z = up 0 1 0 (omega arith) (omega arith) in omega arith
front_least x (z ∷ zs) y up (inr later) =
    let le : x ≤ z = up 0 1 0 (omega arith) (omega arith) in
    let rest = front_least z zs y (behind x (z ∷ zs) up) later in
    omega arith

first_is_least : (gap : ℕ) (xs ys : List ℕ) → Ascends xs → IsLeast (Low gap xs ys) (first_in gap xs ys)
first_is_least gap [] ys up = λ x low. low.0
first_is_least gap (x ∷ xs) ys up = elim (cases_Bool (list_any (begins_in gap x) ys)) [
  | inl is ↦
      subst (λ (o : Option ℕ). IsLeast (Low gap (x ∷ xs) ys) o) (sym (cond-true (list_any (begins_in gap x) ys) (Some x) (first_in gap xs ys) is))
      ((inl refl, low_of gap x ys is), λ z low. elim low.0 [ inl e ↦ (let f : x ≡ z = e in omega arith) | inr later ↦ front_least x xs z up later ])
  | inr is_not ↦
      subst (λ (o : Option ℕ). IsLeast (Low gap (x ∷ xs) ys) o) (sym (cond-false (list_any (begins_in gap x) ys) (Some x) (first_in gap xs ys) is_not))
      (widened (first_in gap xs ys) is_not (first_is_least gap xs ys (behind x xs up)))
]
  where
    gone : (z : ℕ) → list_any (begins_in gap x) ys ≡ false → Low gap (x ∷ xs) ys z → Low gap xs ys z
    gone z is_not low = elim low.0 [
      | inl e ↦ absurd (false≢true (sym is_not ∙ subst (λ (u : ℕ). list_any (begins_in gap u) ys ≡ true) (sym e) (any_low gap z low.1.0 ys low.1.1 low.1.2 low.1.3)))
      | inr later ↦ (later, low.1)
    ]

    widened : (o : Option ℕ) → list_any (begins_in gap x) ys ≡ false → IsLeast (Low gap xs ys) o → IsLeast (Low gap (x ∷ xs) ys) o
    widened None is_not none = λ z low. none z (gone z is_not low)
    widened (Some a) is_not found = ((inr found.0.0, found.0.1), λ z low. found.1 z (gone z is_not low))

skew_above : (x y : ℕ) → x + 1 ≤ y → y < x + 8 → is_skew x y ≡ true
skew_above x y low high = grind (arith, nat_tests)

near_above : (x y : ℕ) → x + 0 ≤ y → y < x + 8 → is_near x y ≡ true
near_above x y low high = grind (arith, nat_tests)

-- what the tests of pairs say
skew_parts : (x y : ℕ) → is_skew x y ≡ true → (y < x + 8) × (x < y + 8) × (x ≡ y → ⊥)
skew_parts x y is = (grind (arith, nat_tests), grind (arith, nat_tests), λ e. grind (arith, nat_tests))

near_parts : (x y : ℕ) → is_near x y ≡ true → (y < x + 8) × (x < y + 8)
near_parts x y is = (grind (arith, nat_tests), grind (arith, nat_tests))

-- of two lists, the numbers that have one of the other list above them
abbrev LowEither : ℕ → List ℕ → List ℕ → ℕ → Type 0
LowEither gap xs ys x = Low gap xs ys x ⊎ Low gap ys xs x

lower_skew : (xs ys us vs : List ℕ) (x : ℕ) → IsPermutation xs us → IsPermutation ys vs → Has (in_pairs is_skew xs ys) x → (y : ℕ) × LowEither 1 us vs y × (y ≤ x)
lower_skew xs ys us vs x first second has =
    let p = pair_has is_skew xs ys x has in
    let y = p.1.0 in
    let t = skew_parts x y p.1.2 in
    let low = t.0 in
    let high = t.1 in
    elim (cases_lt x y) as (λ _. (z : ℕ) × LowEither 1 us vs z × (z ≤ x)) [
      | inl lt ↦ (x, inl (has_permuted xs us x first p.0, (y, has_permuted ys vs y second p.1.1, omega arith, low)), omega arith)
      | inr le ↦ elim (cases_lt y x) as (λ _. (z : ℕ) × LowEither 1 us vs z × (z ≤ x)) [
        | inl lt ↦ (y, inr (has_permuted ys vs y second p.1.1, (x, has_permuted xs us x first p.0, omega arith, high)), omega arith)
        | inr ge ↦ let e : x ≡ y = omega arith in absurd (t.2 e)
      ]
    ]

lower_near : (xs ys us vs : List ℕ) (x : ℕ) → IsPermutation xs us → IsPermutation ys vs → Has (in_pairs is_near xs ys) x → (y : ℕ) × LowEither 0 us vs y × (y ≤ x)
lower_near xs ys us vs x first second has =
    let p = pair_has is_near xs ys x has in
    let y = p.1.0 in
    let t = near_parts x y p.1.2 in
    let low = t.0 in
    let high = t.1 in
    elim (cases_lt y x) as (λ _. (z : ℕ) × LowEither 0 us vs z × (z ≤ x)) [
      | inl lt ↦ (y, inr (has_permuted ys vs y second p.1.1, (x, has_permuted xs us x first p.0, omega arith, high)), omega arith)
      | inr le ↦ (x, inl (has_permuted xs us x first p.0, (y, has_permuted ys vs y second p.1.1, omega arith, low)), omega arith)
    ]

turned : (gap : ℕ) (us vs : List ℕ) (x : ℕ) → (y : ℕ) × LowEither gap us vs y × (y ≤ x) → (y : ℕ) × LowEither gap vs us y × (y ≤ x)
turned gap us vs x low = (low.0, elim low.1 [ inl a ↦ inr a | inr b ↦ inl b ], low.2)

skew_low : (xs ys us vs : List ℕ) (x : ℕ) → IsPermutation us xs → IsPermutation vs ys → Low 1 us vs x → Has (in_pairs is_skew xs ys) x
skew_low xs ys us vs x first second low =
    has_pair is_skew xs ys x low.1.0 (has_permuted us xs x first low.0) (has_permuted vs ys low.1.0 second low.1.1) (skew_above x low.1.0 low.1.2 low.1.3)

near_low : (xs ys us vs : List ℕ) (x : ℕ) → IsPermutation us xs → IsPermutation vs ys → Low 0 us vs x → Has (in_pairs is_near xs ys) x
near_low xs ys us vs x first second low =
    has_pair is_near xs ys x low.1.0 (has_permuted us xs x first low.0) (has_permuted vs ys low.1.0 second low.1.1) (near_above x low.1.0 low.1.2 low.1.3)

-- ascending lists of the same numbers
pub record IsAscending (xs us : List ℕ) : Type 0 where
  pub moved : IsPermutation xs us
  pub rises : IsNonDecreasingBy (λ (x : ℕ). x) us

abbrev Clashes : List ℕ → List ℕ → List ℕ → List ℕ → ℕ → Type 0
Clashes r b l m x = LowEither 1 r m x ⊎ LowEither 0 b l x

clash_low : (rebases binds lazy r b l m : List ℕ) → IsAscending rebases r → IsAscending binds b → IsAscending lazy l → IsAscending (binds ++ lazy) m
    → (x : ℕ) → Has (clashing rebases binds lazy) x → (y : ℕ) × Clashes r b l m y × (y ≤ x)
unfolding clashing
clash_low rebases binds lazy r b l m rs bs ls ms x has =
    let all = binds ++ lazy in
    let last = in_pairs is_near binds lazy ++ in_pairs is_near lazy binds in
    elim (has_cases (in_pairs is_skew rebases all) (in_pairs is_skew all rebases ++ last) x has) [
      | inl one ↦ skew (lower_skew rebases all r m x rs.moved ms.moved one)
      | inr more ↦ elim (has_cases (in_pairs is_skew all rebases) last x more) [
        | inl two ↦ skew (turned 1 m r x (lower_skew all rebases m r x ms.moved rs.moved two))
        | inr rest ↦ elim (has_cases (in_pairs is_near binds lazy) (in_pairs is_near lazy binds) x rest) [
          | inl three ↦ near (lower_near binds lazy b l x bs.moved ls.moved three)
          | inr four ↦ near (turned 0 l b x (lower_near lazy binds l b x ls.moved bs.moved four))
        ]
      ]
    ]
  where
    skew : (y : ℕ) × LowEither 1 r m y × (y ≤ x) → (y : ℕ) × Clashes r b l m y × (y ≤ x)
    skew low = (low.0, inl low.1, low.2)

    near : (y : ℕ) × LowEither 0 b l y × (y ≤ x) → (y : ℕ) × Clashes r b l m y × (y ≤ x)
    near low = (low.0, inr low.1, low.2)

low_clash : (rebases binds lazy r b l m : List ℕ) → IsAscending rebases r → IsAscending binds b → IsAscending lazy l → IsAscending (binds ++ lazy) m
    → (x : ℕ) → Clashes r b l m x → Has (clashing rebases binds lazy) x
unfolding clashing
low_clash rebases binds lazy r b l m rs bs ls ms x low =
    let all = binds ++ lazy in
    let skew = in_pairs is_skew all rebases in
    let near = in_pairs is_near binds lazy in
    let last = in_pairs is_near lazy binds in
    let to_r = IsPermutation-sym rebases r rs.moved in
    let to_b = IsPermutation-sym binds b bs.moved in
    let to_l = IsPermutation-sym lazy l ls.moved in
    let to_m = IsPermutation-sym all m ms.moved in
    elim low [
      | inl one ↦ elim one [
        | inl a ↦ has_left (in_pairs is_skew rebases all) (skew ++ (near ++ last)) x (skew_low rebases all r m x to_r to_m a)
        | inr a ↦ has_right (in_pairs is_skew rebases all) (skew ++ (near ++ last)) x (has_left skew (near ++ last) x (skew_low all rebases m r x to_m to_r a))
      ]
      | inr two ↦ elim two [
        | inl a ↦ has_right (in_pairs is_skew rebases all) (skew ++ (near ++ last)) x (has_right skew (near ++ last) x (has_left near last x (near_low binds lazy b l x to_b to_l a)))
        | inr a ↦ has_right (in_pairs is_skew rebases all) (skew ++ (near ++ last)) x (has_right skew (near ++ last) x (has_right near last x (near_low lazy binds l b x to_l to_b a)))
      ]
    ]

-- the least of what is found in the four ways is the least that clashes
pub clash_least : (rebases binds lazy r b l m : List ℕ) → IsAscending rebases r → IsAscending binds b → IsAscending lazy l → IsAscending (binds ++ lazy) m
    → (found : Option ℕ) → found ≡ least (least (first_in 1 r m) (first_in 1 m r)) (least (first_in 0 b l) (first_in 0 l b)) → clash_break rebases binds lazy ≡ broken WordsOverlap found
unfolding clash_break
clash_least rebases binds lazy r b l m rs bs ls ms found is =
    let skew = least_both (Low 1 r m) (Low 1 m r) (first_in 1 r m) (first_in 1 m r) (first_is_least 1 r m rs.rises) (first_is_least 1 m r ms.rises) in
    let near = least_both (Low 0 b l) (Low 0 l b) (first_in 0 b l) (first_in 0 l b) (first_is_least 0 b l bs.rises) (first_is_least 0 l b ls.rises) in
    let both = least_both (LowEither 1 r m) (LowEither 0 b l) (least (first_in 1 r m) (first_in 1 m r)) (least (first_in 0 b l) (first_in 0 l b)) skew near in
    let e : least_of (clashing rebases binds lazy) ≡ found =
    same_least (Has (clashing rebases binds lazy)) (Clashes r b l m) (least_of (clashing rebases binds lazy)) (least (least (first_in 1 r m) (first_in 1 m r)) (least (first_in 0 b l) (first_in 0 l b)))
    (least_of_has (clashing rebases binds lazy)) both (clash_low rebases binds lazy r b l m rs bs ls ms)
    (λ x low. (x, low_clash rebases binds lazy r b l m rs bs ls ms x low, omega arith))
    ∙ sym is in
    ap (λ (o : Option ℕ). broken WordsOverlap o) e

-- going through ascending lists side by side
list_none : (p : ℕ → Bool) (ys : List ℕ) → ((k : ℕ) → k < length ys → p (get_or ys k 0) ≡ false) → list_any p ys ≡ false
list_none p [] none = refl
list_none p (y ∷ ys) none = ap (λ (b : Bool). b || list_any p ys) (none 0 (omega arith)) ∙ list_none p ys (λ k lt. none (suc k) (omega arith))

none_begins : (gap low n : ℕ) (ys : List ℕ) → IsNonDecreasingBy (λ (x : ℕ). x) ys → ((k : ℕ) → k < n → get_or ys k 0 < low + gap) → (n < length ys → low + 8 ≤ get_or ys n 0)
    → list_any (begins_in gap low) ys ≡ false
none_begins gap low n ys up passed above = list_none (begins_in gap low) ys (λ k lt. elim (cases_lt k n) [
  | inl before ↦ let below : get_or ys k 0 < low + gap = passed k before in grind (arith, nat_tests)
  | inr from ↦
      let next : low + 8 ≤ get_or ys n 0 = above (omega arith) in
      let rise : get_or ys n 0 ≤ get_or ys k 0 = up n k 0 from lt in
      let past : low + 8 ≤ get_or ys k 0 = omega arith in
      grind (arith, nat_tests)
])

find_next : (p : ℕ → Bool) (xs : List ℕ) (i : ℕ) → i < length xs → p (get_or xs i 0) ≡ false → find p (drop i xs) ≡ find p (drop (i + 1) xs)
find_next p xs i lt none =
    let e : suc i ≡ i + 1 = omega arith in
    ap (λ (l : List ℕ). find p l) (drop-cons xs i 0 lt)
    ∙ (cond-false (p (get_or xs i 0)) (Some (get_or xs i 0)) (find p (drop (suc i) xs)) none ∙ ap (λ (n : ℕ). find p (drop n xs)) e)

-- so many of the lower numbers were passed, and so many of the upper ones lie too low for those that are left
pub record Merging (gap : ℕ) (lower upper : List ℕ) (i next : ℕ) : Type 0 where
  pub within : next ≤ length upper
  pub passed : (k j : ℕ) → k < next → i ≤ j → j < length lower → get_or upper k 0 < get_or lower j 0 + gap
  pub so_far : first_in gap lower upper ≡ find (λ x. list_any (begins_in gap x) upper) (drop i lower)

pub merging_step : (gap : ℕ) (lower upper : List ℕ) (i next further : ℕ) → IsNonDecreasingBy (λ (x : ℕ). x) lower → IsNonDecreasingBy (λ (x : ℕ). x) upper → Merging gap lower upper i next → i < length lower → further ≤ length upper
    → ((k : ℕ) → next ≤ k → k < further → get_or upper k 0 < get_or lower i 0 + gap) → (further < length upper → get_or lower i 0 + 8 ≤ get_or upper further 0) → Merging gap lower upper (i + 1) further
merging_step gap lower upper i next further up rises m lt within low high =
    let passed : (k : ℕ) → k < further → get_or upper k 0 < get_or lower i 0 + gap = λ k less. elim (cases_lt k next) [
      | inl before ↦ m.passed k i before (omega arith) lt
      | inr from ↦ low k from less
    ] in
    record {
      within = within;
      passed = λ k j less le inside. let here = passed k less in let rise : get_or lower i 0 ≤ get_or lower j 0 = up i j 0 (omega arith) inside in omega arith;
      so_far = m.so_far ∙ find_next (λ x. list_any (begins_in gap x) upper) lower i lt (none_begins gap (get_or lower i 0) further upper rises passed high);
    }

-- what sorting gives
pub ascending : (xs us vs : List ℕ) → IsPermutation xs us → IsNonDecreasingBy (λ (x : ℕ). x) us → vs ≡ us → IsAscending xs vs
ascending xs us vs moved rises same = subst (λ (l : List ℕ). IsAscending xs l) (sym same) (record { moved = moved; rises = rises })

pub ascending_alone : (xs us vs : List ℕ) → IsPermutation (xs ++ []) us → IsNonDecreasingBy (λ (x : ℕ). x) us → vs ≡ us → IsAscending xs vs
ascending_alone xs us vs moved rises same = ascending xs us vs (subst (λ (l : List ℕ). IsPermutation l us) (append-nil xs) moved) rises same

-- where nothing clashes, a rebase and a bind of either stream are one word or apart, and a bind and a lazy bind are apart
none_clash : (rebases binds lazy : List ℕ) → clash_break rebases binds lazy ≡ None → (x : ℕ) → Has (clashing rebases binds lazy) x → ⊥
unfolding clash_break
none_clash rebases binds lazy none x has =
    let least_is = broken_none WordsOverlap (least_of (clashing rebases binds lazy)) none in
    let all : IsLeast (Has (clashing rebases binds lazy)) None = subst (λ (o : Option ℕ). IsLeast (Has (clashing rebases binds lazy)) o) least_is (least_of_has (clashing rebases binds lazy)) in
    all x has

pub never_skew : (rebases binds lazy : List ℕ) → clash_break rebases binds lazy ≡ None → (x y : ℕ) → Contains rebases x → Contains (binds ++ lazy) y → is_skew x y ≡ false
unfolding clashing
never_skew rebases binds lazy none x y first second = elim (cases_Bool (is_skew x y)) [
  | inl is ↦
      let all = binds ++ lazy in
      let last = in_pairs is_near binds lazy ++ in_pairs is_near lazy binds in
      let pair = has_pair is_skew rebases all x y (contains_has rebases x first.0 first.1 first.2) (contains_has all y second.0 second.1 second.2) is in
      absurd (none_clash rebases binds lazy none x (has_left (in_pairs is_skew rebases all) (in_pairs is_skew all rebases ++ last) x pair))
  | inr is_not ↦ is_not
]

pub never_near : (rebases binds lazy : List ℕ) → clash_break rebases binds lazy ≡ None → (x y : ℕ) → Contains binds x → Contains lazy y → is_near x y ≡ false
unfolding clashing
never_near rebases binds lazy none x y first second = elim (cases_Bool (is_near x y)) [
  | inl is ↦
      let all = binds ++ lazy in
      let skew = in_pairs is_skew all rebases in
      let near = in_pairs is_near binds lazy in
      let last = in_pairs is_near lazy binds in
      let pair = has_pair is_near binds lazy x y (contains_has binds x first.0 first.1 first.2) (contains_has lazy y second.0 second.1 second.2) is in
      absurd (none_clash rebases binds lazy none x (has_right (in_pairs is_skew rebases all) (skew ++ (near ++ last)) x (has_right skew (near ++ last) x (has_left near last x pair))))
  | inr is_not ↦ is_not
]
