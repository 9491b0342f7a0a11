-- Laws of the counters of a page: what a step adds, and what they say of the places that they count.
use Rattle.std.proofs.Common.{◌≡◌, ◌<◌, ◌≤◌, ◌⊎◌, ℕ, zero, suc, ◌+◌, ◌*◌, ◌%◌, List, [], ◌∷◌, ◌++◌, length, drop, get_or, set, sym, ap, ap₂, subst, refl, inl, inr, ◌∙◌, arith, cond, Bool, true, false}
use Rattle.std.specs.Prelude.{nat_eq, nat_lt, ◌||◌, filter, Option, Some, None, min, unwrap_or, if◌then◌else◌}
use Rattle.std.specs.List.{flat_map, list_any}
use Rattle.std.proofs.lemmas.Bool.{eq-eqb, ne_eqb, eqb-true, lt-ltb, le-ltb, cond-true, cond-false, cases_eq, cases_lt, cases_Bool, false≢true}
use Rattle.std.proofs.Math.Nat.{add-mul, zero-mul, mul-zero, mul-one, one-mul}
use Rattle.std.proofs.lemmas.List.{get_or-set_same, get_or-set_other, get_or_past, drop_all}
use Rattle.slide_chain.proofs.ListLaws.{drop-at}
use Rattle.slide_chain.proofs.MadeLaws.{marked-large, marked-small}
use Rattle.slide_chain.specs.Chains.{is_marked, extra_heads, heads, lowest}
use Rattle.slide_chain.specs.Steps.Marks.{weight, counted, AreCounted}

zero_more : (n : ℕ) → n ≡ 0 + n
zero_more n = omega arith

zero_end : (n : ℕ) → n + 0 ≡ 0 + n
zero_end n = omega arith

sums : (a b c : ℕ) → a + (b + c) ≡ a + b + c
sums a b c = omega arith

spread : (a v f rest : ℕ) → (a + v) * f + rest ≡ a * f + rest + v * f
spread a v f rest =
    let product : (a + v) * f ≡ a * f + v * f = add-mul a v f in
    omega (arith, product)

factor_left : (a b : ℕ) → 0 < a * b → 0 < a
factor_left a b some =
    elim (cases_eq a 0) [
      | inl none ↦
          let gone : a * b ≡ 0 = ap (λ (x : ℕ). x * b) none ∙ zero-mul b in
          absurd (omega (arith, gone))
      | inr other ↦ omega (arith, other)
    ]

factor_right : (a b : ℕ) → 0 < a * b → 0 < b
factor_right a b some =
    elim (cases_eq b 0) [
      | inl none ↦
          let gone : a * b ≡ 0 = ap (λ (x : ℕ). a * x) none ∙ mul-zero a in
          absurd (omega (arith, gone))
      | inr other ↦ omega (arith, other)
    ]

-- ---- weights

pub weight-append : (f : ℕ → ℕ) (xs ys : List ℕ) → weight f (xs ++ ys) ≡ weight f xs + weight f ys
unfolding weight
weight-append f [] ys = omega arith
weight-append f (x ∷ xs) ys = omega (arith, weight-append f xs ys)

pub weight-flat_map : (f : ℕ → ℕ) (c : ℕ → List ℕ) (hs : List ℕ) → weight f (flat_map c hs) ≡ weight (λ h. weight f (c h)) hs
unfolding weight
weight-flat_map f c [] = refl
weight-flat_map f c (h ∷ hs) = weight-append f (c h) (flat_map c hs) ∙ ap (λ (n : ℕ). weight f (c h) + n) (weight-flat_map f c hs)

-- what holds of each place
abbrev pub AllOf : (ℕ → Type 0) → List ℕ → Type 0
AllOf P [] = Unit {0}
AllOf P (x ∷ xs) = P x × AllOf P xs

pub AllOf-map : (P Q : ℕ → Type 0) (xs : List ℕ) → ((x : ℕ) → P x → Q x) → AllOf P xs → AllOf Q xs
AllOf-map P Q [] from all = tt
AllOf-map P Q (x ∷ xs) from all = (from x all.0, AllOf-map P Q xs from all.1)

-- where the sum is 0, each is
pub weight-none : (f : ℕ → ℕ) (xs : List ℕ) → weight f xs ≡ 0 → AllOf (λ x. f x ≡ 0) xs
unfolding weight
weight-none f [] none = tt
weight-none f (x ∷ xs) none = (omega (arith, none), weight-none f xs (omega (arith, none)))

pub weight-zero : (f : ℕ → ℕ) (xs : List ℕ) → AllOf (λ x. f x ≡ 0) xs → weight f xs ≡ 0
unfolding weight
weight-zero f [] all = refl
weight-zero f (x ∷ xs) all = omega (arith, all.0, weight-zero f xs all.1)

-- a sum of one for each is their number
pub weight-length : (xs : List ℕ) → weight (λ x. 1) xs ≡ length xs
unfolding weight
weight-length [] = refl
weight-length (x ∷ xs) = omega (arith, weight-length xs)

-- one where a test passes
abbrev pub passing : (ℕ → Bool) → ℕ → ℕ
passing test x = if test x then 1 else 0

pub passing-true : (test : ℕ → Bool) (x : ℕ) → test x ≡ true → passing test x ≡ 1
passing-true test x passes = cond-true (test x) 1 0 passes

pub passing-false : (test : ℕ → Bool) (x : ℕ) → test x ≡ false → passing test x ≡ 0
passing-false test x fails = cond-false (test x) 1 0 fails

pub passing-none : (test : ℕ → Bool) (x : ℕ) → passing test x ≡ 0 → test x ≡ false
passing-none test x none = elim (cases_Bool (test x)) [ inl passes ↦ absurd (omega (arith, none, passing-true test x passes)) | inr fails ↦ fails ]

pub passing-some : (test : ℕ → Bool) (x : ℕ) → 0 < passing test x → test x ≡ true
passing-some test x some = elim (cases_Bool (test x)) [ inl passes ↦ passes | inr fails ↦ absurd (omega (arith, some, passing-false test x fails)) ]

pub length-filter : (test : ℕ → Bool) (xs : List ℕ) → length (filter test xs) ≡ weight (passing test) xs
unfolding weight
length-filter test [] = refl
length-filter test (x ∷ xs) =
    elim (test x) as (λ b. length (cond b (x ∷ filter test xs) (filter test xs)) ≡ cond b 1 0 + weight (passing test) xs) [
      | true ↦ omega (arith, length-filter test xs)
      | false ↦ omega (arith, length-filter test xs)
    ]

-- an element that is there
pub any-weight : (test : ℕ → Bool) (xs : List ℕ) → list_any test xs ≡ nat_lt 0 (weight (passing test) xs)
unfolding weight
any-weight test [] = sym (le-ltb 0 0 (omega arith))
any-weight test (x ∷ xs) =
    elim (test x) as (λ b. (b || list_any test xs) ≡ nat_lt 0 (cond b 1 0 + weight (passing test) xs)) [
      | true ↦ sym (lt-ltb 0 (1 + weight (passing test) xs) (omega arith))
      | false ↦ any-weight test xs ∙ ap (nat_lt 0) (zero_more (weight (passing test) xs))
    ]

-- ---- counters

-- one counter more at the end
pub counted-more : (f : ℕ → ℕ) (m : List ℕ) (k n : ℕ) → counted f m k (suc n) ≡ counted f m k n + get_or m (k + n) 0 * f (k + n)
unfolding counted
counted-more f m k zero =
    let same : k + 0 ≡ k = omega arith in
    zero_end (get_or m k 0 * f k) ∙ ap (λ (j : ℕ). 0 + get_or m j 0 * f j) (sym same)
counted-more f m k (suc n) =
    let same : k + 1 + n ≡ k + suc n = omega arith in
    ap (λ (x : ℕ). get_or m k 0 * f k + x) (counted-more f m (k + 1) n ∙ ap (λ (j : ℕ). counted f m (k + 1) n + get_or m j 0 * f j) same)
    ∙ sums (get_or m k 0 * f k) (counted f m (k + 1) n) (get_or m (k + suc n) 0 * f (k + suc n))

-- a counter outside plays no part
pub counted-outside : (f : ℕ → ℕ) (m : List ℕ) (k n p y : ℕ) → (p < k) ⊎ (k + n ≤ p) → counted f (set m p y) k n ≡ counted f m k n
unfolding counted
counted-outside f m k zero p y apart = refl
counted-outside f m k (suc n) p y (inl before) =
    ap₂ (λ (a b : ℕ). a * f k + b) (get_or-set_other m p k y 0 (λ e. omega (arith, e))) (counted-outside f m (k + 1) n p y (inl (omega arith)))
counted-outside f m k (suc n) p y (inr behind) =
    ap₂ (λ (a b : ℕ). a * f k + b) (get_or-set_other m p k y 0 (λ e. omega (arith, e))) (counted-outside f m (k + 1) n p y (inr (omega arith)))

-- a counter that counts v more
pub counted-set : (f : ℕ → ℕ) (m : List ℕ) (k n p v : ℕ) → k ≤ p → p < k + n → p < length m → counted f (set m p (get_or m p 0 + v)) k n ≡ counted f m k n + v * f p
unfolding counted
counted-set f m k zero p v le lt within = absurd (omega arith)
counted-set f m k (suc n) p v le lt within =
    elim (cases_eq k p) [
      | inl same ↦
          let here : get_or (set m p (get_or m p 0 + v)) k 0 ≡ get_or m p 0 + v = ap (λ (j : ℕ). get_or (set m p (get_or m p 0 + v)) j 0) same ∙ get_or-set_same m p (get_or m p 0 + v) 0 within in
          ap₂ (λ (a b : ℕ). a * f k + b) here (counted-outside f m (k + 1) n p (get_or m p 0 + v) (inl (omega (arith, same))))
          ∙ (ap (λ (j : ℕ). (get_or m j 0 + v) * f k + counted f m (k + 1) n) (sym same)
          ∙ (spread (get_or m k 0) v (f k) (counted f m (k + 1) n) ∙ ap (λ (j : ℕ). get_or m k 0 * f k + counted f m (k + 1) n + v * f j) same))
      | inr other ↦
          ap₂ (λ (a b : ℕ). a * f k + b) (get_or-set_other m p k (get_or m p 0 + v) 0 other) (counted-set f m (k + 1) n p v (omega (arith, other)) (omega arith) within)
          ∙ sums (get_or m k 0 * f k) (counted f m (k + 1) n) (v * f p)
    ]

-- counters of which each counts nothing, or for nothing
pub counted-zero : (f : ℕ → ℕ) (m : List ℕ) (k n : ℕ) → ((j : ℕ) → k ≤ j → j < k + n → 0 < get_or m j 0 → f j ≡ 0) → counted f m k n ≡ 0
unfolding counted
counted-zero f m k zero none = refl
counted-zero f m k (suc n) none =
    let later : counted f m (k + 1) n ≡ 0 = counted-zero f m (k + 1) n (λ j le lt some. none j (omega arith) (omega arith) some) in
    let here : get_or m k 0 * f k ≡ 0 =
    elim (cases_lt 0 (get_or m k 0)) [
      | inl some ↦ ap (λ (x : ℕ). get_or m k 0 * x) (none k (omega arith) (omega arith) some) ∙ mul-zero (get_or m k 0)
      | inr fails ↦
          let gone : get_or m k 0 ≡ 0 = omega (arith, fails) in
          ap (λ (x : ℕ). x * f k) gone ∙ zero-mul (f k)
    ] in
    omega (arith, later, here)

-- one alone
pub counted-one : (f : ℕ → ℕ) (m : List ℕ) (k n p : ℕ) → k ≤ p → p < k + n → f p ≡ 1 → ((j : ℕ) → (j ≡ p → ⊥) → f j ≡ 0) → counted f m k n ≡ get_or m p 0
unfolding counted
counted-one f m k zero p le lt one none = absurd (omega arith)
counted-one f m k (suc n) p le lt one none =
    elim (cases_eq k p) [
      | inl same ↦
          let here : get_or m k 0 * f k ≡ get_or m p 0 = ap (λ (j : ℕ). get_or m j 0 * f j) same ∙ (ap (λ (x : ℕ). get_or m p 0 * x) one ∙ mul-one (get_or m p 0)) in
          let later : counted f m (k + 1) n ≡ 0 = counted-zero f m (k + 1) n (λ j above below some. none j (λ e. omega (arith, e, same))) in
          omega (arith, here, later)
      | inr other ↦
          let here : get_or m k 0 * f k ≡ 0 = ap (λ (x : ℕ). get_or m k 0 * x) (none k other) ∙ mul-zero (get_or m k 0) in
          omega (arith, here, counted-one f m (k + 1) n p (omega (arith, other)) (omega arith) one none)
    ]

-- where the sum isn't 0, some counter counts for something
pub counted-some : (f : ℕ → ℕ) (m : List ℕ) (k n : ℕ) → 0 < counted f m k n → (j : ℕ) × ((k ≤ j) × (j < k + n) × (0 < get_or m j 0) × (0 < f j))
unfolding counted
counted-some f m k zero some = absurd (omega arith)
counted-some f m k (suc n) some =
    elim (cases_lt 0 (get_or m k 0 * f k)) [
      | inl here ↦ (k, (omega arith, omega arith, factor_left (get_or m k 0) (f k) here, factor_right (get_or m k 0) (f k) here))
      | inr none ↦
          let later : (j : ℕ) × ((k + 1 ≤ j) × (j < k + 1 + n) × (0 < get_or m j 0) × (0 < f j)) = counted-some f m (k + 1) n (omega (arith, none)) in
          (later.0, (omega (arith, later.1.0), omega (arith, later.1.1), later.1.2, later.1.3))
    ]

-- a counter is at most the sum of all
pub counter-le : (m : List ℕ) (k n p : ℕ) → k ≤ p → p < k + n → get_or m p 0 ≤ counted (λ j. 1) m k n
unfolding counted
counter-le m k zero p le lt = absurd (omega arith)
counter-le m k (suc n) p le lt =
    elim (cases_eq k p) [
      | inl same ↦
          let here : get_or m k 0 ≡ get_or m p 0 = ap (λ (j : ℕ). get_or m j 0) same in
          omega (arith, here)
      | inr other ↦ omega (arith, counter-le m (k + 1) n p (omega (arith, other)) (omega arith))
    ]

-- ---- what the counters of a page say of the places that they count

-- a place of the page in which a word may begin
abbrev pub IsPlaced : ℕ → List ℕ → ℕ → Type 0
IsPlaced page m x = (k : ℕ) × ((k < 1023) × (x ≡ page + k * 4) × (0 < get_or m k 0))

-- of the places of a list, by what stands in the whole
each : (m : List ℕ) (page : ℕ) (all xs : List ℕ) → AreCounted m page all → ((x : ℕ) → 0 < weight (passing (nat_eq x)) xs → 0 < weight (passing (nat_eq x)) all) → AllOf (IsPlaced page m) xs
unfolding weight
each m page all [] is inside = tt
each m page all (x ∷ xs) is inside =
    let one : passing (nat_eq x) x ≡ 1 = passing-true (nat_eq x) x (eq-eqb x x refl) in
    let some : 0 < counted (λ k. passing (nat_eq x) (page + k * 4)) m 0 1023 = subst (λ (n : ℕ). 0 < n) (sym (is (passing (nat_eq x)))) (inside x (omega (arith, one))) in
    let found : (j : ℕ) × ((0 ≤ j) × (j < 0 + 1023) × (0 < get_or m j 0) × (0 < passing (nat_eq x) (page + j * 4))) = counted-some (λ k. passing (nat_eq x) (page + k * 4)) m 0 1023 some in (
      (found.0, (omega (arith, found.1.1), eqb-true x (page + found.0 * 4) (passing-some (nat_eq x) (page + found.0 * 4) found.1.3), found.1.2)),
      each m page all xs is (λ y there. inside y (omega (arith, there))),
    )

min_above : (a x : ℕ) → a ≤ x → min x a ≡ a
min_above a x le = omega (arith, le)

-- a place isn't below another, if there is one
abbrev pub NotBelow : ℕ → Option ℕ → Type 0
NotBelow a None = Unit {0}
NotBelow a (Some y) = a ≤ y

min-both : (a x : ℕ) (o : Option ℕ) → a ≤ x → NotBelow a o → a ≤ min x (unwrap_or o x)
min-both a x None le above = omega (arith, le)
min-both a x (Some y) le above = omega (arith, le, above)

min-first : (a x : ℕ) (o : Option ℕ) → a ≡ x → NotBelow a o → min x (unwrap_or o x) ≡ a
min-first a x None is above = omega (arith, is)
min-first a x (Some y) is above = omega (arith, is, above)

pub lowest-above : (a : ℕ) (xs : List ℕ) → AllOf (λ x. a ≤ x) xs → NotBelow a (lowest xs)
unfolding lowest
lowest-above a [] all = tt
lowest-above a (x ∷ xs) all = min-both a x (lowest xs) all.0 (lowest-above a xs all.1)

-- each place that is counted is one of the page whose counter isn't 0
pub counted-placed : (m : List ℕ) (page : ℕ) (places : List ℕ) → AreCounted m page places → AllOf (IsPlaced page m) places
counted-placed m page places is = each m page places places is (λ x here. here)

-- a counter tells how often its place stands there
pub counted-times : (m : List ℕ) (page : ℕ) (places : List ℕ) (k : ℕ) → AreCounted m page places → k < 1023 → weight (passing (nat_eq (page + k * 4))) places ≡ get_or m k 0
counted-times m page places k is lt =
    sym (is (passing (nat_eq (page + k * 4))))
    ∙ counted-one (λ j. passing (nat_eq (page + k * 4)) (page + j * 4)) m 0 1023 k (omega arith) (omega arith)
    (passing-true (nat_eq (page + k * 4)) (page + k * 4) (eq-eqb (page + k * 4) (page + k * 4) refl))
    (λ j other. passing-false (nat_eq (page + k * 4)) (page + j * 4) (ne_eqb (page + k * 4) (page + j * 4) (λ e. other (omega (arith, e)))))

-- the least of places that are all at or above one of them
pub lowest-is : (a : ℕ) (xs : List ℕ) → list_any (nat_eq a) xs ≡ true → AllOf (λ x. a ≤ x) xs → lowest xs ≡ Some a
unfolding lowest
lowest-is a [] there all = absurd (false≢true there)
lowest-is a (x ∷ xs) there all =
    elim (cases_eq a x) [
      | inl same ↦ ap (λ (n : ℕ). Some n) (min-first a x (lowest xs) same (lowest-above a xs all.1))
      | inr other ↦
          let later : list_any (nat_eq a) xs ≡ true = ap (λ (b : Bool). b || list_any (nat_eq a) xs) (sym (ne_eqb a x other)) ∙ there in
          ap (λ (o : Option ℕ). Some (min x (unwrap_or o x))) (lowest-is a xs later all.1) ∙ ap (λ (n : ℕ). Some n) (min_above a x (omega (arith, all.0)))
    ]

-- ---- first words

pub any-counter-le : (m : List ℕ) (p : ℕ) → length m ≡ 1023 → get_or m p 0 ≤ counted (λ j. 1) m 0 1023
any-counter-le m p long =
    elim (cases_lt p 1023) [
      | inl within ↦ counter-le m 0 1023 p (omega arith) (omega arith)
      | inr past ↦ omega (arith, get_or_past m p 0 (omega (arith, long, past)))
    ]

-- one place more
pub counted-push : (m new : List ℕ) (page p : ℕ) (f : ℕ → ℕ) → length m ≡ 1023 → p < 1023 → new ≡ set m p (get_or m p 0 + 1)
    → counted (λ k. f (page + k * 4)) new 0 1023 ≡ counted (λ k. f (page + k * 4)) m 0 1023 + f (page + p * 4)
counted-push m new page p f long within is =
    ap (λ (l : List ℕ). counted (λ k. f (page + k * 4)) l 0 1023) is
    ∙ (counted-set (λ k. f (page + k * 4)) m 0 1023 p 1 (omega arith) (omega arith) (omega (arith, long)) ∙ ap (λ (x : ℕ). counted (λ k. f (page + k * 4)) m 0 1023 + x) (one-mul (f (page + p * 4))))

-- what a run's extras from an index on lead to
pub heads-at : (page : ℕ) (extras : List ℕ) (i : ℕ) → i < length extras
    → extra_heads page (drop i extras) ≡ (page + get_or extras i 0 % 0x4000 * 4) ∷ (if is_marked (get_or extras i 0) then [] else extra_heads page (drop (i + 1) extras))
unfolding extra_heads
heads-at page extras i within = ap (extra_heads page) (drop-at extras i within)

-- the words that were counted, and those that are left, are all
pub record RunGoes (marks extras : List ℕ) (i : ℕ) : Type 0 where
  pub counts : (page : ℕ) (f : ℕ → ℕ) → counted (λ k. f (page + k * 4)) marks 0 1023 + weight f (extra_heads page (drop i extras)) ≡ weight f (extra_heads page extras)
  pub outside : (page : ℕ) → list_any (nat_lt (page + 0xFF8)) (extra_heads page (drop i extras)) ≡ list_any (nat_lt (page + 0xFF8)) (extra_heads page extras)
  pub room : counted (λ k. 1) marks 0 1023 ≤ i

pub run-none : (marks extras : List ℕ) → ((f : ℕ → ℕ) → counted f marks 0 1023 ≡ 0) → RunGoes marks extras 0
run-none marks extras empty = record {
  counts = λ page f. ap (λ (x : ℕ). x + weight f (extra_heads page extras)) (empty (λ k. f (page + k * 4))) ∙ sym (zero_more (weight f (extra_heads page extras)));
  outside = λ page. refl;
  room = omega (arith, empty (λ k. 1));
}

weight-cons : (f : ℕ → ℕ) (x : ℕ) (xs : List ℕ) → weight f (x ∷ xs) ≡ f x + weight f xs
unfolding weight
weight-cons f x xs = refl

weight-nil : (f : ℕ → ℕ) → weight f [] ≡ 0
unfolding weight
weight-nil f = refl

pub run-more : (marks new extras : List ℕ) (i : ℕ) → i < length extras → length marks ≡ 1023 → get_or extras i 0 % 0x4000 < 1023 → is_marked (get_or extras i 0) ≡ false
    → new ≡ set marks (get_or extras i 0 % 0x4000) (get_or marks (get_or extras i 0 % 0x4000) 0 + 1) → RunGoes marks extras i → RunGoes new extras (i + 1)
run-more marks new extras i within long inside unmarked is goes =
    let next : (page : ℕ) → extra_heads page (drop i extras) ≡ (page + get_or extras i 0 % 0x4000 * 4) ∷ extra_heads page (drop (i + 1) extras) = λ page.
    heads-at page extras i within
    ∙ ap (λ (l : List ℕ). (page + get_or extras i 0 % 0x4000 * 4) ∷ l) (cond-false (is_marked (get_or extras i 0)) [] (extra_heads page (drop (i + 1) extras)) unmarked) in
    record {
      counts = λ page f.
          omega (
            arith,
            counted-push marks new page (get_or extras i 0 % 0x4000) f long inside is,
            goes.counts page f,
            ap (weight f) (next page),
            weight-cons f (page + get_or extras i 0 % 0x4000 * 4) (extra_heads page (drop (i + 1) extras)),
          );
      outside = λ page.
          let here : nat_lt (page + 0xFF8) (page + get_or extras i 0 % 0x4000 * 4) ≡ false = le-ltb (page + 0xFF8) (page + get_or extras i 0 % 0x4000 * 4) (omega arith) in
          sym (ap (list_any (nat_lt (page + 0xFF8))) (next page) ∙ ap (λ (b : Bool). b || list_any (nat_lt (page + 0xFF8)) (extra_heads page (drop (i + 1) extras))) here) ∙ goes.outside page;
      room = omega (arith, counted-push marks new 0 (get_or extras i 0 % 0x4000) (λ x. 1) long inside is, goes.room);
    }

pub run-ends : (marks new extras : List ℕ) (i : ℕ) → i < length extras → length marks ≡ 1023 → get_or extras i 0 % 0x4000 < 1023 → is_marked (get_or extras i 0) ≡ true
    → new ≡ set marks (get_or extras i 0 % 0x4000) (get_or marks (get_or extras i 0 % 0x4000) 0 + 1) → RunGoes marks extras i → (page : ℕ) → AreCounted new page (extra_heads page extras)
run-ends marks new extras i within long inside marked is goes page = λ f.
    let last : extra_heads page (drop i extras) ≡ (page + get_or extras i 0 % 0x4000 * 4) ∷ [] =
    heads-at page extras i within
    ∙ ap (λ (l : List ℕ). (page + get_or extras i 0 % 0x4000 * 4) ∷ l) (cond-true (is_marked (get_or extras i 0)) [] (extra_heads page (drop (i + 1) extras)) marked) in
    omega (arith, counted-push marks new page (get_or extras i 0 % 0x4000) f long inside is, goes.counts page f, ap (weight f) last, weight-cons f (page + get_or extras i 0 % 0x4000 * 4) [], weight-nil f)

pub run-outside : (marks extras : List ℕ) (i : ℕ) → i < length extras → 1023 ≤ get_or extras i 0 % 0x4000 → RunGoes marks extras i → (page : ℕ) → list_any (nat_lt (page + 0xFF8)) (extra_heads page extras) ≡ true
run-outside marks extras i within out goes page =
    sym (goes.outside page)
    ∙ (ap (list_any (nat_lt (page + 0xFF8))) (heads-at page extras i within)
    ∙ ap (λ (b : Bool). b || list_any (nat_lt (page + 0xFF8)) (if is_marked (get_or extras i 0) then [] else extra_heads page (drop (i + 1) extras)))
    (lt-ltb (page + 0xFF8) (page + get_or extras i 0 % 0x4000 * 4) (omega arith)))

pub run-over : (marks extras : List ℕ) (i : ℕ) → length extras ≤ i → RunGoes marks extras i → (page : ℕ) → AreCounted marks page (extra_heads page extras)
unfolding extra_heads
run-over marks extras i past goes page = λ f.
    let none : extra_heads page (drop i extras) ≡ [] = ap (extra_heads page) (drop_all i extras past) in
    omega (arith, goes.counts page f, ap (weight f) none, weight-nil f)

pub one-head : (extras : List ℕ) (page start : ℕ) → (start ≡ 0x4000 → ⊥) → start < 0x8000 → heads extras page start ≡ (page + start * 4) ∷ []
unfolding heads
one-head extras page start some small =
    cond-false (nat_eq start 0x4000) [] (if is_marked start then extra_heads page (drop (start % 0x4000) extras) else (page + start * 4) ∷ []) (ne_eqb start 0x4000 some)
    ∙ cond-false (is_marked start) (extra_heads page (drop (start % 0x4000) extras)) ((page + start * 4) ∷ []) (marked-small start small)

-- a single first word
pub single-head : (marks new extras : List ℕ) (start : ℕ) → length marks ≡ 1023 → ((f : ℕ → ℕ) → counted f marks 0 1023 ≡ 0) → (start ≡ 0x4000 → ⊥) → start < 0x8000 → start < 1023
    → new ≡ set marks start (get_or marks start 0 + 1) → (page : ℕ) → AreCounted new page (heads extras page start)
single-head marks new extras start long empty some small inside is page = λ f.
    omega (arith, counted-push marks new page start f long inside is, empty (λ k. f (page + k * 4)), ap (weight f) (one-head extras page start some small), weight-cons f (page + start * 4) [], weight-nil f)

pub single-outside : (extras : List ℕ) (start : ℕ) → (start ≡ 0x4000 → ⊥) → start < 0x8000 → 1023 ≤ start → (page : ℕ) → list_any (nat_lt (page + 0xFF8)) (heads extras page start) ≡ true
single-outside extras start some small out page =
    ap (list_any (nat_lt (page + 0xFF8))) (one-head extras page start some small) ∙ ap (λ (b : Bool). b || false) (lt-ltb (page + 0xFF8) (page + start * 4) (omega arith))

pub no-heads : (marks extras : List ℕ) (start : ℕ) → ((f : ℕ → ℕ) → counted f marks 0 1023 ≡ 0) → start ≡ 0x4000 → (page : ℕ) → AreCounted marks page (heads extras page start)
unfolding heads
no-heads marks extras start empty is page = λ f.
    let none : heads extras page start ≡ [] = cond-true (nat_eq start 0x4000) [] (if is_marked start then extra_heads page (drop (start % 0x4000) extras) else (page + start * 4) ∷ []) (eq-eqb start 0x4000 is) in
    empty (λ k. f (page + k * 4)) ∙ sym (ap (weight f) none ∙ weight-nil f)

-- a start that leads to extras
pub many-heads : (extras rest : List ℕ) (page start : ℕ) → 0x8000 ≤ start → rest ≡ drop (start % 0x4000) extras → heads extras page start ≡ extra_heads page rest
unfolding heads
many-heads extras rest page start large is =
    cond-false (nat_eq start 0x4000) [] (if is_marked start then extra_heads page (drop (start % 0x4000) extras) else (page + start * 4) ∷ []) (ne_eqb start 0x4000 (λ e. omega (arith, e)))
    ∙ (cond-true (is_marked start) (extra_heads page (drop (start % 0x4000) extras)) ((page + start * 4) ∷ []) (marked-large start large)
    ∙ ap (extra_heads page) (sym is))

-- counters that are all 0
pub counted-empty : (m : List ℕ) → ((k : ℕ) → get_or m k 0 ≡ 0) → (f : ℕ → ℕ) → counted f m 0 1023 ≡ 0
counted-empty m zeros f = counted-zero f m 0 1023 (λ j above below some. absurd (omega (arith, zeros j, some)))

pub filled-empty : (m : List ℕ) (n : ℕ) → length m ≡ n → ((k d : ℕ) → k < n → get_or m k d ≡ 0) → (f : ℕ → ℕ) → counted f m 0 1023 ≡ 0
filled-empty m n long zeros f =
    counted-empty m (λ k. elim (cases_lt k n) [ inl within ↦ zeros k 0 within | inr past ↦ get_or_past m k 0 (omega (arith, long, past)) ]) f

-- the sum of the counters after one word more
pub few-push : (m new : List ℕ) (p n : ℕ) → length m ≡ 1023 → p < 1023 → new ≡ set m p (get_or m p 0 + 1) → counted (λ k. 1) m 0 1023 ≤ n → counted (λ k. 1) new 0 1023 ≤ n + 1
few-push m new p n long within is few = omega (arith, counted-push m new 0 p (λ x. 1) long within is)
