-- Visits of a search: what they list, and that they go deep enough.
use Rattle.std.proofs.Common.{◌≡◌, ◌≤◌, ◌<◌, ℕ, zero, suc, ◌+◌, Bool, true, false, ◌||◌, if◌then◌else◌, nat_eq, List, [], ◌∷◌, ◌++◌, get_or, refl, sym, ap, ◌∙◌, arith, inl, inr, true≢false}
use Rattle.std.specs.Prelude.{fold}
use Rattle.std.specs.List.{AllByRecursion}
use Rattle.std.proofs.lemmas.Bool.{cases_eq, cases_Bool, eq-eqb, ne_eqb}
use Rattle.std.proofs.lemmas.List.Folds.{list_any-append}
use Rattle.dep_closure.specs.SearchOrder.{is_listed, visit}

-- ---- What is listed

-- each image that was listed still is
abbrev pub Grows : List ℕ → List ℕ → Type 0
Grows listed more = (k : ℕ) → is_listed listed k ≡ true → is_listed more k ≡ true

listed-push : (listed : List ℕ) (i k : ℕ) → is_listed (listed ++ i ∷ []) k ≡ (is_listed listed k || (nat_eq k i || false))
listed-push listed i k = list_any-append (nat_eq k) listed (i ∷ [])

pub grows-push : (listed : List ℕ) (i : ℕ) → Grows listed (listed ++ i ∷ [])
grows-push listed i k there = listed-push listed i k ∙ ap (λ (b : Bool). b || (nat_eq k i || false)) there

or_first : (a b : Bool) → b ≡ true → (a || (b || false)) ≡ true
or_first true b is = refl
or_first false true is = refl
or_first false false is = absurd (true≢false (sym is))

or_none : (a b : Bool) → b ≡ false → (a || (b || false)) ≡ a
or_none true b is = refl
or_none false true is = absurd (true≢false is)
or_none false false is = refl

pub listed_here : (listed : List ℕ) (i : ℕ) → is_listed (listed ++ i ∷ []) i ≡ true
listed_here listed i = listed-push listed i i ∙ or_first (is_listed listed i) (nat_eq i i) (eq-eqb i i refl)

pub listed_other : (listed : List ℕ) (i k : ℕ) → (k ≡ i → ⊥) → is_listed (listed ++ i ∷ []) k ≡ is_listed listed k
listed_other listed i k apart = listed-push listed i k ∙ or_none (is_listed listed k) (nat_eq k i) (ne_eqb k i apart)

-- ---- What is left to list

abbrev share : Bool → ℕ → ℕ
share b weight = if b then 0 else weight

-- what the images below n weigh that aren't listed
unfoldable pub left : (ℕ → ℕ) → List ℕ → ℕ → ℕ
left weight listed zero = 0
left weight listed (suc n) = share (is_listed listed n) (weight n) + left weight listed n

share_keeps : (a b : Bool) (w : ℕ) → (a ≡ true → b ≡ true) → share b w ≤ share a w
share_keeps true true w grows = omega arith
share_keeps true false w grows = absurd (true≢false (sym (grows refl)))
share_keeps false true w grows = omega arith
share_keeps false false w grows = omega arith

pub left_keeps : (weight : ℕ → ℕ) (listed more : List ℕ) (n : ℕ) → Grows listed more → left weight more n ≤ left weight listed n
unfolding left
left_keeps weight listed more zero grows = omega arith
left_keeps weight listed more (suc n) grows =
    let one = share_keeps (is_listed listed n) (is_listed more n) (weight n) (grows n) in
    let rest = left_keeps weight listed more n grows in
    omega (arith, one, rest)

pub left_falls : (weight : ℕ → ℕ) (listed : List ℕ) (n i : ℕ) → i < n → is_listed listed i ≡ false → left weight (listed ++ i ∷ []) n + weight i ≤ left weight listed n
unfolding left
left_falls weight listed zero i lt new = absurd (omega arith)
left_falls weight listed (suc n) i lt new = elim (cases_eq i n) [
  | inl same ↦
      let rest = left_keeps weight listed (listed ++ i ∷ []) n (grows-push listed i) in
      let now : share (is_listed (listed ++ i ∷ []) n) (weight n) ≡ 0 = ap (λ (b : Bool). share b (weight n)) (ap (λ (k : ℕ). is_listed (listed ++ i ∷ []) k) (sym same) ∙ listed_here listed i) in
      let was : share (is_listed listed n) (weight n) ≡ weight n = ap (λ (b : Bool). share b (weight n)) (ap (λ (k : ℕ). is_listed listed k) (sym same) ∙ new) in
      let w : weight i ≡ weight n = ap weight same in
      omega (arith, rest, now, was, w)
  | inr apart ↦
      let rest = left_falls weight listed n i (omega (arith, apart)) new in
      let one = share_keeps (is_listed listed n) (is_listed (listed ++ i ∷ []) n) (weight n) (grows-push listed i n) in
      omega (arith, rest, one)
]

-- each image counts one
abbrev pub each : ℕ → ℕ
each i = 1

pub left_few : (listed : List ℕ) (n : ℕ) → left each listed n ≤ n
unfolding left
left_few listed zero = omega arith
left_few listed (suc n) = let rest = left_few listed n in elim (cases_Bool (is_listed listed n)) [
  | inl e ↦ let one : share (is_listed listed n) 1 ≡ 0 = ap (λ (b : Bool). share b 1) e in omega (arith, one, rest)
  | inr e ↦ let one : share (is_listed listed n) 1 ≡ 1 = ap (λ (b : Bool). share b 1) e in omega (arith, one, rest)
]

-- ---- Visits

fold_grows : (f : List ℕ → ℕ → List ℕ) → ((listed : List ℕ) (i : ℕ) → Grows listed (f listed i)) → (is : List ℕ) (listed : List ℕ) → Grows listed (fold f listed is)
fold_grows f grows [] listed k there = there
fold_grows f grows (i ∷ is) listed k there = fold_grows f grows is (f listed i) k (grows listed i k there)

abbrev chosen : Bool → List ℕ → List ℕ → List ℕ
chosen b listed more = if b then listed else more

chosen_grows : (b : Bool) (listed more : List ℕ) → Grows listed more → Grows listed (chosen b listed more)
chosen_grows true listed more grows k there = there
chosen_grows false listed more grows k there = grows k there

pub visit_grows : (links : List (List ℕ)) (depth : ℕ) (listed : List ℕ) (i : ℕ) → Grows listed (visit depth links listed i)
unfolding visit
visit_grows links zero listed i k there = there
visit_grows links (suc depth) listed i k there =
    chosen_grows (is_listed listed i) listed (fold (visit depth links) (listed ++ i ∷ []) (get_or links i []))
    (λ j here. fold_grows (visit depth links) (visit_grows links depth) (get_or links i []) (listed ++ i ∷ []) j (grows-push listed i j here)) k there

pub visit_listed : (links : List (List ℕ)) (depth : ℕ) (listed : List ℕ) (i : ℕ) → is_listed listed i ≡ true → visit depth links listed i ≡ listed
unfolding visit
visit_listed links zero listed i there = refl
visit_listed links (suc depth) listed i there = ap (λ (b : Bool). chosen b listed (fold (visit depth links) (listed ++ i ∷ []) (get_or links i []))) there

-- every link leads to one of n images
abbrev pub AreInside : ℕ → List (List ℕ) → Type 0
AreInside n links = (i : ℕ) → AllByRecursion (λ k. k < n) (get_or links i [])

fold_same : (f g : List ℕ → ℕ → List ℕ) (n depth : ℕ)
    → ((listed : List ℕ) (i : ℕ) → i < n → left each listed n ≤ depth → f listed i ≡ g listed i)
    → ((listed : List ℕ) (i : ℕ) → Grows listed (f listed i))
    → (is : List ℕ) (listed : List ℕ) → AllByRecursion (λ k. k < n) is → left each listed n ≤ depth → fold f listed is ≡ fold g listed is
fold_same f g n depth same grows [] listed inside few = refl
fold_same f g n depth same grows (i ∷ is) listed inside few =
    let fewer = left_keeps each listed (f listed i) n (grows listed i) in
    fold_same f g n depth same grows is (f listed i) inside.1 (omega (arith, fewer, few))
    ∙ ap (λ (l : List ℕ). fold g l is) (same listed i inside.0 few)

-- a visit lists no more where it may go one deeper than there are images left
pub visit_deeper : (links : List (List ℕ)) (n : ℕ) → AreInside n links → (depth : ℕ) (listed : List ℕ) (i : ℕ) → i < n → left each listed n ≤ depth → visit depth links listed i ≡ visit (suc depth) links listed i
unfolding visit
visit_deeper links n inside zero listed i lt few = elim (cases_Bool (is_listed listed i)) [
  | inl there ↦ sym (visit_listed links 1 listed i there)
  | inr new ↦ let falls = left_falls each listed n i lt new in absurd (omega (arith, falls, few))
]
visit_deeper links n inside (suc depth) listed i lt few = elim (cases_Bool (is_listed listed i)) [
  | inl there ↦ visit_listed links (suc depth) listed i there ∙ sym (visit_listed links (suc (suc depth)) listed i there)
  | inr new ↦
      let falls = left_falls each listed n i lt new in
      ap (λ (more : List ℕ). chosen (is_listed listed i) listed more)
      (fold_same (visit depth links) (visit (suc depth) links) n depth (visit_deeper links n inside depth) (visit_grows links depth) (get_or links i []) (listed ++ i ∷ []) (inside i) (omega (arith, falls, few)))
]

-- what a visit of another image lists: it, and what visits of its links list, as deep
pub visit_new : (links : List (List ℕ)) (n : ℕ) → AreInside n links → (depth : ℕ) (listed : List ℕ) (i : ℕ) → i < n → left each listed n ≤ depth → is_listed listed i ≡ false
    → visit depth links listed i ≡ fold (visit depth links) (listed ++ i ∷ []) (get_or links i [])
unfolding visit
visit_new links n inside zero listed i lt few new = let falls = left_falls each listed n i lt new in absurd (omega (arith, falls, few))
visit_new links n inside (suc depth) listed i lt few new =
    let falls = left_falls each listed n i lt new in
    ap (λ (b : Bool). chosen b listed (fold (visit depth links) (listed ++ i ∷ []) (get_or links i []))) new
    ∙ fold_same (visit depth links) (visit (suc depth) links) n depth (visit_deeper links n inside depth) (visit_grows links depth) (get_or links i []) (listed ++ i ∷ []) (inside i) (omega (arith, falls, few))
