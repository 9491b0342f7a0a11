-- Steps of a resolution: a re-export is an export of its image, and each that is met leaves fewer.
use Rattle.std.proofs.Common.{◌≡◌, ◌<◌, ◌≤◌, ◌+◌, ℕ, zero, suc, Bool, true, false, ◌||◌, ◌&&◌, nat_eq, List, [], ◌∷◌, ◌++◌, length, get_or, map, refl, sym, ap, ap₂, subst, ◌∙◌, arith, if◌then◌else◌, inl, inr, Some, length-append}
use Rattle.std.specs.List.{list_any, sum_by}
use Rattle.std.specs.Cmp.Lexicographic.{pointwise, bytes_decides}
use Rattle.std.proofs.lemmas.Bool.{cond-false, cases_Bool, and_parts, or_right}
use Rattle.std.proofs.lemmas.Bool.Decides.{nat_tests}
use Rattle.std.proofs.lemmas.List.Folds.{list_any-append}
use Rattle.std.proofs.lemmas.List.Sums.{sum_by-cons}
use Rattle.std.proofs.lemmas.List.{length-map}
use Rattle.export_trie.specs.declared.export.Export.{Export}
use Rattle.export_trie.specs.declared.export.Target.{Target}
use Rattle.export_trie.specs.Finding.{target_named}
use Rattle.prebind.specs.Resolves.{Pair, same_pair, is_met}

-- the names that images export from number k on
abbrev pub pairs_from : ℕ → List (List Export) → List Pair
pairs_from k [] = []
pairs_from k (es ∷ ess) = map (λ (e : Export). let p : Pair = (k, e.name) in p) es ++ pairs_from (suc k) ess

-- how many of some pairs weren't met
abbrev pub unmet : List Pair → List Pair → ℕ
unmet met [] = 0
unmet met (p ∷ ps) = (if is_met met p then 0 else 1) + unmet met ps

pub same_is : (p q : Pair) → same_pair p q ≡ true → p ≡ q
same_is p q same =
    let parts = and_parts (nat_eq p.0 q.0) (pointwise nat_eq p.1 q.1) same in
    let image : p.0 ≡ q.0 = let t = parts.0 in grind (arith, nat_tests, t) in
    let name : p.1 ≡ q.1 = (bytes_decides p.1 q.1).0 parts.1 in
    λ j. (image j, name j)

pub same_self : (p : Pair) → same_pair p p ≡ true
same_self p =
    let image : nat_eq p.0 p.0 ≡ true = grind (arith, nat_tests) in
    ap₂ (λ (a b : Bool). a && b) image ((bytes_decides p.1 p.1).1 refl)

met_grown : (met : List Pair) (q p : Pair) → is_met (met ++ q ∷ []) p ≡ (is_met met p || same_pair p q)
met_grown met q p = list_any-append (same_pair p) met (q ∷ []) ∙ ap (λ (b : Bool). is_met met p || b) (or_none (same_pair p q))
  where
    or_none : (b : Bool) → (b || false) ≡ b
    or_none true = refl
    or_none false = refl

met_before : (met : List Pair) (q p : Pair) → is_met met p ≡ true → is_met (met ++ q ∷ []) p ≡ true
met_before met q p is = met_grown met q p ∙ ap (λ (b : Bool). b || same_pair p q) is

met_last : (met : List Pair) (q p : Pair) → same_pair p q ≡ true → is_met (met ++ q ∷ []) p ≡ true
met_last met q p same = met_grown met q p ∙ (ap (λ (b : Bool). is_met met p || b) same ∙ or_right (is_met met p) true refl)

abbrev new : Bool → ℕ
new met = if met then 0 else 1

new_falls : (a b : Bool) → (a ≡ true → b ≡ true) → new b ≤ new a
new_falls true b keeps = omega (arith, ap new (keeps refl))
new_falls false true keeps = omega arith
new_falls false false keeps = omega arith

pub unmet_keeps : (met : List Pair) (q : Pair) (ps : List Pair) → unmet (met ++ q ∷ []) ps ≤ unmet met ps
unmet_keeps met q [] = omega arith
unmet_keeps met q (p ∷ ps) =
    let here = new_falls (is_met met p) (is_met (met ++ q ∷ []) p) (met_before met q p) in
    let rest = unmet_keeps met q ps in
    omega (arith, here, rest)

pub unmet_falls : (met : List Pair) (q : Pair) (ps : List Pair) → list_any (same_pair q) ps ≡ true → is_met met q ≡ false → unmet (met ++ q ∷ []) ps < unmet met ps
unmet_falls met q [] any fresh = cc
unmet_falls met q (p ∷ ps) any fresh = elim (cases_Bool (same_pair q p)) [
  | inl same ↦
      let is : q ≡ p = same_is q p same in
      let before : is_met met p ≡ false = ap (λ (x : Pair). is_met met x) (sym is) ∙ fresh in
      let now : is_met (met ++ q ∷ []) p ≡ true = met_last met q p (subst (λ (x : Pair). same_pair p x ≡ true) (sym is) (same_self p)) in
      let old : new (is_met met p) ≡ 1 = ap new before in
      let less : new (is_met (met ++ q ∷ []) p) ≡ 0 = ap new now in
      let rest = unmet_keeps met q ps in
      omega (arith, old, less, rest)
  | inr other ↦
      let further : list_any (same_pair q) ps ≡ true = sym (ap (λ (b : Bool). b || list_any (same_pair q) ps) other) ∙ any in
      let here = new_falls (is_met met p) (is_met (met ++ q ∷ []) p) (met_before met q p) in
      let rest = unmet_falls met q ps further fresh in
      omega (arith, here, rest)
]

-- each export is among the pairs
target_pair : (k : ℕ) (es : List Export) (name : List ℕ) (t : Target) → target_named es name ≡ Some t → list_any (same_pair (k, name)) (map (λ (e : Export). let p : Pair = (k, e.name) in p) es) ≡ true
unfolding target_named
target_pair k [] name t is = cc
target_pair k (e ∷ es) name t is = elim (cases_Bool (pointwise nat_eq name e.name)) [
  | inl same ↦
      let here : same_pair (k, name) (k, e.name) ≡ true = ap₂ (λ (a b : Bool). a && b) (let i : nat_eq k k ≡ true = grind (arith, nat_tests) in i) same in
      ap (λ (b : Bool). b || list_any (same_pair (k, name)) (map (λ (x : Export). let p : Pair = (k, x.name) in p) es)) here
  | inr other ↦
      let rest = target_pair k es name t (sym (cond-false (pointwise nat_eq name e.name) (Some e.target) (target_named es name) other) ∙ is) in
      or_right (same_pair (k, name) (k, e.name)) (list_any (same_pair (k, name)) (map (λ (x : Export). let p : Pair = (k, x.name) in p) es)) rest
]

pub has_pair : (k i : ℕ) (exports : List (List Export)) (name : List ℕ) (t : Target) → target_named (get_or exports i []) name ≡ Some t → list_any (same_pair (k + i, name)) (pairs_from k exports) ≡ true
unfolding target_named
has_pair k i [] name t is = absurd (none i is)
  where
    none : (i : ℕ) → target_named (get_or [] i []) name ≡ Some t → ⊥
    none zero is = cc
    none (suc i) is = cc
has_pair k zero (es ∷ ess) name t is =
    let first = target_pair k es name t is in
    let at : k + 0 ≡ k = omega arith in
    subst (λ (n : ℕ). list_any (same_pair (n, name)) (pairs_from k (es ∷ ess)) ≡ true) (sym at)
    (list_any-append (same_pair (k, name)) (map (λ (e : Export). let p : Pair = (k, e.name) in p) es) (pairs_from (suc k) ess) ∙ ap (λ (b : Bool). b || list_any (same_pair (k, name)) (pairs_from (suc k) ess)) first)
has_pair k (suc i) (es ∷ ess) name t is =
    let rest = has_pair (suc k) i ess name t is in
    let at : suc k + i ≡ k + suc i = omega arith in
    let later : list_any (same_pair (k + suc i, name)) (pairs_from (suc k) ess) ≡ true = subst (λ (n : ℕ). list_any (same_pair (n, name)) (pairs_from (suc k) ess) ≡ true) at rest in
    list_any-append (same_pair (k + suc i, name)) (map (λ (e : Export). let p : Pair = (k, e.name) in p) es) (pairs_from (suc k) ess)
    ∙ or_right (list_any (same_pair (k + suc i, name)) (map (λ (e : Export). let p : Pair = (k, e.name) in p) es)) (list_any (same_pair (k + suc i, name)) (pairs_from (suc k) ess)) later

-- there are as many pairs as exports
pub length-pairs_from : (k : ℕ) (exports : List (List Export)) → length (pairs_from k exports) ≡ sum_by length exports
length-pairs_from k [] = refl
length-pairs_from k (es ∷ ess) =
    let rest = length-pairs_from (suc k) ess in
    let one = length-map es (λ (e : Export). let p : Pair = (k, e.name) in p) in
    omega (arith, length-append (map (λ (e : Export). let p : Pair = (k, e.name) in p) es) (pairs_from (suc k) ess), one, rest, sum_by-cons length es ess)

pub unmet_few : (met ps : List Pair) → unmet met ps ≤ length ps
unmet_few met [] = omega arith
unmet_few met (p ∷ ps) =
    let here = new_few (is_met met p) in
    let rest = unmet_few met ps in
    omega (arith, here, rest)
  where
    new_few : (b : Bool) → new b ≤ 1
    new_few true = omega arith
    new_few false = omega arith
