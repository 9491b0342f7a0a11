-- A search with marks and with a list of what is still to be visited.
use Rattle.std.proofs.Common.{◌≡◌, ◌≤◌, ◌<◌, ℕ, zero, suc, ◌+◌, true, false, nat_eq, List, [], ◌∷◌, ◌++◌, Vec, Global, map, length, get_or, set, reverse, Some, sym, ap, ap₂, ◌∙◌, subst, arith, inl, inr, length-append}
use Rattle.std.specs.Prelude.{fold, All}
use Rattle.std.proofs.lemmas.Bool.{cases_eq, eq-eqb, ne_eqb}
use Rattle.std.proofs.lemmas.List.{get_or-map, reverse-append, reverse-reverse, length-reverse, get_or-set_same, get_or-set_other}
use Rattle.std.proofs.lemmas.List.Elements.{All-set, All-append, All-weaker, All-from_recursion, All-get_or, All-pop, All-head, All-tail, recursion_from_All}
use Rattle.std.proofs.lemmas.List.Sorted.{All-permutation, IsPermutation-reverse}
use Rattle.std.proofs.lemmas.List.Sums.{fold-append}
use Rattle.dep_closure.specs.SearchOrder.{is_listed, visit}
use Rattle.dep_closure.proofs.LinkLaws.{items_of}
use Rattle.dep_closure.proofs.VisitLaws.{listed_here, listed_other, left, left_falls, left_few, visit_listed, visit_new, AreInside}

-- Of n images those with a stamp have been listed, and visits of what is pending list what a search from one image does.
pub record Searching (links : List (List ℕ)) (n image : ℕ) (stamps order pending : List ℕ) : Type 0 where
  pub same : fold (visit n links) order (reverse pending) ≡ visit n links [] image
  pub marked : (k : ℕ) → k < n → nat_eq (get_or stamps k 0) (image + 1) ≡ is_listed order k
  pub low : All (λ s. s ≤ image + 1) stamps
  pub inside : All (λ k. k < n) pending

pub search_start : (links : List (List ℕ)) (n image : ℕ) (stamps order pending : List ℕ) → length stamps ≡ n → image < n → All (λ s. s ≤ image) stamps → order ≡ [] → pending ≡ image ∷ [] → Searching links n image stamps order pending
search_start links n image stamps order pending long lt fresh none one = record {
  same = ap₂ (λ (os ps : List ℕ). fold (visit n links) os (reverse ps)) none one;
  marked = λ k k_lt.
      let low : get_or stamps k 0 ≤ image = All-get_or (λ s. s ≤ image) stamps k 0 (omega (arith, long, k_lt)) fresh in
      ne_eqb (get_or stamps k 0) (image + 1) (λ e. omega (arith, low, e)) ∙ sym (ap (λ (os : List ℕ). is_listed os k) none);
  low = All-weaker (λ s. s ≤ image) (λ s. s ≤ image + 1) (λ s le. omega (arith, le)) stamps fresh;
  inside = subst (λ (ps : List ℕ). All (λ k. k < n) ps) (sym one) (All-from_recursion (λ k. k < n) (image ∷ []) (lt, tt));
}

-- the last one that is pending is the next
taken : (rest pending : List ℕ) (next : ℕ) → pending ≡ rest ++ next ∷ [] → reverse pending ≡ next ∷ reverse rest
taken rest pending next is = ap reverse is ∙ reverse-append rest (next ∷ [])

pub search_old : (links : List (List ℕ)) (n image : ℕ) (stamps order pending rest : List ℕ) (next : ℕ) → Searching links n image stamps order pending → pending ≡ rest ++ next ∷ []
    → get_or stamps next 0 ≡ image + 1 → Searching links n image stamps order rest
search_old links n image stamps order pending rest next kept is stamp =
    let inside = All-pop (λ k. k < n) pending rest (Some next) is kept.inside in
    let there : is_listed order next ≡ true = sym (kept.marked next inside.1) ∙ eq-eqb (get_or stamps next 0) (image + 1) stamp in
    record {
      same =
          ap (λ (os : List ℕ). fold (visit n links) os (reverse rest)) (sym (visit_listed links n order next there))
          ∙ (sym (ap (λ (ps : List ℕ). fold (visit n links) order ps) (taken rest pending next is)) ∙ kept.same);
      marked = kept.marked;
      low = kept.low;
      inside = inside.0;
    }

marked_more : (n image next : ℕ) (stamps order : List ℕ) → length stamps ≡ n → ((k : ℕ) → k < n → nat_eq (get_or stamps k 0) (image + 1) ≡ is_listed order k) → next < n
    → (k : ℕ) → k < n → nat_eq (get_or (set stamps next (image + 1)) k 0) (image + 1) ≡ is_listed (order ++ next ∷ []) k
marked_more n image next stamps order long marked lt k k_lt = elim (cases_eq k next) [
  | inl same ↦
      let now : get_or (set stamps next (image + 1)) k 0 ≡ image + 1 = ap (λ (i : ℕ). get_or (set stamps next (image + 1)) i 0) same ∙ get_or-set_same stamps next (image + 1) 0 (omega (arith, long, lt)) in
      eq-eqb (get_or (set stamps next (image + 1)) k 0) (image + 1) now ∙ sym (ap (λ (i : ℕ). is_listed (order ++ next ∷ []) i) same ∙ listed_here order next)
  | inr apart ↦
      ap (λ (s : ℕ). nat_eq s (image + 1)) (get_or-set_other stamps next k (image + 1) 0 apart) ∙ (marked k k_lt ∙ sym (listed_other order next k apart))
]

unlisted : (n image next : ℕ) (stamps order : List ℕ) → nat_eq (get_or stamps next 0) (image + 1) ≡ is_listed order next → (get_or stamps next 0 ≡ image + 1 → ⊥) → is_listed order next ≡ false
unlisted n image next stamps order marked stamp = sym marked ∙ ne_eqb (get_or stamps next 0) (image + 1) stamp

pub search_new : (links : List (List ℕ)) (n image : ℕ) (stamps order pending rest : List ℕ) (next : ℕ) (longer more : List ℕ) → AreInside n links → Searching links n image stamps order pending → pending ≡ rest ++ next ∷ []
    → length stamps ≡ n → (get_or stamps next 0 ≡ image + 1 → ⊥) → longer ≡ order ++ next ∷ [] → more ≡ rest ++ reverse (get_or links next []) → Searching links n image (set stamps next (image + 1)) longer more
search_new links n image stamps order pending rest next longer more inside kept is long stamp longer_is more_is =
    let targets = get_or links next [] in
    let within = All-pop (λ k. k < n) pending rest (Some next) is kept.inside in
    let new : is_listed order next ≡ false = unlisted n image next stamps order (kept.marked next within.1) stamp in
    let turned : reverse more ≡ targets ++ reverse rest = ap reverse more_is ∙ (reverse-append rest (reverse targets) ∙ ap (λ (ts : List ℕ). ts ++ reverse rest) (reverse-reverse targets)) in
    record {
      same =
          ap₂ (λ (os ps : List ℕ). fold (visit n links) os ps) longer_is turned
          ∙ (fold-append (visit n links) (order ++ next ∷ []) targets (reverse rest)
          ∙ (ap (λ (os : List ℕ). fold (visit n links) os (reverse rest)) (sym (visit_new links n inside n order next within.1 (left_few order n) new))
          ∙ (sym (ap (λ (ps : List ℕ). fold (visit n links) order ps) (taken rest pending next is)) ∙ kept.same)));
      marked = λ k k_lt. marked_more n image next stamps order long kept.marked within.1 k k_lt ∙ sym (ap (λ (os : List ℕ). is_listed os k) longer_is);
      low = All-set (λ s. s ≤ image + 1) stamps next (image + 1) (omega arith) kept.low;
      inside =
          subst (λ (ps : List ℕ). All (λ k. k < n) ps) (sym more_is)
          (All-append (λ k. k < n) rest (reverse targets) within.0
          (All-permutation (λ k. k < n) targets (reverse targets) (IsPermutation-reverse targets) (All-from_recursion (λ k. k < n) targets (inside next))));
    }

-- what is left to do falls with each that is taken
abbrev pub steps : List (List ℕ) → ℕ → ℕ
steps links k = suc (length (get_or links k []))

pub steps_old : (links : List (List ℕ)) (n : ℕ) (order pending rest : List ℕ) (next : ℕ) → pending ≡ rest ++ next ∷ [] → left (steps links) order n + length rest < left (steps links) order n + length pending
steps_old links n order pending rest next is = let long : length pending ≡ length rest + 1 = ap length is ∙ length-append rest (next ∷ []) in omega (arith, long)

pub steps_new : (links : List (List ℕ)) (n image : ℕ) (stamps order pending rest : List ℕ) (next : ℕ) (longer more : List ℕ) → Searching links n image stamps order pending → pending ≡ rest ++ next ∷ []
    → (get_or stamps next 0 ≡ image + 1 → ⊥) → longer ≡ order ++ next ∷ [] → more ≡ rest ++ reverse (get_or links next [])
    → left (steps links) longer n + length more < left (steps links) order n + length pending
steps_new links n image stamps order pending rest next longer more kept is stamp longer_is more_is =
    let targets = get_or links next [] in
    let within = All-pop (λ k. k < n) pending rest (Some next) is kept.inside in
    let new : is_listed order next ≡ false = unlisted n image next stamps order (kept.marked next within.1) stamp in
    let falls : left (steps links) (order ++ next ∷ []) n + suc (length targets) ≤ left (steps links) order n = left_falls (steps links) order n next within.1 new in
    let same : left (steps links) longer n ≡ left (steps links) (order ++ next ∷ []) n = ap (λ (os : List ℕ). left (steps links) os n) longer_is in
    let long : length pending ≡ length rest + 1 = ap length is ∙ length-append rest (next ∷ []) in
    let grown : length more ≡ length rest + length targets = ap length more_is ∙ (length-append rest (reverse targets) ∙ ap (λ (l : ℕ). length rest + l) (length-reverse targets)) in
    omega (arith, falls, same, long, grown)

pub search_end : (links : List (List ℕ)) (n image : ℕ) (stamps order pending : List ℕ) → Searching links n image stamps order pending → pending ≡ [] → order ≡ visit n links [] image
search_end links n image stamps order pending kept none = sym (ap (λ (ps : List ℕ). fold (visit n links) order (reverse ps)) none) ∙ kept.same

-- lists in vectors
pub inside_of : (n : ℕ) (links : List (Vec ℕ Global)) → All (λ v. All (λ k. k < n) v.items) links → AreInside n (map items_of links)
inside_of n [] all zero = tt
inside_of n [] all (suc i) = tt
inside_of n (v ∷ vs) all zero = recursion_from_All (λ k. k < n) v.items (All-head (λ (w : Vec ℕ Global). All (λ k. k < n) w.items) v vs all)
inside_of n (v ∷ vs) all (suc i) = inside_of n vs (All-tail (λ (w : Vec ℕ Global). All (λ k. k < n) w.items) v vs all) i

-- the links of one of them
pub links_at : (links : List (Vec ℕ Global)) (next : ℕ) (v : Vec ℕ Global) (items : List ℕ) → next < length links → v ≡ get_or links next v → items ≡ v.items → items ≡ get_or (map items_of links) next []
links_at links next v items lt is same = same ∙ (ap items_of is ∙ sym (get_or-map items_of links next v [] lt))
