-- The pointers that a segment contains stand together, and are those of its number.
use Rattle.std.proofs.Common.{◌≡◌, ◌≤◌, ◌<◌, ℕ, zero, suc, ◌+◌, Bool, true, false, ◌&&◌, cond, inl, inr, List, [], ◌∷◌, ◌++◌, map, take, drop, length, get_or, refl, sym, ap, ap₂, subst, ◌∙◌, arith}
use Rattle.std.specs.Prelude.{filter, nat_eq, nat_lt}
use Rattle.std.specs.List.{All, flat_map, enumerate_from}
use Rattle.std.specs.List.Sorted.{IsNonDecreasingBy, IsPartitionedBy, IsPartitionPoint}
use Rattle.std.proofs.lemmas.Bool.{cond-true, cond-false, cases_Bool}
use Rattle.std.proofs.lemmas.Bool.Decides.{nat_tests}
use Rattle.std.proofs.lemmas.Grind.{flat_map-append}
use Rattle.std.proofs.lemmas.List.{append-nil, get_or-take, get_or-drop, length-drop, take-append-drop}
use Rattle.std.proofs.lemmas.List.Elements.{All-head, All-tail, filter-append}
use Rattle.std.proofs.lemmas.List.Sorted.{IsPartitionedBy-ltb}
use Rattle.std.proofs.lemmas.Option.{slice_get_read}
use Rattle.macho_image.specs.Records.{Seg}
use Rattle.macho_image.specs.Segments.{contains}
use Rattle.prebind.specs.declared.resolved.PlacedWord.{PlacedWord}
use Rattle.cache_layout.specs.Layouts.{Laid}
use Rattle.ref_rewrite.specs.Planned.{leads_to_place, data_offset, chained_in}
use Rattle.ref_rewrite.specs.Steps.{Belong}
use Rattle.ref_rewrite.proofs.CopyLaws.{enumerate-step}

-- ---- the pointers that a segment contains

kept_all : {X : Type 0} (p : X → Bool) (xs : List X) → ((k : ℕ) (d : X) → k < length xs → p (get_or xs k d) ≡ true) → filter p xs ≡ xs
kept_all p [] all = refl
kept_all {X} p (x ∷ xs) all =
    cond-true (p x) (x ∷ filter p xs) (filter p xs) (all 0 x (omega arith)) ∙ ap (λ (l : List X). x ∷ l) (kept_all p xs (λ k d lt. all (suc k) d (omega arith)))

kept_none : {X : Type 0} (p : X → Bool) (xs : List X) → ((k : ℕ) (d : X) → k < length xs → p (get_or xs k d) ≡ false) → filter p xs ≡ []
kept_none p [] none = refl
kept_none {X} p (x ∷ xs) none =
    cond-false (p x) (x ∷ filter p xs) (filter p xs) (none 0 x (omega arith)) ∙ kept_none p xs (λ k d lt. none (suc k) d (omega arith))

-- those that pass a test stand between two places
between : {X : Type 0} (p : X → Bool) (xs : List X) (a b : ℕ) → ((k : ℕ) (d : X) → k < length (take a xs) → p (get_or (take a xs) k d) ≡ false)
    → ((k : ℕ) (d : X) → k < length (take b (drop a xs)) → p (get_or (take b (drop a xs)) k d) ≡ true)
    → ((k : ℕ) (d : X) → k < length (drop b (drop a xs)) → p (get_or (drop b (drop a xs)) k d) ≡ false) → take b (drop a xs) ≡ filter p xs
between {X} p xs a b before here behind =
    let front : List X = take a xs in
    let middle : List X = take b (drop a xs) in
    let end : List X = drop b (drop a xs) in
    sym (ap (λ (l : List X). filter p l) (sym (take-append-drop a xs) ∙ ap (λ (l : List X). take a xs ++ l) (sym (take-append-drop b (drop a xs))))
    ∙ (filter-append p front (middle ++ end)
    ∙ (ap (λ (l : List X). l ++ filter p (middle ++ end)) (kept_none p front before)
    ∙ (filter-append p middle end
    ∙ (ap₂ (λ (l m : List X). l ++ m) (kept_all p middle here) (kept_none p end behind) ∙ append-nil middle)))))

taken_below : {X : Type 0} (n : ℕ) (xs : List X) (k : ℕ) → k < length (take n xs) → (k < n) × (k < length xs)
taken_below zero xs k lt = absurd (omega arith)
taken_below (suc n) [] k lt = absurd (omega arith)
taken_below (suc n) (x ∷ xs) zero lt = (omega arith, omega arith)
taken_below (suc n) (x ∷ xs) (suc k) lt = let rest = taken_below n xs k (omega arith) in (omega (arith, rest.0), omega (arith, rest.1))

contains_below : (s : Seg) (x : ℕ) → nat_lt x s.vmaddr ≡ true → contains s x ≡ false
contains_below s x is = grind (arith, nat_tests)

-- where pointers rise, those below the start of a segment stand first, and of the others those that it contains
pub below_first : (s : Seg) (ws : List PlacedWord) → IsNonDecreasingBy (λ w. w.at.address) ws → IsPartitionedBy (λ w. nat_lt w.at.address s.vmaddr) ws
below_first s ws rises = IsPartitionedBy-ltb (λ (w : PlacedWord). w.at.address) ws s.vmaddr rises

abbrev pub IsPoint : (PlacedWord → Bool) → List PlacedWord → ℕ → Type 0
IsPoint test ws i = IsPartitionPoint (λ w. test w ≡ true) (λ w. test w ≡ false) ws i

from_start : (s : Seg) (ws : List PlacedWord) (a : ℕ) → IsPoint (λ w. nat_lt w.at.address s.vmaddr) ws a → (k : ℕ) (d : PlacedWord) → k < length (drop a ws) → s.vmaddr ≤ (get_or (drop a ws) k d).at.address
from_start s ws a point k d lt =
    let at : get_or (drop a ws) k d ≡ get_or ws (a + k) d = get_or-drop a ws k d in
    let not : nat_lt (get_or ws (a + k) d).at.address s.vmaddr ≡ false = point.1 (a + k) d (omega arith) (omega (arith, lt, length-drop a ws)) in
    let up : s.vmaddr ≤ (get_or ws (a + k) d).at.address = grind (arith, nat_tests) in
    subst (λ (w : PlacedWord). s.vmaddr ≤ w.at.address) (sym at) up

contains_start : (s : Seg) (x y : ℕ) → s.vmaddr ≤ x → x ≤ y → contains s y ≡ true → contains s x ≡ true
contains_start s x y low le is = grind (arith, nat_tests)

contained_behind : (s : Seg) (ws : List PlacedWord) (a : ℕ) → IsNonDecreasingBy (λ w. w.at.address) ws → IsPoint (λ w. nat_lt w.at.address s.vmaddr) ws a → IsPartitionedBy (λ w. contains s w.at.address) (drop a ws)
contained_behind s ws a rises point i j d le lt is =
    let here : get_or (drop a ws) i d ≡ get_or ws (a + i) d = get_or-drop a ws i d in
    let there : get_or (drop a ws) j d ≡ get_or ws (a + j) d = get_or-drop a ws j d in
    let up : (get_or ws (a + i) d).at.address ≤ (get_or ws (a + j) d).at.address = rises (a + i) (a + j) d (omega arith) (omega (arith, lt, length-drop a ws)) in
    let up_here : (get_or (drop a ws) i d).at.address ≤ (get_or (drop a ws) j d).at.address = subst (λ (w : PlacedWord). w.at.address ≤ (get_or (drop a ws) j d).at.address) (sym here) (subst (λ (w : PlacedWord). (get_or ws (a + i) d).at.address ≤ w.at.address) (sym there) up) in
    contains_start s (get_or (drop a ws) i d).at.address (get_or (drop a ws) j d).at.address (from_start s ws a point i d (omega arith)) up_here is

pub contained_first : (s : Seg) (ws rest : List PlacedWord) (a : ℕ) → rest ≡ drop a ws → IsNonDecreasingBy (λ w. w.at.address) ws → IsPoint (λ w. nat_lt w.at.address s.vmaddr) ws a → IsPartitionedBy (λ w. contains s w.at.address) rest
contained_first s ws rest a is rises point = subst (λ (l : List PlacedWord). IsPartitionedBy (λ w. contains s w.at.address) l) (sym is) (contained_behind s ws a rises point)

own_behind : (s : Seg) (ws : List PlacedWord) (a b : ℕ) → IsPoint (λ w. nat_lt w.at.address s.vmaddr) ws a → IsPoint (λ w. contains s w.at.address) (drop a ws) b
    → take b (drop a ws) ≡ filter (λ w. contains s w.at.address) ws
own_behind s ws a b first second =
    between (λ (w : PlacedWord). contains s w.at.address) ws a b
    (λ k d lt.
    let range = taken_below a ws k lt in
    ap (λ (w : PlacedWord). contains s w.at.address) (get_or-take a ws k d range.0) ∙ contains_below s (get_or ws k d).at.address (first.0 k d (omega arith) range.0))
    (λ k d lt.
    let range = taken_below b (drop a ws) k lt in
    ap (λ (w : PlacedWord). contains s w.at.address) (get_or-take b (drop a ws) k d range.0) ∙ second.0 k d (omega arith) range.0)
    (λ k d lt.
    ap (λ (w : PlacedWord). contains s w.at.address) (get_or-drop b (drop a ws) k d) ∙ second.1 (b + k) d (omega arith) (omega (arith, lt, length-drop b (drop a ws))))

pub own_words : (s : Seg) (ws rest : List PlacedWord) (a b : ℕ) → rest ≡ drop a ws → IsPoint (λ w. nat_lt w.at.address s.vmaddr) ws a → IsPoint (λ w. contains s w.at.address) rest b
    → take b rest ≡ filter (λ w. contains s w.at.address) ws
own_words s ws rest a b is first second =
    ap (λ (l : List PlacedWord). take b l) is ∙ own_behind s ws a b first (subst (λ (l : List PlacedWord). IsPoint (λ w. contains s w.at.address) l b) is second)

-- where pointers belong to their segments, these are those of the segment's number
filter_same : {X : Type 0} (p q : X → Bool) (xs : List X) → All (λ x. p x ≡ q x) xs → filter p xs ≡ filter q xs
filter_same p q [] same = refl
filter_same {X} p q (x ∷ xs) same =
    ap₂ (λ (b : Bool) (l : List X). cond b (x ∷ l) l) (All-head (λ (y : X). p y ≡ q y) x xs same) (filter_same p q xs (All-tail (λ (y : X). p y ≡ q y) x xs same))

filter_both : {X : Type 0} (p q : X → Bool) (xs : List X) → filter q (filter p xs) ≡ filter (λ x. p x && q x) xs
filter_both p q [] = refl
filter_both {X} p q (x ∷ xs) = elim (cases_Bool (p x)) [
  | inl pass ↦
      ap (λ (l : List X). filter q l) (cond-true (p x) (x ∷ filter p xs) (filter p xs) pass)
      ∙ (ap (λ (l : List X). cond (q x) (x ∷ l) l) (filter_both p q xs)
      ∙ sym (ap (λ (b : Bool). cond (b && q x) (x ∷ filter (λ y. p y && q y) xs) (filter (λ y. p y && q y) xs)) pass))
  | inr fail ↦
      ap (λ (l : List X). filter q l) (cond-false (p x) (x ∷ filter p xs) (filter p xs) fail)
      ∙ (filter_both p q xs ∙ sym (ap (λ (b : Bool). cond (b && q x) (x ∷ filter (λ y. p y && q y) xs) (filter (λ y. p y && q y) xs)) fail))
]

-- the chained pointers of a segment, by those that it contains
pub chained_own : (l : Laid) (k : ℕ) (ss : List Seg) (ws own : List PlacedWord) (g : ℕ) (s : Seg) → Belong ws ss → g < length ss → s ≡ get_or ss g s → own ≡ filter (λ w. contains s w.at.address) ws
    → map (data_offset l k ss) (filter (λ w. leads_to_place w.target) own) ≡ chained_in l k ss ws (g, s)
chained_own l k ss ws own g s belong lt at is =
    let same : filter (λ (w : PlacedWord). nat_eq w.at.segment g) ws ≡ filter (λ (w : PlacedWord). contains s w.at.address) ws =
    filter_same (λ (w : PlacedWord). nat_eq w.at.segment g) (λ (w : PlacedWord). contains s w.at.address) ws (belong g s (slice_get_read ss (length ss) g s refl lt at)) in
    ap (λ (l' : List PlacedWord). map (data_offset l k ss) (filter (λ (w : PlacedWord). leads_to_place w.target) l')) (is ∙ sym same)
    ∙ ap (λ (l' : List PlacedWord). map (data_offset l k ss) l') (filter_both (λ (w : PlacedWord). nat_eq w.at.segment g) (λ (w : PlacedWord). leads_to_place w.target) ws)

pub chained_more : (l : Laid) (k : ℕ) (ss : List Seg) (ws own : List PlacedWord) (g : ℕ) (s : Seg) (old new : List ℕ) → Belong ws ss → g < length ss → s ≡ get_or ss g s → own ≡ filter (λ w. contains s w.at.address) ws
    → old ≡ flat_map (chained_in l k ss ws) (enumerate_from 0 (take g ss)) → new ≡ old ++ map (data_offset l k ss) (filter (λ w. leads_to_place w.target) own)
    → new ≡ flat_map (chained_in l k ss ws) (enumerate_from 0 (take (g + 1) ss))
chained_more l k ss ws own g s old new belong lt at is before pushed =
    let step = chained_in l k ss ws in
    pushed
    ∙ (ap₂ (λ (a b : List ℕ). a ++ b) before (chained_own l k ss ws own g s belong lt at is)
    ∙ sym (ap (λ (ps : List (ℕ × Seg)). flat_map step ps) (enumerate-step ss g s lt at)
    ∙ (flat_map-append step (enumerate_from 0 (take g ss)) ((g, s) ∷ []) ∙ ap (λ (a : List ℕ). flat_map step (enumerate_from 0 (take g ss)) ++ a) (append-nil (step (g, s))))))
