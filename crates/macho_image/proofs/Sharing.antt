-- Segments share no address exactly where their ranges, sorted, follow one another. Both say that no address is in two ranges, and how many ranges an address is in doesn't hang on their order.
use Rattle.std.proofs.Common.{◌≡◌, ◌≤◌, ◌<◌, ◌⊎◌, ◌+◌, ◌-◌, ℕ, zero, suc, min, max, Bool, true, false, ◌&&◌, List, [], ◌∷◌, ◌++◌, length, get_or, take, drop, map, refl, sym, ap, ◌∙◌, subst, arith, append_assoc, length-append, ap₂, nat_eq, add-one, cond, if◌then◌else◌, nat_le, nat_lt, inl, inr, Option, Some, None, ◌||◌}
use Rattle.std.specs.Prelude.{filter, is_none, IsPermutation}
use Rattle.std.specs.List.{list_any, sum_by}
use Rattle.std.proofs.lemmas.List.{append-nil, take-append-drop, take_more, get_or-append_right}
use Rattle.std.proofs.Math.ListN.{get_or-append}
use Rattle.std.proofs.lemmas.List.Sums.{sum_by-append}
use Rattle.std.proofs.lemmas.List.Sorted.{sum_by-IsPermutation}
use Rattle.std.proofs.lemmas.Bool.{false≢true, and_parts, or_parts}
use Rattle.std.proofs.lemmas.Bool.Decides.{nat_tests}
use Rattle.macho_image.specs.Records.{SegmentLoad}
use Rattle.macho_image.specs.Rules.{shares_address, first_crossing, breaks_segment_shape}
use Rattle.macho_image.proofs.HeaderRules.{shape_parts}
use Rattle.macho_image.specs.Addresses.{range_of, has_addresses, ranges_of, are_in_turn}

abbrev pub one_of : Bool → ℕ
one_of true = 1
one_of false = 0

abbrev pub zero_of : Bool → ℕ
zero_of true = 0
zero_of false = 1

-- 1 where the address is in the range, and 1 where the range has no address
unfoldable pub hit : ℕ → (ℕ × ℕ) → ℕ
hit a r = one_of (nat_le r.0 a && nat_lt a r.1)

unfoldable pub blank : (ℕ × ℕ) → ℕ
blank r = zero_of (nat_lt r.0 r.1)

-- the sum of a number over ranges, and over segments
abbrev pub over : ((ℕ × ℕ) → ℕ) → List (ℕ × ℕ) → ℕ
over f [] = 0
over f (r ∷ rs) = f r + over f rs

abbrev pub hits_of : ℕ → List SegmentLoad → ℕ
hits_of a [] = 0
hits_of a (s ∷ ss) = hit a (range_of s) + hits_of a ss

pub over_sum : (f : (ℕ × ℕ) → ℕ) (rs : List (ℕ × ℕ)) → over f rs ≡ sum_by f rs
over_sum f [] = refl
over_sum f (r ∷ rs) = omega (arith, over_sum f rs, sum_by-append f (r ∷ []) rs)

pub over_permuted : (f : (ℕ × ℕ) → ℕ) (rs ss : List (ℕ × ℕ)) → IsPermutation rs ss → over f ss ≡ over f rs
over_permuted f rs ss same = over_sum f ss ∙ (sum_by-IsPermutation f rs ss same ∙ sym (over_sum f rs))

pub hits_of-append : (a : ℕ) (ss ts : List SegmentLoad) → hits_of a (ss ++ ts) ≡ hits_of a ss + hits_of a ts
hits_of-append a [] ts = omega arith
hits_of-append a (s ∷ ss) ts = omega (arith, hits_of-append a ss ts)

one_if : (b : Bool) → ((b ≡ false) × (one_of b ≡ 0)) ⊎ ((b ≡ true) × (one_of b ≡ 1))
one_if true = inr (refl, refl)
one_if false = inl (refl, refl)

none_if : (b : Bool) → zero_of b ≡ 0 → b ≡ true
none_if true e = refl
none_if false e = absurd (omega arith)

some-none : (k : ℕ) → Some k ≡ None → ⊥
some-none k e = cc

pub hit_cases : (a : ℕ) (r : ℕ × ℕ) → (hit a r ≡ 0) ⊎ ((hit a r ≡ 1) × (r.0 ≤ a) × (a < r.1))
unfolding hit
hit_cases a r = elim (one_if (nat_le r.0 a && nat_lt a r.1)) [
  | inl w ↦ inl w.1
  | inr w ↦ let parts = and_parts (nat_le r.0 a) (nat_lt a r.1) w.0 in
      let low : nat_le r.0 a ≡ true = parts.0 in let high : nat_lt a r.1 ≡ true = parts.1 in
      inr (w.1, grind (arith, nat_tests), grind (arith, nat_tests))
]

pub hit_in : (a : ℕ) (r : ℕ × ℕ) → r.0 ≤ a → a < r.1 → hit a r ≡ 1
unfolding hit
hit_in a r low high =
    let test : (nat_le r.0 a && nat_lt a r.1) ≡ true = grind (arith, nat_tests) in
    ap one_of test

pub blank_none : (r : ℕ × ℕ) → blank r ≡ 0 → r.0 < r.1
unfolding blank
blank_none r e = let some : nat_lt r.0 r.1 ≡ true = none_if (nat_lt r.0 r.1) e in grind (arith, nat_tests)

-- ranges with addresses that follow one another: an address is in one of them at most, and in none below the floor
pub turn_few : (a floor : ℕ) (rs : List (ℕ × ℕ)) → over blank rs ≡ 0 → are_in_turn floor rs ≡ true → (a < floor → over (hit a) rs ≡ 0) × (over (hit a) rs ≤ 1)
turn_few a floor [] some turn = (λ below. refl, omega arith)
turn_few a floor (r ∷ rs) some turn =
    let parts = and_parts (nat_le floor r.0) (are_in_turn r.1 rs) turn in
    let here : nat_le floor r.0 ≡ true = parts.0 in
    let from : floor ≤ r.0 = grind (arith, nat_tests) in
    let wide : r.0 < r.1 = blank_none r (omega arith) in
    let later = turn_few a r.1 rs (omega arith) parts.1 in
    elim (hit_cases a r) [
      | inl w ↦ (λ below. let none : over (hit a) rs ≡ 0 = later.0 (omega arith) in omega (arith, none, w), omega (arith, later.1, w))
      | inr w ↦
          let none : over (hit a) rs ≡ 0 = later.0 (omega (arith, w.2)) in
          (λ below. absurd (omega (arith, w.1, from, below)), omega (arith, w.0, none))
    ]

-- the ranges rise by their starts
abbrev pub Rises : List (ℕ × ℕ) → Type 0
Rises rs = (k : ℕ) (d : ℕ × ℕ) → suc k < length rs → (get_or rs k d).0 ≤ (get_or rs (suc k) d).0

rises_behind : (r : ℕ × ℕ) (rs : List (ℕ × ℕ)) → Rises (r ∷ rs) → Rises rs
rises_behind r rs rises = λ k d lt. rises (suc k) d (omega arith)

-- sorted ranges with addresses that don't follow one another: an address is in two of them
pub turn_many : (r : ℕ × ℕ) (rs : List (ℕ × ℕ)) → over blank (r ∷ rs) ≡ 0 → Rises (r ∷ rs) → are_in_turn r.1 rs ≡ false → (a : ℕ) × (2 ≤ over (hit a) (r ∷ rs))
turn_many r [] some rises turn = absurd (cc)
turn_many r (q ∷ rs) some rises turn =
    let wide : q.0 < q.1 = blank_none q (omega arith) in
    let up : r.0 ≤ q.0 = rises 0 r (omega arith) in
    elim (one_if (nat_le r.1 q.0)) [
      | inl w ↦
          let not_behind : nat_le r.1 q.0 ≡ false = w.0 in
          let inside : q.0 < r.1 = grind (arith, nat_tests) in
          (q.0, omega (arith, hit_in q.0 r up inside, hit_in q.0 q (omega arith) wide))
      | inr w ↦
          let behind : nat_le r.1 q.0 ≡ true = w.0 in
          let later : are_in_turn q.1 rs ≡ false = sym (ap (λ (b : Bool). b && are_in_turn q.1 rs) behind) ∙ turn in
          let found = turn_many q rs (omega arith) (rises_behind r (q ∷ rs) rises) later in
          (found.0, omega (arith, found.1))
    ]

-- the first address of two segments' overlap is in both
meets : (s t : SegmentLoad) → shares_address t s ≡ true → (a : ℕ) × (hit a (range_of s) ≡ 1) × (hit a (range_of t) ≡ 1)
meets s t share =
    let low : max t.vmaddr s.vmaddr < min (t.vmaddr + t.vmsize) (s.vmaddr + s.vmsize) = grind (arith, nat_tests) in
    (max t.vmaddr s.vmaddr, hit_in (max t.vmaddr s.vmaddr) (range_of s) (omega arith) (omega arith), hit_in (max t.vmaddr s.vmaddr) (range_of t) (omega arith) (omega arith))

-- two segments with a common address share one
met : (a : ℕ) (s t : SegmentLoad) → s.vmaddr ≤ a → a < s.vmaddr + s.vmsize → t.vmaddr ≤ a → a < t.vmaddr + t.vmsize → shares_address t s ≡ true
met a s t s_low s_high t_low t_high =
    let low : max t.vmaddr s.vmaddr < min (t.vmaddr + t.vmsize) (s.vmaddr + s.vmsize) = omega arith in
    grind (arith, nat_tests)

some_meets : (earlier : List SegmentLoad) (s : SegmentLoad) → list_any (λ t. shares_address t s) earlier ≡ true → (a : ℕ) × (hit a (range_of s) ≡ 1) × (1 ≤ hits_of a earlier)
some_meets [] s any = absurd (cc)
some_meets (t ∷ ts) s any = elim (one_if (shares_address t s)) [
  | inl w ↦
      let rest : list_any (λ t. shares_address t s) ts ≡ true = sym (ap (λ (b : Bool). b || list_any (λ t. shares_address t s) ts) w.0) ∙ any in
      let found = some_meets ts s rest in
      (found.0, found.1, omega (arith, found.2))
  | inr w ↦ let both_in = meets s t w.0 in (both_in.0, both_in.1, omega (arith, both_in.2))
]

none_meets : (a : ℕ) (earlier : List SegmentLoad) (s : SegmentLoad) → list_any (λ t. shares_address t s) earlier ≡ false → s.vmaddr ≤ a → a < s.vmaddr + s.vmsize → hits_of a earlier ≡ 0
none_meets a [] s none low high = refl
none_meets a (t ∷ ts) s none low high = elim (one_if (shares_address t s)) [
  | inl w ↦
      let rest : list_any (λ t. shares_address t s) ts ≡ false = sym (ap (λ (b : Bool). b || list_any (λ t. shares_address t s) ts) w.0) ∙ none in
      let later = none_meets a ts s rest low high in
      elim (hit_cases a (range_of t)) [
        | inl out ↦ omega (arith, later, out)
        | inr inside ↦ absurd (false≢true (sym w.0 ∙ met a s t low high inside.1 inside.2))
      ]
  | inr w ↦ absurd (false≢true (sym none ∙ ap (λ (b : Bool). b || list_any (λ t. shares_address t s) ts) w.0))
]

-- no segment shares an address with an earlier one: an address is in one of them at most
pub crossing_few : (a : ℕ) (earlier ss : List SegmentLoad) → first_crossing earlier ss ≡ None → hits_of a earlier ≤ 1 → hits_of a (earlier ++ ss) ≤ 1
crossing_few a earlier [] none few = omega (arith, hits_of-append a earlier [])
crossing_few a earlier (s ∷ ss) none few = elim (one_if (list_any (λ t. shares_address t s) earlier)) [
  | inl w ↦
      let rest : first_crossing (earlier ++ s ∷ []) ss ≡ None = sym (ap (λ (b : Bool). if b then Some s.at else first_crossing (earlier ++ s ∷ []) ss) w.0) ∙ none in
      let more : hits_of a (earlier ++ s ∷ []) ≤ 1 = elim (hit_cases a (range_of s)) [
        | inl out ↦ omega (arith, hits_of-append a earlier (s ∷ []), out)
        | inr inside ↦ omega (arith, hits_of-append a earlier (s ∷ []), inside.0, none_meets a earlier s w.0 inside.1 inside.2)
      ] in
      subst (λ (l : List SegmentLoad). hits_of a l ≤ 1) (append_assoc earlier (s ∷ []) ss) (crossing_few a (earlier ++ s ∷ []) ss rest more)
  | inr w ↦ absurd (some-none s.at (sym (ap (λ (b : Bool). if b then Some s.at else first_crossing (earlier ++ s ∷ []) ss) w.0) ∙ none))
]

-- a segment shares an address with an earlier one: an address is in two of them
pub crossing_many : (earlier ss : List SegmentLoad) (k : ℕ) → first_crossing earlier ss ≡ Some k → (a : ℕ) × (2 ≤ hits_of a (earlier ++ ss))
crossing_many earlier [] k found = absurd (cc)
crossing_many earlier (s ∷ ss) k found = elim (one_if (list_any (λ t. shares_address t s) earlier)) [
  | inl w ↦
      let rest : first_crossing (earlier ++ s ∷ []) ss ≡ Some k = sym (ap (λ (b : Bool). if b then Some s.at else first_crossing (earlier ++ s ∷ []) ss) w.0) ∙ found in
      let later = crossing_many (earlier ++ s ∷ []) ss k rest in
      (later.0, subst (λ (l : List SegmentLoad). 2 ≤ hits_of later.0 l) (append_assoc earlier (s ∷ []) ss) later.1)
  | inr w ↦ let hit_twice = some_meets earlier s w.0 in
      (hit_twice.0, omega (arith, hits_of-append hit_twice.0 earlier (s ∷ ss), hit_twice.1, hit_twice.2))
]

hits_ranges : (a : ℕ) (ss : List SegmentLoad) → over (hit a) (ranges_of ss) ≡ hits_of a ss
hits_ranges a [] = refl
hits_ranges a (s ∷ ss) = elim (one_if (has_addresses s)) [
  | inl w ↦
      let empty : s.vmsize ≡ 0 = let test : nat_lt 0 s.vmsize ≡ false = w.0 in grind (arith, nat_tests) in
      let out : hit a (range_of s) ≡ 0 = elim (hit_cases a (range_of s)) [ inl none ↦ none | inr inside ↦ absurd (omega (arith, inside.1, inside.2, empty)) ] in
      let same : over (hit a) (ranges_of (s ∷ ss)) ≡ over (hit a) (ranges_of ss) =
      ap (λ (b : Bool). over (hit a) (map range_of (cond b (s ∷ filter has_addresses ss) (filter has_addresses ss)))) w.0 in
      omega (arith, same, out, hits_ranges a ss)
  | inr w ↦
      let same : over (hit a) (ranges_of (s ∷ ss)) ≡ hit a (range_of s) + over (hit a) (ranges_of ss) =
      ap (λ (b : Bool). over (hit a) (map range_of (cond b (s ∷ filter has_addresses ss) (filter has_addresses ss)))) w.0 in
      omega (arith, same, hits_ranges a ss)
]

blank_ranges : (ss : List SegmentLoad) → over blank (ranges_of ss) ≡ 0
unfolding blank
blank_ranges [] = refl
blank_ranges (s ∷ ss) = elim (one_if (has_addresses s)) [
  | inl w ↦ ap (λ (b : Bool). over blank (map range_of (cond b (s ∷ filter has_addresses ss) (filter has_addresses ss)))) w.0 ∙ blank_ranges ss
  | inr w ↦
      let some : nat_lt s.vmaddr (s.vmaddr + s.vmsize) ≡ true = let test : nat_lt 0 s.vmsize ≡ true = w.0 in grind (arith, nat_tests) in
      let here : blank (range_of s) ≡ 0 = ap zero_of some in
      ap (λ (b : Bool). over blank (map range_of (cond b (s ∷ filter has_addresses ss) (filter has_addresses ss)))) w.0 ∙ omega (arith, here, blank_ranges ss)
]

decided : (b : Bool) (o : Option ℕ) → (b ≡ true → (k : ℕ) → o ≡ Some k → ⊥) → (b ≡ false → o ≡ None → ⊥) → b ≡ is_none o
decided true None some none = refl
decided true (Some k) some none = absurd (some refl k refl)
decided false None some none = absurd (none refl refl)
decided false (Some k) some none = refl

turn_fails : (rs : List (ℕ × ℕ)) → over blank rs ≡ 0 → Rises rs → are_in_turn 0 rs ≡ false → (a : ℕ) × (2 ≤ over (hit a) rs)
turn_fails [] some rises turn = absurd (cc)
turn_fails (r ∷ rs) some rises turn =
    let from : nat_le 0 r.0 ≡ true = grind (arith, nat_tests) in
    turn_many r rs some rises (sym (ap (λ (b : Bool). b && are_in_turn r.1 rs) from) ∙ turn)

-- sorted, the ranges follow one another exactly where no segment shares an address with an earlier one
pub turn_is : (ss : List SegmentLoad) (rs : List (ℕ × ℕ)) → IsPermutation (ranges_of ss) rs → ((k : ℕ) (d : ℕ × ℕ) → k + 1 < length rs → (get_or rs k d).0 ≤ (get_or rs (k + 1) d).0)
    → are_in_turn 0 rs ≡ is_none (first_crossing [] ss)
turn_is ss rs same rises =
    let up : Rises rs = λ k d lt. subst (λ (j : ℕ). (get_or rs k d).0 ≤ (get_or rs j d).0) (add-one k) (rises k d (omega arith)) in
    let some : over blank rs ≡ 0 = over_permuted blank (ranges_of ss) rs same ∙ blank_ranges ss in
    let count : (a : ℕ) → over (hit a) rs ≡ hits_of a ss = λ a. over_permuted (hit a) (ranges_of ss) rs same ∙ hits_ranges a ss in
    decided (are_in_turn 0 rs) (first_crossing [] ss)
    (λ turn k found.
    let twice = crossing_many [] ss k found in
    let once = turn_few twice.0 0 rs some turn in
    omega (arith, count twice.0, twice.1, once.1))
    (λ turn none.
    let twice = turn_fails rs some up turn in
    omega (arith, count twice.0, twice.1, crossing_few twice.0 [] ss none (omega arith)))

-- behind segments that share no address, and behind some that do
crossing_behind : (earlier ss ts : List SegmentLoad) → first_crossing earlier ss ≡ None → first_crossing earlier (ss ++ ts) ≡ first_crossing (earlier ++ ss) ts
crossing_behind earlier [] ts none = ap (λ (l : List SegmentLoad). first_crossing l ts) (sym (append-nil earlier))
crossing_behind earlier (s ∷ ss) ts none = elim (one_if (list_any (λ t. shares_address t s) earlier)) [
  | inl w ↦
      let rest : first_crossing (earlier ++ s ∷ []) ss ≡ None = sym (ap (λ (b : Bool). if b then Some s.at else first_crossing (earlier ++ s ∷ []) ss) w.0) ∙ none in
      ap (λ (b : Bool). if b then Some s.at else first_crossing (earlier ++ s ∷ []) (ss ++ ts)) w.0
      ∙ (crossing_behind (earlier ++ s ∷ []) ss ts rest ∙ ap (λ (l : List SegmentLoad). first_crossing l ts) (append_assoc earlier (s ∷ []) ss))
  | inr w ↦ absurd (some-none s.at (sym (ap (λ (b : Bool). if b then Some s.at else first_crossing (earlier ++ s ∷ []) ss) w.0) ∙ none))
]

crossing_before : (earlier ss ts : List SegmentLoad) (k : ℕ) → first_crossing earlier ss ≡ Some k → first_crossing earlier (ss ++ ts) ≡ Some k
crossing_before earlier [] ts k found = absurd (cc)
crossing_before earlier (s ∷ ss) ts k found = elim (one_if (list_any (λ t. shares_address t s) earlier)) [
  | inl w ↦
      let rest : first_crossing (earlier ++ s ∷ []) ss ≡ Some k = sym (ap (λ (b : Bool). if b then Some s.at else first_crossing (earlier ++ s ∷ []) ss) w.0) ∙ found in
      ap (λ (b : Bool). if b then Some s.at else first_crossing (earlier ++ s ∷ []) (ss ++ ts)) w.0 ∙ crossing_before (earlier ++ s ∷ []) ss ts k rest
  | inr w ↦
      ap (λ (b : Bool). if b then Some s.at else first_crossing (earlier ++ s ∷ []) (ss ++ ts)) w.0
      ∙ (sym (ap (λ (b : Bool). if b then Some s.at else first_crossing (earlier ++ s ∷ []) ss) w.0) ∙ found)
]

none_is : (o : Option ℕ) → is_none o ≡ true → o ≡ None
none_is None e = refl
none_is (Some k) e = absurd (cc)

only_one : (b : Bool) (k : ℕ) → is_none (if b then Some k else None) ≡ false → (if b then Some k else None) ≡ Some k
only_one true k e = refl
only_one false k e = absurd (cc)

-- the first segments that share an address end with the first one that shares one with an earlier one
pub crossing_at : (ss : List SegmentLoad) (i : ℕ) (d : SegmentLoad) → i < length ss → is_none (first_crossing [] (take i ss)) ≡ true
    → is_none (first_crossing [] (take (i + 1) ss)) ≡ false → first_crossing [] ss ≡ Some (get_or ss i d).at
crossing_at ss i d lt apart cross =
    let last = get_or ss i d in
    let longer : take (i + 1) ss ≡ take i ss ++ last ∷ [] = take_more ss i d lt in
    let steps : first_crossing [] (take (i + 1) ss) ≡ (if list_any (λ t. shares_address t last) (take i ss) then Some last.at else None) =
    ap (λ (l : List SegmentLoad). first_crossing [] l) longer ∙ crossing_behind [] (take i ss) (last ∷ []) (none_is (first_crossing [] (take i ss)) apart) in
    let here : first_crossing [] (take (i + 1) ss) ≡ Some last.at =
    steps ∙ only_one (list_any (λ t. shares_address t last) (take i ss)) last.at (sym (ap is_none steps) ∙ cross) in
    ap (λ (l : List SegmentLoad). first_crossing [] l) (sym (take-append-drop (i + 1) ss)) ∙ crossing_before [] (take (i + 1) ss) (drop (i + 1) ss) last.at here

-- no two segments share an address
none_of : (p : SegmentLoad → Bool) (ss : List SegmentLoad) (i : ℕ) (d : SegmentLoad) → i < length ss → list_any p ss ≡ false → p (get_or ss i d) ≡ false
none_of p [] i d lt none = absurd (omega arith)
none_of p (s ∷ ss) zero d lt none = (or_parts (p s) (list_any p ss) none).0
none_of p (s ∷ ss) (suc i) d lt none = none_of p ss i d (omega arith) (or_parts (p s) (list_any p ss) none).1

pub crossing_apart : (earlier ss : List SegmentLoad) → first_crossing earlier ss ≡ None → (i j : ℕ) (d : SegmentLoad) → i < j → length earlier ≤ j → j < length (earlier ++ ss)
    → shares_address (get_or (earlier ++ ss) i d) (get_or (earlier ++ ss) j d) ≡ false
crossing_apart earlier [] none i j d lt behind within = absurd (omega (arith, ap length (append-nil earlier)))
crossing_apart earlier (s ∷ ss) none i j d lt behind within = elim (one_if (list_any (λ t. shares_address t s) earlier)) [
  | inl w ↦
      let rest : first_crossing (earlier ++ s ∷ []) ss ≡ None = sym (ap (λ (b : Bool). if b then Some s.at else first_crossing (earlier ++ s ∷ []) ss) w.0) ∙ none in
      elim (one_if (nat_eq j (length earlier))) [
        | inl other ↦
            let later : length (earlier ++ s ∷ []) ≤ j =
            let differs : nat_eq j (length earlier) ≡ false = other.0 in
            let above : length earlier < j = grind (arith, nat_tests) in
            omega (arith, length-append earlier (s ∷ [])) in
            let whole : (earlier ++ s ∷ []) ++ ss ≡ earlier ++ s ∷ ss = append_assoc earlier (s ∷ []) ss in
            subst (λ (l : List SegmentLoad). shares_address (get_or l i d) (get_or l j d) ≡ false) whole
            (crossing_apart (earlier ++ s ∷ []) ss rest i j d lt later (omega (arith, ap length whole, within)))
        | inr this ↦
            let same : nat_eq j (length earlier) ≡ true = this.0 in
            let at_end : j ≡ length earlier = grind (arith, nat_tests) in
            let first : get_or (earlier ++ s ∷ ss) i d ≡ get_or earlier i d = get_or-append earlier (s ∷ ss) d i (omega arith) in
            let start : j - length earlier ≡ 0 = omega arith in
            let second : get_or (earlier ++ s ∷ ss) j d ≡ s =
            get_or-append_right earlier (s ∷ ss) (length earlier) j d refl (omega arith) ∙ ap (λ (k : ℕ). get_or (s ∷ ss) k d) start in
            ap₂ (λ (t u : SegmentLoad). shares_address t u) first second ∙ none_of (λ t. shares_address t s) earlier i d (omega arith) w.0
      ]
  | inr w ↦ absurd (some-none s.at (sym (ap (λ (b : Bool). if b then Some s.at else first_crossing (earlier ++ s ∷ []) ss) w.0) ∙ none))
]

-- the segments of a header that keeps the rule on their shape share no address
pub segments_apart : (size : ℕ) (ss : List SegmentLoad) → breaks_segment_shape size ss ≡ None → (i j : ℕ) (d : SegmentLoad) → i < j → j < length ss
    → shares_address (get_or ss i d) (get_or ss j d) ≡ false
segments_apart size ss none i j d lt within = crossing_apart [] ss (shape_parts size ss none).2 i j d lt (omega arith) within
