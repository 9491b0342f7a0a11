-- Marks of pages, and when a segment that begins a page shares an address with one of some others.
use Rattle.std.proofs.Common.{◌≡◌, ◌≤◌, ◌<◌, ℕ, zero, suc, ◌+◌, ◌-◌, ◌*◌, ◌/◌, ◌%◌, Bool, true, false, ◌||◌, nat_le, nat_lt, List, [], ◌∷◌, ◌++◌, take, drop, length, get_or, replicate, refl, sym, ap, ap₂, ◌∙◌, inl, inr, arith, length-append, length-drop}
use Rattle.std.specs.Prelude.{max, min}
use Rattle.std.specs.List.{list_any}
use Rattle.std.proofs.lemmas.Bool.{lt-ltb, le-ltb, ltb-true, le-leb, lt-leb, leb-true, and_parts, and_from, and_left, and_right, or_cases, or_left, or_right, cases_lt, false≢true}
use Rattle.std.proofs.lemmas.List.{get_or-take, get_or-drop, get_or-append_right, get_or_append_left, get_or-replicate, length-take-le, length-replicate}
use Rattle.std.proofs.lemmas.List.Folds.{list_any-append}
use Rattle.dsc_base.specs.Region.{region_start}
use Rattle.macho_image.specs.Records.{Seg}
use Rattle.cache_check.specs.Images.{shares}
use Rattle.cache_check.specs.Steps.Pages.{covers, first_page, end_page, is_marked, marked, AreMarked, AreAligned}

-- ---- the pages of a segment, by numbers

pub page_order : (n : ℕ) (s : Seg) → first_page n s ≤ end_page n s
unfolding first_page end_page
page_order n s = omega arith

end_within : (n : ℕ) (s : Seg) → end_page n s ≤ n
unfolding end_page
end_within n s = omega arith

-- a page before the first, one between, and one behind
before_first : (n p : ℕ) (s : Seg) → p < first_page n s → covers p s ≡ false
unfolding first_page
before_first n p s lt = and_left (nat_le s.vmaddr (region_start + 4096 * p)) (nat_lt (region_start + 4096 * p) (s.vmaddr + s.vmsize)) (lt-leb s.vmaddr (region_start + 4096 * p) (omega (arith, lt)))

between : (n p : ℕ) (s : Seg) → s.vmaddr % 4096 ≡ 0 → first_page n s ≤ p → p < end_page n s → covers p s ≡ true
unfolding first_page end_page
between n p s aligned le lt =
    and_from (nat_le s.vmaddr (region_start + 4096 * p)) (nat_lt (region_start + 4096 * p) (s.vmaddr + s.vmsize))
    (le-leb s.vmaddr (region_start + 4096 * p) (omega (arith, aligned, le, lt))) (lt-ltb (region_start + 4096 * p) (s.vmaddr + s.vmsize) (omega (arith, lt)))

behind_end : (n p : ℕ) (s : Seg) → p < n → end_page n s ≤ p → covers p s ≡ false
unfolding end_page
behind_end n p s within le =
    and_right (nat_le s.vmaddr (region_start + 4096 * p)) (nat_lt (region_start + 4096 * p) (s.vmaddr + s.vmsize)) (le-ltb (region_start + 4096 * p) (s.vmaddr + s.vmsize) (omega (arith, within, le)))

-- a page that is covered lies between
covered_between : (n p : ℕ) (s : Seg) → p < n → covers p s ≡ true → (first_page n s ≤ p) × (p < end_page n s)
unfolding first_page end_page
covered_between n p s within is =
    let parts = and_parts (nat_le s.vmaddr (region_start + 4096 * p)) (nat_lt (region_start + 4096 * p) (s.vmaddr + s.vmsize)) is in
    let low = leb-true s.vmaddr (region_start + 4096 * p) parts.0 in
    let high = ltb-true (region_start + 4096 * p) (s.vmaddr + s.vmsize) parts.1 in
    (omega (arith, low, within), omega (arith, high, within))

-- ---- marking

or_false : (b : Bool) → b ≡ (b || false)
or_false true = refl
or_false false = refl

or_true : (b c : Bool) → c ≡ true → true ≡ (b || c)
or_true true c is = refl
or_true false c is = sym is

pub length-marked : (marks : List Bool) (s : Seg) → length (marked marks s) ≡ length marks
unfolding marked
length-marked marks s =
    let f : ℕ = first_page (length marks) s in
    let e : ℕ = end_page (length marks) s in
    let order : first_page (length marks) s ≤ end_page (length marks) s = page_order (length marks) s in
    let most : end_page (length marks) s ≤ length marks = end_within (length marks) s in
    let one : length (take (first_page (length marks) s) marks) ≡ first_page (length marks) s = length-take-le (first_page (length marks) s) marks (omega arith) in
    let two : length (replicate (end_page (length marks) s - first_page (length marks) s) true) ≡ end_page (length marks) s - first_page (length marks) s = length-replicate (end_page (length marks) s - first_page (length marks) s) true in
    length-append (take f marks) (replicate (e - f) true ++ drop e marks)
    ∙ omega (arith, one, two, length-append (replicate (e - f) true) (drop e marks), length-drop e marks)

mark_at : (marks : List Bool) (s : Seg) (p : ℕ) → s.vmaddr % 4096 ≡ 0 → p < length marks → get_or (marked marks s) p false ≡ (get_or marks p false || covers p s)
unfolding marked
mark_at marks s p aligned within =
    let f : ℕ = first_page (length marks) s in
    let e : ℕ = end_page (length marks) s in
    let order : first_page (length marks) s ≤ end_page (length marks) s = page_order (length marks) s in
    let most : end_page (length marks) s ≤ length marks = end_within (length marks) s in
    let one : length (take (first_page (length marks) s) marks) ≡ first_page (length marks) s = length-take-le (first_page (length marks) s) marks (omega arith) in
    let two : length (replicate (end_page (length marks) s - first_page (length marks) s) true) ≡ end_page (length marks) s - first_page (length marks) s = length-replicate (end_page (length marks) s - first_page (length marks) s) true in
    elim (cases_lt p (first_page (length marks) s)) [
      | inl before ↦
          get_or_append_left (take f marks) (replicate (e - f) true ++ drop e marks) false p (omega (arith, before, one))
          ∙ (get_or-take f marks p false before ∙ (or_false (get_or marks p false) ∙ ap (λ (b : Bool). get_or marks p false || b) (sym (before_first (length marks) p s before))))
      | inr over ↦
          get_or-append_right (take f marks) (replicate (e - f) true ++ drop e marks) f p false one over
          ∙ elim (cases_lt p (end_page (length marks) s)) [
            | inl inside ↦
                get_or_append_left (replicate (e - f) true) (drop e marks) false (p - f) (omega (arith, two, over, inside))
                ∙ (get_or-replicate (e - f) (p - f) true false (omega (arith, over, inside)) ∙ or_true (get_or marks p false) (covers p s) (between (length marks) p s aligned over inside))
            | inr behind ↦
                let place : e + (p - f - (e - f)) ≡ p = omega (arith, order, behind) in
                get_or-append_right (replicate (e - f) true) (drop e marks) (e - f) (p - f) false two (omega (arith, behind))
                ∙ (get_or-drop e marks (p - f - (e - f)) false
                ∙ (ap (λ (k : ℕ). get_or marks k false) place
                ∙ (or_false (get_or marks p false) ∙ ap (λ (b : Bool). get_or marks p false || b) (sym (behind_end (length marks) p s within behind)))))
          ]
    ]

pub marked_more : (marks : List Bool) (earlier : List Seg) (s : Seg) → s.vmaddr % 4096 ≡ 0 → AreMarked marks earlier → AreMarked (marked marks s) (earlier ++ s ∷ [])
marked_more marks earlier s aligned are p lt =
    let within : p < length marks = omega (arith, lt, length-marked marks s) in
    mark_at marks s p aligned within
    ∙ (ap₂ (λ (a b : Bool). a || b) (are p within) (or_false (covers p s)) ∙ sym (list_any-append (covers p) earlier (s ∷ [])))

pub marked_none : (n : ℕ) → AreMarked (replicate n false) []
marked_none n p lt = get_or-replicate n p false false (omega (arith, lt, length-replicate n false))

-- ---- what marks tell

-- a mark among some, and its number
any_at : (xs : List Bool) → list_any (λ (m : Bool). m) xs ≡ true → (j : ℕ) × ((j < length xs) × (get_or xs j false ≡ true))
any_at [] there = absurd (false≢true there)
any_at (true ∷ xs) there = (0, (omega arith, refl))
any_at (false ∷ xs) there = let later = any_at xs there in (suc later.0, (omega (arith, later.1.0), later.1.1))

at_any : (xs : List Bool) (j : ℕ) → get_or xs j false ≡ true → list_any (λ (m : Bool). m) xs ≡ true
at_any [] j is = absurd (false≢true is)
at_any (true ∷ xs) j is = refl
at_any (false ∷ xs) zero is = absurd (false≢true is)
at_any (false ∷ xs) (suc j) is = at_any xs j is

marked_at : (marks : List Bool) (s : Seg) → is_marked marks s ≡ true → (p : ℕ) × ((first_page (length marks) s ≤ p) × ((p < end_page (length marks) s) × (get_or marks p false ≡ true)))
unfolding is_marked
marked_at marks s is =
    let f : ℕ = first_page (length marks) s in
    let e : ℕ = end_page (length marks) s in
    let most : end_page (length marks) s ≤ length marks = end_within (length marks) s in
    let found = any_at (take (e - f) (drop f marks)) is in
    let long : length (take (end_page (length marks) s - first_page (length marks) s) (drop (first_page (length marks) s) marks)) ≡ end_page (length marks) s - first_page (length marks) s =
    length-take-le (e - f) (drop f marks) (omega (arith, most, length-drop f marks)) in
    let lt : found.0 < end_page (length marks) s - first_page (length marks) s = omega (arith, found.1.0, long) in
    (f + found.0, (omega arith, (omega (arith, lt), sym (get_or-take (e - f) (drop f marks) found.0 false lt ∙ get_or-drop f marks found.0 false) ∙ found.1.1)))

at_marked : (marks : List Bool) (s : Seg) (p : ℕ) → first_page (length marks) s ≤ p → p < end_page (length marks) s → get_or marks p false ≡ true → is_marked marks s ≡ true
unfolding is_marked
at_marked marks s p le lt is =
    let f : ℕ = first_page (length marks) s in
    let e : ℕ = end_page (length marks) s in
    let place : f + (p - f) ≡ p = omega (arith, le) in
    at_any (take (e - f) (drop f marks)) (p - f)
    (get_or-take (e - f) (drop f marks) (p - f) false (omega (arith, le, lt)) ∙ (get_or-drop f marks (p - f) false ∙ (ap (λ (k : ℕ). get_or marks k false) place ∙ is)))

-- ---- shared addresses

-- both have a page's first address
shares_page : (s t : Seg) (p : ℕ) → covers p s ≡ true → covers p t ≡ true → shares s t ≡ true
shares_page s t p own other =
    let a = and_parts (nat_le s.vmaddr (region_start + 4096 * p)) (nat_lt (region_start + 4096 * p) (s.vmaddr + s.vmsize)) own in
    let b = and_parts (nat_le t.vmaddr (region_start + 4096 * p)) (nat_lt (region_start + 4096 * p) (t.vmaddr + t.vmsize)) other in
    let a_low = leb-true s.vmaddr (region_start + 4096 * p) a.0 in
    let a_high = ltb-true (region_start + 4096 * p) (s.vmaddr + s.vmsize) a.1 in
    let b_low = leb-true t.vmaddr (region_start + 4096 * p) b.0 in
    let b_high = ltb-true (region_start + 4096 * p) (t.vmaddr + t.vmsize) b.1 in
    lt-ltb (max s.vmaddr t.vmaddr) (min (s.vmaddr + s.vmsize) (t.vmaddr + t.vmsize)) (omega (arith, a_low, a_high, b_low, b_high))

-- the first page of what two segments share
abbrev shared_page : Seg → Seg → ℕ
shared_page s t = (max s.vmaddr t.vmaddr - region_start) / 4096

page_shared : (s t : Seg) → s.vmaddr % 4096 ≡ 0 → t.vmaddr % 4096 ≡ 0 → region_start ≤ s.vmaddr → shares s t ≡ true → (covers (shared_page s t) s ≡ true) × (covers (shared_page s t) t ≡ true)
page_shared s t own other low is =
    let lt : max s.vmaddr t.vmaddr < min (s.vmaddr + s.vmsize) (t.vmaddr + t.vmsize) = ltb-true (max s.vmaddr t.vmaddr) (min (s.vmaddr + s.vmsize) (t.vmaddr + t.vmsize)) is in
    let whole : max s.vmaddr t.vmaddr % 4096 ≡ 0 = omega (arith, own, other) in
    let place : region_start + 4096 * ((max s.vmaddr t.vmaddr - region_start) / 4096) ≡ max s.vmaddr t.vmaddr = omega (arith, whole, low) in (
      and_from (nat_le s.vmaddr (region_start + 4096 * shared_page s t)) (nat_lt (region_start + 4096 * shared_page s t) (s.vmaddr + s.vmsize))
          (le-leb s.vmaddr (region_start + 4096 * shared_page s t) (omega (arith, place))) (lt-ltb (region_start + 4096 * shared_page s t) (s.vmaddr + s.vmsize) (omega (arith, place, lt))),
      and_from (nat_le t.vmaddr (region_start + 4096 * shared_page s t)) (nat_lt (region_start + 4096 * shared_page s t) (t.vmaddr + t.vmsize))
          (le-leb t.vmaddr (region_start + 4096 * shared_page s t) (omega (arith, place))) (lt-ltb (region_start + 4096 * shared_page s t) (t.vmaddr + t.vmsize) (omega (arith, place, lt))),
    )

-- one that passes a test passes another one
any_passes : (q r : Seg → Bool) (ts : List Seg) → ((t : Seg) → q t ≡ true → r t ≡ true) → list_any q ts ≡ true → list_any r ts ≡ true
any_passes q r [] from there = absurd (false≢true there)
any_passes q r (t ∷ ts) from there =
    elim (or_cases (q t) (list_any q ts) there) [
      | inl here ↦ or_left (r t) (list_any r ts) (from t here)
      | inr later ↦ or_right (r t) (list_any r ts) (any_passes q r ts from later)
    ]

-- one that passes a test, which is among them
any_witness : (q : Seg → Bool) (ts : List Seg) → AreAligned ts → list_any q ts ≡ true → (t : Seg) × ((t.vmaddr % 4096 ≡ 0) × ((q t ≡ true) × ((r : Seg → Bool) → r t ≡ true → list_any r ts ≡ true)))
any_witness q [] aligned there = absurd (false≢true there)
any_witness q (t ∷ ts) aligned there =
    elim (or_cases (q t) (list_any q ts) there) [
      | inl here ↦ (t, (aligned.0, (here, λ r passes. or_left (r t) (list_any r ts) passes)))
      | inr later ↦ let w = any_witness q ts aligned.1 later in (w.0, (w.1.0, (w.1.1.0, λ r passes. or_right (r t) (list_any r ts) (w.1.1.1 r passes))))
    ]

same_tests : (a b : Bool) → (a ≡ true → b ≡ true) → (b ≡ true → a ≡ true) → a ≡ b
same_tests true b to from = sym (to refl)
same_tests false true to from = absurd (false≢true (from refl))
same_tests false false to from = refl

pub marks_tell : (marks : List Bool) (earlier : List Seg) (s : Seg) → AreMarked marks earlier → AreAligned earlier → s.vmaddr % 4096 ≡ 0 → region_start ≤ s.vmaddr → s.vmaddr + s.vmsize ≤ region_start + 4096 * length marks
    → is_marked marks s ≡ list_any (shares s) earlier
marks_tell marks earlier s are aligned own low high = same_tests (is_marked marks s) (list_any (shares s) earlier) to from
  where
    to : is_marked marks s ≡ true → list_any (shares s) earlier ≡ true
    to is =
        let found = marked_at marks s is in
        let within : found.0 < length marks = omega (arith, found.1.1.0, end_within (length marks) s) in
        let covered : covers found.0 s ≡ true = between (length marks) found.0 s own found.1.0 found.1.1.0 in
        any_passes (covers found.0) (shares s) earlier (λ t other. shares_page s t found.0 covered other) (sym (are found.0 within) ∙ found.1.1.1)

    from : list_any (shares s) earlier ≡ true → is_marked marks s ≡ true
    from is =
        let w = any_witness (shares s) earlier aligned is in
        let both = page_shared s w.0 own w.1.0 low w.1.1.0 in
        let high_end = ltb-true (region_start + 4096 * shared_page s w.0) (s.vmaddr + s.vmsize) (and_parts (nat_le s.vmaddr (region_start + 4096 * shared_page s w.0)) (nat_lt (region_start + 4096 * shared_page s w.0) (s.vmaddr + s.vmsize)) both.0).1 in
        let within : shared_page s w.0 < length marks = omega (arith, high_end, high) in
        let range = covered_between (length marks) (shared_page s w.0) s within both.0 in
        at_marked marks s (shared_page s w.0) range.0 range.1 (are (shared_page s w.0) within ∙ w.1.1.1 (covers (shared_page s w.0)) both.1)
