-- An index of segments: what is found in it is what the segments give, in whatever order its entries were sorted.
use Rattle.std.proofs.Common.{◌≡◌, ◌≤◌, ◌<◌, ◌+◌, ◌-◌, ℕ, zero, suc, Bool, true, false, List, [], ◌∷◌, length, get_or, refl, sym, ap, ◌∙◌, subst, arith, nat_eq, nat_lt, if◌then◌else◌, inl, inr, Option, Some, None}
use Rattle.std.specs.Prelude.{find, option_map}
use Rattle.std.specs.List.{All, AllPairs, AllByRecursion, sum_by}
use Rattle.std.specs.List.Sorted.{IsPermutation, IsNonDecreasingBy, IsPartitionedBy, IsPartitionPoint}
use Rattle.std.proofs.lemmas.Bool.{cond-true, cond-false, cases_Bool, cases_lt, lt-ltb, le-ltb}
use Rattle.std.proofs.lemmas.Bool.Decides.{nat_tests}
use Rattle.std.proofs.lemmas.List.Elements.{All-cons, All-nil}
use Rattle.std.proofs.lemmas.List.Sorted.{All-permutation, sum_by-IsPermutation}
use Rattle.std.proofs.lemmas.List.Sums.{sum_by-cons}
use Rattle.macho_image.specs.Records.{Seg}
use Rattle.macho_image.specs.declared.places.segment_index.Inside.{Inside}
use Rattle.macho_image.specs.declared.places.segment_index.Entry.{Entry}
use Rattle.macho_image.specs.Segments.{contains, inside_from, inside}
use Rattle.macho_image.specs.Index.{IsApart, AreApart, covers, place_in, found_in, Indexes, entries_from, ends_by, IsBefore}
use Rattle.macho_image.proofs.SegmentLaws.{contains_none}

entry_of : ℕ → Seg → Entry
entry_of g s = record { segment = g; start = s.vmaddr; size = s.vmsize }

-- the entries of the first segment and of the others
entries_here : (g : ℕ) (s : Seg) (ss : List Seg) → 0 < s.vmsize → entries_from g (s ∷ ss) ≡ record { segment = g; start = s.vmaddr; size = s.vmsize } ∷ entries_from (g + 1) ss
entries_here g s ss some = cond-true (nat_lt 0 s.vmsize) (record { segment = g; start = s.vmaddr; size = s.vmsize } ∷ entries_from (g + 1) ss) (entries_from (g + 1) ss) (lt-ltb 0 s.vmsize some)

entries_later : (g : ℕ) (s : Seg) (ss : List Seg) → s.vmsize ≤ 0 → entries_from g (s ∷ ss) ≡ entries_from (g + 1) ss
entries_later g s ss none = cond-false (nat_lt 0 s.vmsize) (record { segment = g; start = s.vmaddr; size = s.vmsize } ∷ entries_from (g + 1) ss) (entries_from (g + 1) ss) (le-ltb 0 s.vmsize none)

found_here : (x : ℕ) (e : Entry) (es : List Entry) → covers x e ≡ true → found_in (e ∷ es) x ≡ Some (place_in x e)
found_here x e es is = ap (λ (b : Bool). option_map (place_in x) (if b then Some e else find (covers x) es)) is

found_later : (x : ℕ) (e : Entry) (es : List Entry) → covers x e ≡ false → found_in (e ∷ es) x ≡ found_in es x
found_later x e es is = ap (λ (b : Bool). option_map (place_in x) (if b then Some e else find (covers x) es)) is

-- the entries give what the segments give
found_entries : (g : ℕ) (ss : List Seg) (x : ℕ) → found_in (entries_from g ss) x ≡ inside_from g ss x
found_entries g [] x = refl
found_entries g (s ∷ ss) x = elim (cases_lt 0 s.vmsize) [
  | inl some ↦
      let e : Entry = record { segment = g; start = s.vmaddr; size = s.vmsize } in
      ap (λ (es : List Entry). found_in es x) (entries_here g s ss some)
      ∙ elim (cases_Bool (contains s x)) [
        | inl is ↦ found_here x e (entries_from (g + 1) ss) is ∙ sym (cond-true (contains s x) (Some (place_in x e)) (inside_from (g + 1) ss x) is)
        | inr is_not ↦
            found_later x e (entries_from (g + 1) ss) is_not
            ∙ (found_entries (g + 1) ss x ∙ sym (cond-false (contains s x) (Some (place_in x e)) (inside_from (g + 1) ss x) is_not))
      ]
  | inr none ↦
      let empty : s.vmsize ≡ 0 = omega arith in
      ap (λ (es : List Entry). found_in es x) (entries_later g s ss none)
      ∙ (found_entries (g + 1) ss x
      ∙ sym (cond-false (contains s x) (Some (record { segment = g; distance = x - s.vmaddr })) (inside_from (g + 1) ss x) (contains_none s x empty)))
]

-- what the entries that cover an address weigh
abbrev weigh : ℕ → (Entry → ℕ) → Entry → ℕ
weigh x f e = if covers x e then f e else 0

abbrev one : Entry → ℕ
one e = 1

hits : ℕ → List Entry → ℕ
hits x es = sum_by (weigh x one) es

weigh_yes : (x : ℕ) (f : Entry → ℕ) (e : Entry) → covers x e ≡ true → weigh x f e ≡ f e
weigh_yes x f e is = ap (λ (b : Bool). if b then f e else 0) is

weigh_no : (x : ℕ) (f : Entry → ℕ) (e : Entry) → covers x e ≡ false → weigh x f e ≡ 0
weigh_no x f e is = ap (λ (b : Bool). if b then f e else 0) is

hits-cons : (x : ℕ) (e : Entry) (es : List Entry) → hits x (e ∷ es) ≡ weigh x one e + hits x es
unfolding hits
hits-cons x e es = sum_by-cons (weigh x one) e es

hits-permutation : (x : ℕ) (es fs : List Entry) → IsPermutation es fs → hits x fs ≡ hits x es
unfolding hits
hits-permutation x es fs moved = sum_by-IsPermutation (weigh x one) es fs moved

-- where no entry covers the address, nothing weighs
weightless : (x : ℕ) (f : Entry → ℕ) (es : List Entry) → hits x es ≡ 0 → sum_by (weigh x f) es ≡ 0
weightless x f [] none = refl
weightless x f (e ∷ es) none = elim (cases_Bool (covers x e)) [
  | inl is ↦ absurd (let all = hits-cons x e es in let here = weigh_yes x one e is in omega arith)
  | inr is_not ↦
      let all = hits-cons x e es in
      let here = weigh_no x one e is_not in
      let rest = weightless x f es (omega arith) in
      let whole = sum_by-cons (weigh x f) e es in
      let nothing = weigh_no x f e is_not in
      omega arith
]

abbrev told : ℕ → ℕ → ℕ → Option Inside
told n segment distance = if nat_eq n 0 then None else Some (record { segment = segment; distance = distance })

told_by : ℕ → List Entry → Option Inside
told_by x es = told (hits x es) (sum_by (weigh x (λ e. e.segment)) es) (sum_by (weigh x (λ e. x - e.start)) es)

-- where one entry at most covers an address, sums tell what is found
found_told : (x : ℕ) (es : List Entry) → hits x es ≤ 1 → found_in es x ≡ told_by x es
unfolding told_by hits
found_told x [] few = refl
found_told x (e ∷ es) few = elim (cases_Bool (covers x e)) [
  | inl is ↦
      let all = hits-cons x e es in
      let here = weigh_yes x one e is in
      let none : hits x es ≡ 0 = omega arith in
      let n : hits x (e ∷ es) ≡ 1 = omega arith in
      let a : sum_by (weigh x (λ e. e.segment)) (e ∷ es) ≡ e.segment =
      let p = sum_by-cons (weigh x (λ e. e.segment)) e es in
      let q = weigh_yes x (λ e. e.segment) e is in
      let r = weightless x (λ e. e.segment) es none in
      omega arith in
      let b : sum_by (weigh x (λ e. x - e.start)) (e ∷ es) ≡ x - e.start =
      let p = sum_by-cons (weigh x (λ e. x - e.start)) e es in
      let q = weigh_yes x (λ e. x - e.start) e is in
      let r = weightless x (λ e. x - e.start) es none in
      omega arith in
      found_here x e es is ∙ sym (λ i. told (n i) (a i) (b i))
  | inr is_not ↦
      let all = hits-cons x e es in
      let here = weigh_no x one e is_not in
      let n : hits x (e ∷ es) ≡ hits x es = omega arith in
      let a : sum_by (weigh x (λ e. e.segment)) (e ∷ es) ≡ sum_by (weigh x (λ e. e.segment)) es =
      let p = sum_by-cons (weigh x (λ e. e.segment)) e es in
      let q = weigh_no x (λ e. e.segment) e is_not in
      omega arith in
      let b : sum_by (weigh x (λ e. x - e.start)) (e ∷ es) ≡ sum_by (weigh x (λ e. x - e.start)) es =
      let p = sum_by-cons (weigh x (λ e. x - e.start)) e es in
      let q = weigh_no x (λ e. x - e.start) e is_not in
      omega arith in
      found_later x e es is_not ∙ (found_told x es (omega arith) ∙ sym (λ i. told (n i) (a i) (b i)))
]

found_sorted : (x : ℕ) (es fs : List Entry) → IsPermutation es fs → hits x es ≤ 1 → found_in fs x ≡ found_in es x
unfolding told_by
found_sorted x es fs moved few =
    let n : hits x fs ≡ hits x es = hits-permutation x es fs moved in
    let a = sum_by-IsPermutation (weigh x (λ e. e.segment)) es fs moved in
    let b = sum_by-IsPermutation (weigh x (λ e. x - e.start)) es fs moved in
    found_told x fs (omega arith) ∙ ((λ i. told (n i) (a i) (b i)) ∙ sym (found_told x es few))

-- the entries of segments that keep apart: one at most covers an address
no_hits : (g : ℕ) (ss : List Seg) (x : ℕ) → AllByRecursion (λ (s : Seg). contains s x ≡ false) ss → hits x (entries_from g ss) ≡ 0
unfolding hits
no_hits g [] x none = refl
no_hits g (s ∷ ss) x none = elim (cases_lt 0 s.vmsize) [
  | inl some ↦
      let e : Entry = record { segment = g; start = s.vmaddr; size = s.vmsize } in
      let all = hits-cons x e (entries_from (g + 1) ss) in
      let here = weigh_no x one e none.0 in
      let rest = no_hits (g + 1) ss x none.1 in
      ap (λ (es : List Entry). hits x es) (entries_here g s ss some) ∙ omega arith
  | inr empty ↦ ap (λ (es : List Entry). hits x es) (entries_later g s ss empty) ∙ no_hits (g + 1) ss x none.1
]

apart_none : (s : Seg) (ss : List Seg) (x : ℕ) → AllByRecursion (IsApart s) ss → contains s x ≡ true → AllByRecursion (λ (t : Seg). contains t x ≡ false) ss
apart_none s [] x apart is = tt
apart_none s (t ∷ ts) x apart is = (apart.0 x is, apart_none s ts x apart.1 is)

few_hits : (g : ℕ) (ss : List Seg) (x : ℕ) → AreApart ss → hits x (entries_from g ss) ≤ 1
unfolding hits
few_hits g [] x apart = omega arith
few_hits g (s ∷ ss) x apart = elim (cases_lt 0 s.vmsize) [
  | inl some ↦
      let e : Entry = record { segment = g; start = s.vmaddr; size = s.vmsize } in
      let all = hits-cons x e (entries_from (g + 1) ss) in
      subst (λ (es : List Entry). hits x es ≤ 1) (sym (entries_here g s ss some))
      (elim (cases_Bool (contains s x)) [
        | inl is ↦
            let here = weigh_yes x one e is in
            let rest = no_hits (g + 1) ss x (apart_none s ss x apart.0 is) in
            omega arith
        | inr is_not ↦
            let here = weigh_no x one e is_not in
            let rest = few_hits (g + 1) ss x apart.1 in
            omega arith
      ])
  | inr empty ↦ subst (λ (es : List Entry). hits x es ≤ 1) (sym (entries_later g s ss empty)) (few_hits (g + 1) ss x apart.1)
]

some_size : (g : ℕ) (ss : List Seg) → All (λ (e : Entry). 0 < e.size) (entries_from g ss)
some_size g [] = All-nil (λ (e : Entry). 0 < e.size)
some_size g (s ∷ ss) = elim (cases_lt 0 s.vmsize) [
  | inl some ↦
      subst (λ (es : List Entry). All (λ (e : Entry). 0 < e.size) es) (sym (entries_here g s ss some))
      (All-cons (λ (e : Entry). 0 < e.size) (record { segment = g; start = s.vmaddr; size = s.vmsize }) (entries_from (g + 1) ss) some (some_size (g + 1) ss))
  | inr empty ↦ subst (λ (es : List Entry). All (λ (e : Entry). 0 < e.size) es) (sym (entries_later g s ss empty)) (some_size (g + 1) ss)
]

-- sorted entries of which one at most covers an address stand one behind the other
one_hit : (x : ℕ) (es : List Entry) (j : ℕ) (d : Entry) → j < length es → covers x (get_or es j d) ≡ true → 1 ≤ hits x es
one_hit x [] j d lt is = absurd (omega arith)
one_hit x (e ∷ es) zero d lt is = let all = hits-cons x e es in let here = weigh_yes x one e is in omega arith
one_hit x (e ∷ es) (suc j) d lt is = let all = hits-cons x e es in let rest = one_hit x es j d (omega arith) is in omega arith

two_hits : (x : ℕ) (es : List Entry) (i j : ℕ) (d : Entry) → i < j → j < length es → covers x (get_or es i d) ≡ true → covers x (get_or es j d) ≡ true → 2 ≤ hits x es
two_hits x [] i j d lt within first second = absurd (omega arith)
two_hits x (e ∷ es) i zero d lt within first second = absurd (omega arith)
two_hits x (e ∷ es) zero (suc j) d lt within first second =
    let all = hits-cons x e es in
    let here = weigh_yes x one e first in
    let rest = one_hit x es j d (omega arith) second in
    omega arith
two_hits x (e ∷ es) (suc i) (suc j) d lt within first second =
    let all = hits-cons x e es in
    let rest = two_hits x es i j d (omega arith) (omega arith) first second in
    omega arith

covers_yes : (x : ℕ) (e : Entry) → e.start ≤ x → x < e.start + e.size → covers x e ≡ true
covers_yes x e low high = grind (arith, nat_tests)

covers_past : (x : ℕ) (e : Entry) → e.start + e.size ≤ x → covers x e ≡ false
covers_past x e past = grind (arith, nat_tests)

covers_before : (x : ℕ) (e : Entry) → x < e.start → covers x e ≡ false
covers_before x e before = grind (arith, nat_tests)

in_turn : (es : List Entry) → ((x : ℕ) → hits x es ≤ 1) → All (λ (e : Entry). 0 < e.size) es → IsNonDecreasingBy (λ (e : Entry). e.start) es → AllPairs IsBefore es
in_turn es few some rises i j d lt within = elim (cases_lt (get_or es j d).start ((get_or es i d).start + (get_or es i d).size)) [
  | inl over ↦
      let x = (get_or es j d).start in
      let up = rises i j d (omega arith) within in
      let size = some j d within in
      let first = covers_yes x (get_or es i d) up over in
      let second = covers_yes x (get_or es j d) (omega arith) (omega arith) in
      let two = two_hits x es i j d lt within first second in
      absurd (omega (arith, few x))
  | inr before ↦ before
]

-- what `new` makes: sorted entries of an image's segments
pub index_in_turn : (ss : List Seg) (es fs : List Entry) → AreApart ss → es ≡ entries_from 0 ss → IsPermutation es fs → IsNonDecreasingBy (λ (e : Entry). e.start) fs → AllPairs IsBefore fs
index_in_turn ss es fs apart is moved rises =
    let few : (x : ℕ) → hits x fs ≤ 1 = λ x.
    let n = hits-permutation x es fs moved in
    let m = ap (λ (l : List Entry). hits x l) is in
    let f = few_hits 0 ss x apart in
    omega arith in
    let some : All (λ (e : Entry). 0 < e.size) es = subst (λ (l : List Entry). All (λ (e : Entry). 0 < e.size) l) (sym is) (some_size 0 ss) in
    in_turn fs few (All-permutation (λ (e : Entry). 0 < e.size) es fs moved some) rises

pub index_found : (ss : List Seg) (es fs : List Entry) → AreApart ss → es ≡ entries_from 0 ss → IsPermutation es fs → Indexes ss fs
unfolding inside
index_found ss es fs apart is moved x =
    let m = ap (λ (l : List Entry). hits x l) is in
    let f = few_hits 0 ss x apart in
    found_sorted x es fs moved (omega arith) ∙ (ap (λ (l : List Entry). found_in l x) is ∙ found_entries 0 ss x)

-- looking up by halving
pub parted : (x : ℕ) (es : List Entry) → AllPairs IsBefore es → IsPartitionedBy (ends_by x) es
parted x es turn i j d le within is = elim (cases_lt i j) [
  | inl lt ↦
      let before = turn i j d lt within in
      let past : (get_or es j d).start + (get_or es j d).size ≤ x = grind (arith, nat_tests) in
      let low : (get_or es i d).start + (get_or es i d).size ≤ x = omega arith in
      grind (arith, nat_tests)
  | inr same ↦ let e : i ≡ j = omega arith in subst (λ (k : ℕ). ends_by x (get_or es k d) ≡ true) (sym e) is
]

abbrev IsPoint : ℕ → List Entry → ℕ → Type 0
IsPoint x es i = IsPartitionPoint (λ e. ends_by x e ≡ true) (λ e. ends_by x e ≡ false) es i

find_at : (p : Entry → Bool) (es : List Entry) (i : ℕ) (d : Entry) → ((k : ℕ) → k < i → p (get_or es k d) ≡ false) → i < length es → p (get_or es i d) ≡ true → find p es ≡ Some (get_or es i d)
find_at p [] i d none lt is = absurd (omega arith)
find_at p (e ∷ es) zero d none lt is = cond-true (p e) (Some e) (find p es) is
find_at p (e ∷ es) (suc i) d none lt is =
    cond-false (p e) (Some e) (find p es) (none 0 (omega arith)) ∙ find_at p es i d (λ k less. none (suc k) (omega arith)) (omega arith) is

find_none : (p : Entry → Bool) (es : List Entry) (d : Entry) → ((k : ℕ) → k < length es → p (get_or es k d) ≡ false) → find p es ≡ None
find_none p [] d none = refl
find_none p (e ∷ es) d none = cond-false (p e) (Some e) (find p es) (none 0 (omega arith)) ∙ find_none p es d (λ k less. none (suc k) (omega arith))

earlier : (x : ℕ) (es : List Entry) (i : ℕ) → IsPoint x es i → (k : ℕ) (d : Entry) → k < i → covers x (get_or es k d) ≡ false
earlier x es i point k d lt =
    let is = point.0 k d (omega arith) lt in
    let past : (get_or es k d).start + (get_or es k d).size ≤ x = grind (arith, nat_tests) in
    covers_past x (get_or es k d) past

pub found_at : (x : ℕ) (es : List Entry) (i : ℕ) (e : Entry) → IsPoint x es i → i < length es → e ≡ get_or es i e → e.start ≤ x → Some (place_in x e) ≡ found_in es x
found_at x es i e point within is low =
    let not_past = point.1 i e (omega arith) within in
    let high : x < (get_or es i e).start + (get_or es i e).size = grind (arith, nat_tests) in
    let from : (get_or es i e).start ≤ x = subst (λ (f : Entry). f.start ≤ x) is low in
    let found = find_at (covers x) es i e (λ k lt. earlier x es i point k e lt) within (covers_yes x (get_or es i e) from high) in
    ap (λ (f : Entry). let o : Option Inside = Some (place_in x f) in o) is ∙ sym (ap (λ (o : Option Entry). option_map (place_in x) o) found)

pub found_before : (x : ℕ) (es : List Entry) (i : ℕ) (e : Entry) → AllPairs IsBefore es → IsPoint x es i → i < length es → e ≡ get_or es i e → x < e.start → None ≡ found_in es x
found_before x es i e turn point within is above =
    let here : x < (get_or es i e).start = subst (λ (f : Entry). x < f.start) is above in
    let none : (k : ℕ) → k < length es → covers x (get_or es k e) ≡ false = λ k lt.
    elim (cases_lt k i) [
      | inl before ↦ earlier x es i point k e before
      | inr from ↦ elim (cases_lt i k) [
        | inl after ↦ let next = turn i k e after lt in covers_before x (get_or es k e) (omega arith)
        | inr same ↦ let f : i ≡ k = omega arith in subst (λ (j : ℕ). covers x (get_or es j e) ≡ false) f (covers_before x (get_or es i e) here)
      ]
    ] in
    sym (ap (λ (o : Option Entry). option_map (place_in x) o) (find_none (covers x) es e none))

no_entry : Entry
no_entry = record { segment = 0; start = 0; size = 0 }

pub found_past : (x : ℕ) (es : List Entry) (i : ℕ) → IsPoint x es i → length es ≤ i → None ≡ found_in es x
found_past x es i point past =
    sym (ap (λ (o : Option Entry). option_map (place_in x) o) (find_none (covers x) es no_entry (λ k lt. earlier x es i point k no_entry (omega arith))))
