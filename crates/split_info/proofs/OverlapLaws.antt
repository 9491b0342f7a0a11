-- References that share bytes: in address order the first one that does shares one with the next.
use Rattle.std.proofs.Common.{◌≡◌, ◌≤◌, ◌<◌, ◌+◌, ℕ, zero, suc, Bool, true, false, not, cond, ◌&&◌, ◌||◌, List, [], ◌∷◌, map, filter, length, get_or, refl, sym, ap, ap₂, ◌∙◌, subst, arith, nat_lt, min, Option, Some, None, inl, inr, true≢false}
use Rattle.std.specs.Prelude.{count_by, slice_get, All, IsPermutation}
use Rattle.std.specs.List.Sorted.{IsNonDecreasingBy}
use Rattle.std.proofs.lemmas.Bool.{cases_lt, cases_Bool, or_parts, or_right}
use Rattle.std.proofs.lemmas.Bool.Decides.{nat_tests}
use Rattle.std.proofs.lemmas.List.{get_or_read, get_or_default}
use Rattle.std.proofs.lemmas.List.Elements.{All-tail, filter_agree}
use Rattle.std.proofs.lemmas.List.Sorted.{IsPermutation-sym, All-permutation, Contains-permutation, sum_by-IsPermutation, list_any-IsPermutation}
use Rattle.std.proofs.lemmas.Option.{slice_get_within, get_or_from_slice_get, slice_get-get_or}
use Rattle.dsc_base.specs.Refusals.{least}
use Rattle.macho_image.specs.declared.place.Location.{Location}
use Rattle.split_info.specs.declared.reference.RefKind.{RefKind}
use Rattle.split_info.specs.declared.reference.RefKind.TheVariants.{Pointer64, Delta32, Delta64, ImageOff32}
use Rattle.split_info.specs.declared.reference.Reference.{Reference}
use Rattle.split_info.specs.References.{width_of}
use Rattle.split_info.specs.Overlap.{is_pointer, shares, meets, meets_word, strays, overlaps, reaches, lowest, overlap_at}
use Rattle.split_info.proofs.CountLaws.{one_counted, two_counted}

abbrev pub from_of : Reference → ℕ
from_of r = r.from

pub width_some : (kind : RefKind) → 0 < width_of kind
width_some Pointer64 = omega arith
width_some Delta32 = omega arith
width_some Delta64 = omega arith
width_some ImageOff32 = omega arith

-- ---- Two references

meet_yes : (r s : Reference) → r.from < s.from + width_of s.kind → s.from < r.from + width_of r.kind → meets r s ≡ true
meet_yes r s first second = grind (arith, nat_tests)

meet_behind : (r s : Reference) → r.from + width_of r.kind ≤ s.from → meets r s ≡ false
meet_behind r s le = grind (arith, nat_tests)

meet_before : (r s : Reference) → s.from + width_of s.kind ≤ r.from → meets r s ≡ false
meet_before r s le = grind (arith, nat_tests)

pub meets_itself : (r : Reference) → meets r r ≡ true
meets_itself r = let some = width_some r.kind in meet_yes r r (omega (arith, some)) (omega (arith, some))

-- of two in address order
meet_not : (r s : Reference) → r.from ≤ s.from → meets r s ≡ false → r.from + width_of r.kind ≤ s.from
meet_not r s le is = elim (cases_lt s.from (r.from + width_of r.kind)) [
  | inl near ↦
      let some = width_some s.kind in
      let holds = meet_yes r s (omega (arith, some)) near in
      absurd (true≢false (sym holds ∙ is))
  | inr far ↦ far
]

-- ---- In address order

-- what is tried of one of them
abbrev pub tried : List Location → List Location → List Reference → ℕ → Reference → Bool
tried rebases words rs k r = reaches r (slice_get rs (k + 1)) || strays rebases words r

-- the first so many pass
abbrev pub AreClear : List Location → List Location → List Reference → ℕ → Type 0
AreClear rebases words rs n = (k : ℕ) (d : Reference) → k < n → k < length rs → tried rebases words rs k (get_or rs k d) ≡ false

either : (a b : Bool) → (a || b) ≡ true → ((a ≡ true) → (a || b) ≡ true) × (b ≡ false → a ≡ true)
either true b is = (λ e. refl, λ e. refl)
either false b is = (λ e. is, λ e. absurd (true≢false (sym is ∙ e)))

-- a reference that passes ends by where the next one begins
ends_before : (rebases words : List Location) (rs : List Reference) (n k j : ℕ) (d : Reference) → IsNonDecreasingBy from_of rs → AreClear rebases words rs n → k < n → k < j → j < length rs
    → (get_or rs k d).from + width_of (get_or rs k d).kind ≤ (get_or rs j d).from
ends_before rebases words rs n k j d rises clear lt more inside =
    let next = get_or rs (k + 1) d in
    let here = get_or rs k d in
    let there : slice_get rs (k + 1) ≡ Some next = slice_get-get_or rs (k + 1) d (omega arith) in
    let apart : meets here next ≡ false = ap (λ (o : Option Reference). reaches here o) (sym there) ∙ (or_parts (reaches here (slice_get rs (k + 1))) (strays rebases words here) (clear k d lt (omega arith))).0 in
    let up = rises k (k + 1) d (omega arith) (omega arith) in
    let far = meet_not here next up apart in
    let rest = rises (k + 1) j d (omega arith) inside in
    omega (arith, far, rest)

-- so one that passes, as all before it do, doesn't overlap
pub clear_apart : (rebases words : List Location) (rs : List Reference) (j : ℕ) (d : Reference) → IsNonDecreasingBy from_of rs → AreClear rebases words rs (j + 1) → j < length rs → overlaps rebases words rs (get_or rs j d) ≡ false
clear_apart rebases words rs j d rises clear lt =
    let r = get_or rs j d in
    let stray : strays rebases words r ≡ false = (or_parts (reaches r (slice_get rs (j + 1))) (strays rebases words r) (clear j d (omega arith) lt)).1 in
    let few : count_by (meets r) rs ≤ 1 =
    one_counted (meets r) rs j (λ k e inside apart.
    let same : get_or rs j d ≡ get_or rs j e = get_or_read rs j r lt (get_or_self rs j d lt) e in
    let from : r.from ≡ (get_or rs j e).from = ap from_of same in
    let wide : width_of r.kind ≡ width_of (get_or rs j e).kind = ap (λ (s : Reference). width_of s.kind) same in
    elim (cases_lt k j) [
      | inl before ↦ let far = ends_before rebases words rs (j + 1) k j e rises clear (omega arith) before lt in meet_before r (get_or rs k e) (omega (arith, far, from))
      | inr from_j ↦
          let behind : j < k = omega (arith, from_j, apart) in
          let far = ends_before rebases words rs (j + 1) j k e rises clear (omega arith) behind inside in
          meet_behind r (get_or rs k e) (omega (arith, far, from, wide))
    ]) in
    let test : nat_lt 1 (count_by (meets r) rs) ≡ false = grind (arith, nat_tests) in
    ap₂ (λ (a b : Bool). a || b) test stray
  where
    get_or_self : (rs : List Reference) (j : ℕ) (d : Reference) → j < length rs → get_or rs j d ≡ get_or rs j (get_or rs j d)
    get_or_self rs j d lt = get_or_default rs j d (get_or rs j d) lt

-- and one that doesn't pass overlaps
pub tried_overlaps : (rebases words : List Location) (rs : List Reference) (i : ℕ) (r : Reference) → i < length rs → r ≡ get_or rs i r → tried rebases words rs i r ≡ true → overlaps rebases words rs r ≡ true
tried_overlaps rebases words rs i r lt is fails = elim (cases_Bool (strays rebases words r)) [
  | inl stray ↦ or_right (nat_lt 1 (count_by (meets r) rs)) (strays rebases words r) stray
  | inr none ↦ go (slice_get rs (i + 1)) refl ((either (reaches r (slice_get rs (i + 1))) (strays rebases words r) fails).1 none)
]
  where
    go : (o : Option Reference) → slice_get rs (i + 1) ≡ o → reaches r o ≡ true → overlaps rebases words rs r ≡ true
    go None there met = absurd (true≢false (sym met))
    go (Some s) there met =
        let inside : i + 1 < length rs = slice_get_within rs (i + 1) s there in
        let next : get_or rs (i + 1) r ≡ s = get_or_from_slice_get rs (i + 1) s r there in
        let two : 2 ≤ count_by (meets r) rs =
        two_counted (meets r) rs i (i + 1) r (omega arith) inside (ap (meets r) (sym is) ∙ meets_itself r) (ap (meets r) next ∙ met) in
        let test : nat_lt 1 (count_by (meets r) rs) ≡ true = grind (arith, nat_tests) in
        ap (λ (a : Bool). a || strays rebases words r) test

-- ---- The least address

abbrev pub lowest_of : (Reference → Bool) → List Reference → Option ℕ
lowest_of p rs = lowest (map from_of (filter p rs))

pub lowest_none : (p : Reference → Bool) (rs : List Reference) → All (λ (r : Reference). p r ≡ false) rs → lowest_of p rs ≡ None
lowest_none p [] none = refl
lowest_none p (r ∷ rs) none =
    ap (λ (b : Bool). lowest (map from_of (cond b (r ∷ filter p rs) (filter p rs)))) (none 0 r (omega arith)) ∙ lowest_none p rs (All-tail (λ (s : Reference). p s ≡ false) r rs none)

-- no address that counts is below one
abbrev IsAbove : ℕ → Option ℕ → Type 0
IsAbove m None = Unit {0}
IsAbove m (Some n) = m ≤ n

above_one : (m a : ℕ) (o : Option ℕ) → m ≤ a → IsAbove m o → IsAbove m (least (Some a) o)
above_one m a None le above = le
above_one m a (Some b) le above = omega (arith, le, above)

lowest_above : (p : Reference → Bool) (m : ℕ) (rs : List Reference) → All (λ (r : Reference). p r ≡ true → m ≤ r.from) rs → IsAbove m (lowest_of p rs)
lowest_above p m [] all = tt
lowest_above p m (r ∷ rs) all =
    let rest = lowest_above p m rs (All-tail (λ (s : Reference). p s ≡ true → m ≤ s.from) r rs all) in
    elim (cases_Bool (p r)) as (λ _. IsAbove m (lowest_of p (r ∷ rs))) [
      | inl holds ↦
          subst (λ (b : Bool). IsAbove m (lowest (map from_of (cond b (r ∷ filter p rs) (filter p rs))))) (sym holds)
          (above_one m r.from (lowest_of p rs) (all 0 r (omega arith) holds) rest)
      | inr other ↦ subst (λ (b : Bool). IsAbove m (lowest (map from_of (cond b (r ∷ filter p rs) (filter p rs))))) (sym other) rest
    ]

least_here : (m : ℕ) (o : Option ℕ) → IsAbove m o → least (Some m) o ≡ Some m
least_here m None above = refl
least_here m (Some n) above = let e : min m n ≡ m = omega (arith, above) in ap (λ (k : ℕ). let o : Option ℕ = Some k in o) e

least_there : (m n : ℕ) → m ≤ n → least (Some n) (Some m) ≡ Some m
least_there m n le = let e : min n m ≡ m = omega (arith, le) in ap (λ (k : ℕ). let o : Option ℕ = Some k in o) e

lowest_at : (p : Reference → Bool) (rs : List Reference) (k : ℕ) (r : Reference) → k < length rs → get_or rs k r ≡ r → p r ≡ true → All (λ (s : Reference). p s ≡ true → r.from ≤ s.from) rs → lowest_of p rs ≡ Some r.from
lowest_at p [] k r lt is holds all = absurd (omega arith)
lowest_at p (s ∷ rs) zero r lt is holds all =
    let here : p s ≡ true = ap p is ∙ holds in
    let from : s.from ≡ r.from = ap from_of is in
    let above = lowest_above p r.from rs (All-tail (λ (t : Reference). p t ≡ true → r.from ≤ t.from) s rs all) in
    ap (λ (b : Bool). lowest (map from_of (cond b (s ∷ filter p rs) (filter p rs)))) here
    ∙ (ap (λ (n : ℕ). least (Some n) (lowest_of p rs)) from ∙ least_here r.from (lowest_of p rs) above)
lowest_at p (s ∷ rs) (suc k) r lt is holds all =
    let rest = lowest_at p rs k r (omega arith) is holds (All-tail (λ (t : Reference). p t ≡ true → r.from ≤ t.from) s rs all) in
    elim (cases_Bool (p s)) [
      | inl here ↦
          ap (λ (b : Bool). lowest (map from_of (cond b (s ∷ filter p rs) (filter p rs)))) here
          ∙ (ap (λ (o : Option ℕ). least (Some s.from) o) rest ∙ least_there r.from s.from (all 0 s (omega arith) here))
      | inr other ↦ ap (λ (b : Bool). lowest (map from_of (cond b (s ∷ filter p rs) (filter p rs)))) other ∙ rest
    ]

-- ---- In another order

-- what is there in two orders
pub record AreMoved (bound words : List Location) (us rs : List Reference) : Type 0 where
  pub words_moved : IsPermutation bound words
  pub references_moved : IsPermutation us rs

overlaps_same : (rebases bound words : List Location) (us rs : List Reference) → AreMoved bound words us rs → (r : Reference) → overlaps rebases bound us r ≡ overlaps rebases words rs r
overlaps_same rebases bound words us rs moved r =
    let counts : count_by (meets r) us ≡ count_by (meets r) rs = sym (sum_by-IsPermutation (λ (s : Reference). cond (meets r s) 1 0) us rs moved.references_moved) in
    let met : meets_word bound r ≡ meets_word words r = list_any-IsPermutation (λ (l : Location). shares r.from (width_of r.kind) l.address 8) bound words moved.words_moved in
    ap₂ (λ (n : ℕ) (b : Bool). nat_lt 1 n || (not (is_pointer r.kind) && (meets_word rebases r || b))) counts met

overlap_same : (rebases bound words : List Location) (us rs : List Reference) → AreMoved bound words us rs → overlap_at rebases bound us ≡ lowest_of (overlaps rebases words rs) us
unfolding overlap_at
overlap_same rebases bound words us rs moved =
    ap (λ (ts : List Reference). lowest (map from_of ts)) (filter_agree (overlaps rebases bound us) (overlaps rebases words rs) (overlaps_same rebases bound words us rs moved) us)

pub overlap_none : (rebases bound words : List Location) (us rs : List Reference) → AreMoved bound words us rs → IsNonDecreasingBy from_of rs → AreClear rebases words rs (length rs) → None ≡ overlap_at rebases bound us
overlap_none rebases bound words us rs moved rises clear =
    let all : All (λ (r : Reference). overlaps rebases words rs r ≡ false) rs = λ j d lt. clear_apart rebases words rs j d rises (λ k e less inside. clear k e inside inside) lt in
    sym (overlap_same rebases bound words us rs moved
    ∙ lowest_none (overlaps rebases words rs) us (All-permutation (λ (r : Reference). overlaps rebases words rs r ≡ false) rs us (IsPermutation-sym us rs moved.references_moved) all))

pub overlap_found : (rebases bound words : List Location) (us rs : List Reference) (i : ℕ) (r : Reference) → AreMoved bound words us rs → IsNonDecreasingBy from_of rs → AreClear rebases words rs i → i < length rs → r ≡ get_or rs i r
    → tried rebases words rs i r ≡ true → Some r.from ≡ overlap_at rebases bound us
overlap_found rebases bound words us rs i r moved rises clear lt is fails =
    let p = overlaps rebases words rs in
    let back = IsPermutation-sym us rs moved.references_moved in
    let all : All (λ (s : Reference). p s ≡ true → r.from ≤ s.from) rs =
    λ j d inside holds. elim (cases_lt j i) [
      | inl before ↦ absurd (true≢false (sym holds ∙ clear_apart rebases words rs j d rises (λ k e less within. clear k e (omega arith) within) inside))
      | inr from ↦
          let up = rises i j d from inside in
          let same : r.from ≡ (get_or rs i d).from = ap from_of (get_or_read rs i r lt is d) in
          omega (arith, up, same)
    ] in
    let there = Contains-permutation rs us r back (i, lt, sym is) in
    sym (overlap_same rebases bound words us rs moved
    ∙ lowest_at p us there.0 r there.1 there.2 (tried_overlaps rebases words rs i r lt is fails) (All-permutation (λ (s : Reference). p s ≡ true → r.from ≤ s.from) rs us back all))

-- ---- One after another

abbrev pub no_reference : Reference
no_reference = record { kind = Pointer64; from = 0; from_segment = 0; to_section = 0; to_segment = 0; to_offset = 0 }

pub clear_none : (rebases words : List Location) (rs : List Reference) → AreClear rebases words rs 0
clear_none rebases words rs k d lt inside = absurd (omega arith)

pub clear_more : (rebases words : List Location) (rs : List Reference) (n : ℕ) (r : Reference) → AreClear rebases words rs n → n < length rs → r ≡ get_or rs n r → tried rebases words rs n r ≡ false → AreClear rebases words rs (n + 1)
clear_more rebases words rs n r clear more is passes k d lt inside = elim (cases_lt k n) [
  | inl before ↦ clear k d before inside
  | inr from ↦
      let e : n ≡ k = omega arith in
      subst (λ (j : ℕ). tried rebases words rs j (get_or rs j d) ≡ false) e (ap (λ (s : Reference). tried rebases words rs n s) (sym (get_or_read rs n r more is d)) ∙ passes)
]

pub clear_all : (rebases words : List Location) (rs : List Reference) (n : ℕ) → AreClear rebases words rs n → length rs ≤ n → AreClear rebases words rs (length rs)
clear_all rebases words rs n clear all k d lt inside = clear k d (omega (arith, all)) inside

-- lists that were copied and sorted
moved_list : {X : Type 0} (xs given sorted ys : List X) → given ≡ xs → IsPermutation given sorted → ys ≡ sorted → IsPermutation xs ys
moved_list xs given sorted ys copied moved same =
    subst (λ (zs : List _). IsPermutation xs zs) (sym same) (subst (λ (zs : List _). IsPermutation zs sorted) copied moved)

pub moved_by : (bound places sorted words : List Location) (us copies ordered rs : List Reference) → places ≡ bound → IsPermutation places sorted → words ≡ sorted → copies ≡ us → IsPermutation copies ordered → rs ≡ ordered → AreMoved bound words us rs
moved_by bound places sorted words us copies ordered rs copied moved same copied_too moved_too same_too = record {
  words_moved = moved_list bound places sorted words copied moved same;
  references_moved = moved_list us copies ordered rs copied_too moved_too same_too;
}

-- what the test of one of them says
pub tried_is : (rebases words : List Location) (rs : List Reference) (n : ℕ) (r : Reference) (next : Option Reference) (b : Bool) → b ≡ (reaches r next || strays rebases words r) → next ≡ slice_get rs (n + 1) → tried rebases words rs n r ≡ b
tried_is rebases words rs n r next b is there = ap (λ (o : Option Reference). reaches r o || strays rebases words r) (sym there) ∙ sym is
