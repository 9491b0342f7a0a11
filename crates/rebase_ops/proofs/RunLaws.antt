-- The runs of locations, by how many go on with the first one's.
use Rattle.std.proofs.Common.{◌≡◌, ◌<◌, ◌+◌, ℕ, suc, Bool, true, false, List, [], ◌∷◌, length, get_or, drop, drop-cons, refl, sym, ap, ap₂, ◌∙◌, arith, if◌then◌else◌, inl, inr}
use Rattle.std.proofs.lemmas.Bool.{cond-true, cond-false, cases_Bool}
use Rattle.std.proofs.lemmas.List.{drop_all}
use Rattle.macho_image.specs.declared.place.Location.{Location}
use Rattle.rebase_ops.specs.Writing.{Run, run_from, is_next, in_front, runs_of}

-- how many locations go on with the run of the one before them
abbrev pub run_len : Location → List Location → ℕ
run_len l [] = 0
run_len l (m ∷ ms) = if is_next l m.segment m.address then run_len m ms + 1 else 0

len-next : (l m : Location) (ms : List Location) → is_next l m.segment m.address ≡ true → run_len l (m ∷ ms) ≡ run_len m ms + 1
len-next l m ms is = cond-true (is_next l m.segment m.address) (run_len m ms + 1) 0 is

len-other : (l m : Location) (ms : List Location) → is_next l m.segment m.address ≡ false → run_len l (m ∷ ms) ≡ 0
len-other l m ms is = cond-false (is_next l m.segment m.address) (run_len m ms + 1) 0 is

pub runs-first : (l : Location) (ls : List Location) → runs_of (l ∷ ls) ≡ run_from l (1 + run_len l ls) ∷ runs_of (drop (run_len l ls) ls)
runs-first l [] = refl
runs-first l (m ∷ ms) =
    let n = run_len m ms in
    let rest = runs_of (drop (run_len m ms) ms) in
    let later = runs-first m ms in
    elim (cases_Bool (is_next l m.segment m.address)) [
      | inl goes_on ↦
          let len = len-next l m ms goes_on in
          let one : drop (run_len m ms + 1) (m ∷ ms) ≡ drop (run_len m ms) ms = let e : run_len m ms + 1 ≡ suc (run_len m ms) = omega arith in ap (λ (k : ℕ). drop k (m ∷ ms)) e in
          ap (in_front l) later
          ∙ (cond-true (is_next l m.segment m.address) (run_from l (1 + n + 1) ∷ rest) (run_from l 1 ∷ (run_from m (1 + n) ∷ rest)) goes_on
          ∙ (ap₂ (λ (k : ℕ) (ds : List Location). run_from l k ∷ runs_of ds) (omega arith) (sym one) ∙ ap (λ (k : ℕ). run_from l (1 + k) ∷ runs_of (drop k (m ∷ ms))) (sym len)))
      | inr stops ↦
          ap (in_front l) later
          ∙ (cond-false (is_next l m.segment m.address) (run_from l (1 + n + 1) ∷ rest) (run_from l 1 ∷ (run_from m (1 + n) ∷ rest)) stops
          ∙ (ap (λ (rs : List Run). run_from l 1 ∷ rs) (sym later) ∙ ap (λ (k : ℕ). run_from l (1 + k) ∷ runs_of (drop k (m ∷ ms))) (sym (len-other l m ms stops))))
    ]

-- so many go on with it, and those that are left from the last of them
abbrev pub Follows : Location → List Location → ℕ → Location → Type 0
Follows first ls i last = i + run_len last (drop i ls) ≡ run_len first ls

pub from_place : (ls : List Location) (i : ℕ) (d : Location) → i < length ls → drop i ls ≡ get_or ls i d ∷ drop (i + 1) ls
from_place ls i d lt = let e : suc i ≡ i + 1 = omega arith in drop-cons ls i d lt ∙ ap (λ (n : ℕ). get_or ls i d ∷ drop n ls) e

abbrev pub Goes : Location → Location → Bool
Goes last m = is_next last m.segment m.address

pub follows-next : (first : Location) (ls : List Location) (i : ℕ) (last d : Location) → Follows first ls i last → i < length ls → Goes last (get_or ls i d) ≡ true → Follows first ls (i + 1) (get_or ls i d)
follows-next first ls i last d follows lt goes_on =
    let here : run_len last (drop i ls) ≡ run_len (get_or ls i d) (drop (i + 1) ls) + 1 =
    ap (run_len last) (from_place ls i d lt) ∙ len-next last (get_or ls i d) (drop (i + 1) ls) goes_on in
    omega (arith, follows, here)

pub follows-ends : (first : Location) (ls : List Location) (i : ℕ) (last d : Location) → Follows first ls i last → i < length ls → Goes last (get_or ls i d) ≡ false
    → runs_of (first ∷ ls) ≡ run_from first (1 + i) ∷ runs_of (drop i ls)
follows-ends first ls i last d follows lt stops =
    let here : run_len last (drop i ls) ≡ 0 = ap (run_len last) (from_place ls i d lt) ∙ len-other last (get_or ls i d) (drop (i + 1) ls) stops in
    let all : run_len first ls ≡ i = omega (arith, follows, here) in
    runs-first first ls ∙ ap (λ (k : ℕ). run_from first (1 + k) ∷ runs_of (drop k ls)) all

pub follows-all : (first : Location) (ls : List Location) (i : ℕ) (last : Location) → Follows first ls i last → i ≡ length ls
    → runs_of (first ∷ ls) ≡ run_from first (1 + length ls) ∷ runs_of (drop (length ls) ls)
follows-all first ls i last follows end =
    let here : run_len last (drop i ls) ≡ 0 = ap (run_len last) (drop_all i ls (omega arith)) in
    let all : run_len first ls ≡ length ls = omega (arith, follows, here, end) in
    runs-first first ls ∙ ap (λ (k : ℕ). run_from first (1 + k) ∷ runs_of (drop k ls)) all

-- the place that a list has past its end
abbrev pub no_place : Location
no_place = record { segment = 0; section = 0; address = 0 }
