-- The loops that make slide information: what the words passed give, and what those behind give, is what all give.
use Rattle.std.proofs.Common.{◌≡◌, ◌<◌, ◌≤◌, ℕ, zero, suc, ◌+◌, ◌-◌, ◌*◌, ◌/◌, ◌%◌, ◌^◌, List, [], ◌∷◌, ◌++◌, length, drop, get_or, sym, ap, ap₂, subst, refl, ◌∙◌, arith, inl, inr, length-append, cond, Bool, true, false}
use Rattle.std.specs.Prelude.{nat_eq, ◌||◌, if◌then◌else◌}
use Rattle.std.proofs.Math.Seq.{drop-cons}
use Rattle.std.proofs.lemmas.List.{drop_all, append-nil, append_assoc}
use Rattle.std.proofs.lemmas.Bool.{eq-eqb, ne_eqb, cases_eq}
use Rattle.std.proofs.Math.Nat.{pow-le-pow_right}
use Rattle.slide_chain.specs.Making.{step, firsts_after, firsts, front, rest, page_firsts, marked_last, extras_for, start_for, starts_of, extras_of}
use Rattle.slide_chain.proofs.MadeLaws.{marked_some}

-- ---- first words

-- the first words from an index on
abbrev pub firsts_behind : ℕ → List ℕ → ℕ → List ℕ
firsts_behind limit ws zero = firsts limit ws
firsts_behind limit ws (suc k) = firsts_after limit (get_or ws k 0) (drop (suc k) ws)

firsts_after-cons : (limit a b : ℕ) (ws : List ℕ) → firsts_after limit a (b ∷ ws) ≡ (if nat_eq (step limit a b) 0 then b ∷ [] else []) ++ firsts_after limit b ws
unfolding firsts_after
firsts_after-cons limit a b ws =
    elim (nat_eq (step limit a b) 0) as (λ t. (cond t (b ∷ firsts_after limit b ws) (firsts_after limit b ws)) ≡ (cond t (b ∷ []) []) ++ firsts_after limit b ws) [ true ↦ refl | false ↦ refl ]

firsts-suc : (limit : ℕ) (ws : List ℕ) (i : ℕ) → i < length ws
    → firsts_behind limit ws i ≡ (if nat_eq i 0 || nat_eq (step limit (get_or ws (i - 1) 0) (get_or ws i 0)) 0 then get_or ws i 0 ∷ [] else []) ++ firsts_behind limit ws (suc i)
unfolding firsts
firsts-suc limit [] i within = absurd (omega arith)
firsts-suc limit (w ∷ ws) zero within = refl
firsts-suc limit (w ∷ ws) (suc k) within =
    let back : k ≡ suc k - 1 = omega arith in
    ap (firsts_after limit (get_or (w ∷ ws) k 0)) (drop-cons (w ∷ ws) (suc k) 0 within)
    ∙ (firsts_after-cons limit (get_or (w ∷ ws) k 0) (get_or (w ∷ ws) (suc k) 0) (drop (suc (suc k)) (w ∷ ws))
    ∙ ap₂ (λ (j : ℕ) (t : Bool). (if t || nat_eq (step limit (get_or (w ∷ ws) j 0) (get_or (w ∷ ws) (suc k) 0)) 0 then get_or (w ∷ ws) (suc k) 0 ∷ [] else []) ++ firsts_after limit (get_or (w ∷ ws) (suc k) 0) (drop (suc (suc k)) (w ∷ ws)))
    back (sym (ne_eqb (suc k) 0 (λ e. omega (arith, e)))))

pub firsts-more : (limit : ℕ) (ws : List ℕ) (i : ℕ) → i < length ws
    → firsts_behind limit ws i ≡ (if nat_eq i 0 || nat_eq (step limit (get_or ws (i - 1) 0) (get_or ws i 0)) 0 then get_or ws i 0 ∷ [] else []) ++ firsts_behind limit ws (i + 1)
firsts-more limit ws i within =
    let one : suc i ≡ i + 1 = omega arith in
    firsts-suc limit ws i within
    ∙ ap (λ (n : ℕ). (if nat_eq i 0 || nat_eq (step limit (get_or ws (i - 1) 0) (get_or ws i 0)) 0 then get_or ws i 0 ∷ [] else []) ++ firsts_behind limit ws n) one

firsts_after-none : (limit a : ℕ) → firsts_after limit a [] ≡ []
unfolding firsts_after
firsts_after-none limit a = refl

pub firsts-end : (limit : ℕ) (ws : List ℕ) (i : ℕ) → length ws ≤ i → firsts_behind limit ws i ≡ []
unfolding firsts
firsts-end limit [] zero past = refl
firsts-end limit (w ∷ ws) zero past = absurd (omega arith)
firsts-end limit ws (suc k) past = ap (firsts_after limit (get_or ws k 0)) (drop_all (suc k) ws past) ∙ firsts_after-none limit (get_or ws k 0)

-- a word that is taken or passed
pub first-taken : (limit : ℕ) (ws found whole : List ℕ) (i : ℕ) → i < length ws → (nat_eq i 0 || nat_eq (step limit (get_or ws (i - 1) 0) (get_or ws i 0)) 0) ≡ true
    → found ++ firsts_behind limit ws i ≡ whole → (found ++ (get_or ws i 0 ∷ [])) ++ firsts_behind limit ws (i + 1) ≡ whole
first-taken limit ws found whole i within is before =
    append_assoc found (get_or ws i 0 ∷ []) (firsts_behind limit ws (i + 1))
    ∙ (ap (λ (t : Bool). found ++ ((if t then get_or ws i 0 ∷ [] else []) ++ firsts_behind limit ws (i + 1))) (sym is)
    ∙ (ap (λ (l : List ℕ). found ++ l) (sym (firsts-more limit ws i within)) ∙ before))

pub first-passed : (limit : ℕ) (ws found whole : List ℕ) (i : ℕ) → i < length ws → (nat_eq i 0 || nat_eq (step limit (get_or ws (i - 1) 0) (get_or ws i 0)) 0) ≡ false
    → found ++ firsts_behind limit ws i ≡ whole → found ++ firsts_behind limit ws (i + 1) ≡ whole
first-passed limit ws found whole i within is before =
    ap (λ (t : Bool). found ++ ((if t then get_or ws i 0 ∷ [] else []) ++ firsts_behind limit ws (i + 1))) (sym is)
    ∙ (ap (λ (l : List ℕ). found ++ l) (sym (firsts-more limit ws i within)) ∙ before)

-- ---- extras

same_test : (a b : ℕ) → nat_eq a b ≡ nat_eq (suc a) (suc b)
same_test a b =
    elim (cases_eq a b) [
      | inl same ↦ eq-eqb a b same ∙ sym (eq-eqb (suc a) (suc b) (ap suc same))
      | inr other ↦ ne_eqb a b other ∙ sym (ne_eqb (suc a) (suc b) (λ e. other (omega (arith, e))))
    ]

marked-suc : (fs : List ℕ) (i : ℕ) → i < length fs
    → marked_last (drop i fs) ≡ (if nat_eq (suc i) (length fs) then 0x8000 + get_or fs i 0 % 4096 / 4 else get_or fs i 0 % 4096 / 4) ∷ marked_last (drop (suc i) fs)
unfolding marked_last
marked-suc [] i within = absurd (omega arith)
marked-suc (f ∷ []) zero within = refl
marked-suc (f ∷ g ∷ fs) zero within =
    ap (λ (t : Bool). (if t then 0x8000 + f % 4096 / 4 else f % 4096 / 4) ∷ marked_last (g ∷ fs)) (sym (ne_eqb 1 (length (f ∷ g ∷ fs)) (λ e. omega (arith, e))))
marked-suc (f ∷ fs) (suc i) within =
    marked-suc fs i (omega arith)
    ∙ ap (λ (t : Bool). (if t then 0x8000 + get_or fs i 0 % 4096 / 4 else get_or fs i 0 % 4096 / 4) ∷ marked_last (drop (suc i) fs)) (same_test (suc i) (length fs))

pub marked-more : (fs extras whole : List ℕ) (i e : ℕ) → i < length fs → e ≡ (if nat_eq (i + 1) (length fs) then 0x8000 + get_or fs i 0 % 4096 / 4 else get_or fs i 0 % 4096 / 4)
    → extras ++ marked_last (drop i fs) ≡ whole → (extras ++ (e ∷ [])) ++ marked_last (drop (i + 1) fs) ≡ whole
marked-more fs extras whole i e within is before =
    let one : suc i ≡ i + 1 = omega arith in
    append_assoc extras (e ∷ []) (marked_last (drop (i + 1) fs))
    ∙ (ap (λ (x : ℕ). extras ++ (x ∷ marked_last (drop (i + 1) fs))) is
    ∙ (ap (λ (n : ℕ). extras ++ ((if nat_eq n (length fs) then 0x8000 + get_or fs i 0 % 4096 / 4 else get_or fs i 0 % 4096 / 4) ∷ marked_last (drop n fs))) (sym one)
    ∙ (ap (λ (l : List ℕ). extras ++ l) (sym (marked-suc fs i within)) ∙ before)))

pub marked-ends : (fs extras : List ℕ) (i : ℕ) → length fs ≤ i → extras ++ marked_last (drop i fs) ≡ extras
unfolding marked_last
marked-ends fs extras i past = ap (λ (l : List ℕ). extras ++ marked_last l) (drop_all i fs past) ∙ append-nil extras

pub extras_for-few : (fs : List ℕ) → length fs < 2 → extras_for fs ≡ []
unfolding extras_for
extras_for-few [] few = refl
extras_for-few (f ∷ []) few = refl
extras_for-few (f ∷ g ∷ fs) few = absurd (omega arith)

pub extras_for-more : (fs : List ℕ) → 2 ≤ length fs → extras_for fs ≡ marked_last fs
unfolding extras_for
extras_for-more [] more = absurd (omega arith)
extras_for-more (f ∷ []) more = absurd (omega arith)
extras_for-more (f ∷ g ∷ fs) more = refl

pub start_many : (count : ℕ) (fs : List ℕ) → 2 ≤ length fs → count + length (extras_for fs) ≤ 0x4000 → 0x8000 + count % 0x4000 ≡ start_for count fs
unfolding start_for extras_for
start_many count [] more few = absurd (omega arith)
start_many count (f ∷ []) more few = absurd (omega arith)
start_many count (f ∷ g ∷ fs) more few = omega (arith, marked_some f g fs)

-- ---- the pages

-- what the pages passed gave, and what the others give, is what all give
pub record PagesGo (limit : ℕ) (all : List (List ℕ)) (starts extras : List ℕ) (page n : ℕ) (ws : List ℕ) : Type 0 where
  pub to_extras : extras ++ extras_of (page_firsts limit page n ws) ≡ extras_of all
  pub to_starts : length (extras_of all) ≤ 0x4000 → starts ++ starts_of (length extras) (page_firsts limit page n ws) ≡ starts_of 0 all

pages-suc : (limit : ℕ) (all : List (List ℕ)) (starts extras : List ℕ) (start page m : ℕ) (ws : List ℕ)
    → (length extras + length (extras_for (firsts limit (front (page + 4096) ws))) ≤ 0x4000 → start ≡ start_for (length extras) (firsts limit (front (page + 4096) ws)))
    → PagesGo limit all starts extras page (suc m) ws
    → PagesGo limit all (starts ++ (start ∷ [])) (extras ++ extras_for (firsts limit (front (page + 4096) ws))) (page + 4096) m (rest (page + 4096) ws)
unfolding page_firsts extras_of starts_of
pages-suc limit all starts extras start page m ws is before =
    let fs : List ℕ = firsts limit (front (page + 4096) ws) in
    let needed : List ℕ = extras_for (firsts limit (front (page + 4096) ws)) in
    let later : List (List ℕ) = page_firsts limit (page + 4096) m (rest (page + 4096) ws) in
    let size : length (extras ++ needed) ≡ length extras + length needed = length-append extras needed in
    record {
      to_extras = append_assoc extras needed (extras_of later) ∙ before.to_extras;
      to_starts = λ few.
          let whole : length (extras ++ (needed ++ extras_of later)) ≡ length (extras_of all) = ap (λ (l : List ℕ). length l) before.to_extras in
          let room : length extras + length needed ≤ 0x4000 =
          omega (arith, whole, few, length-append extras (needed ++ extras_of later), length-append needed (extras_of later)) in
          append_assoc starts (start ∷ []) (starts_of (length (extras ++ needed)) later)
          ∙ (ap₂ (λ (s k : ℕ). starts ++ (s ∷ starts_of k later)) (is room) size ∙ before.to_starts few);
    }

pub pages-more : (limit : ℕ) (all : List (List ℕ)) (starts extras new_starts new_extras own others : List ℕ) (start page n m next : ℕ) (ws : List ℕ)
    → n ≡ suc m → next ≡ page + 4096 → own ≡ front next ws → others ≡ rest next ws
    → new_starts ≡ starts ++ (start ∷ []) → (length extras + length (extras_for (firsts limit own)) ≤ 0x4000 → start ≡ start_for (length extras) (firsts limit own))
    → new_extras ≡ extras ++ extras_for (firsts limit own) → PagesGo limit all starts extras page n ws → PagesGo limit all new_starts new_extras next m others
pages-more limit all starts extras new_starts new_extras own others start page n m next ws is_n is_next is_own is_others is_starts is_start is_extras before =
    let front_is : own ≡ front (page + 4096) ws = is_own ∙ ap (λ (e : ℕ). front e ws) is_next in
    let rest_is : others ≡ rest (page + 4096) ws = is_others ∙ ap (λ (e : ℕ). rest e ws) is_next in
    let extras_is : new_extras ≡ extras ++ extras_for (firsts limit (front (page + 4096) ws)) = is_extras ∙ ap (λ (l : List ℕ). extras ++ extras_for (firsts limit l)) front_is in
    let begun : PagesGo limit all starts extras page (suc m) ws = subst (λ (k : ℕ). PagesGo limit all starts extras page k ws) is_n before in
    let start_is : length extras + length (extras_for (firsts limit (front (page + 4096) ws))) ≤ 0x4000 → start ≡ start_for (length extras) (firsts limit (front (page + 4096) ws)) =
    subst (λ (l : List ℕ). length extras + length (extras_for (firsts limit l)) ≤ 0x4000 → start ≡ start_for (length extras) (firsts limit l)) front_is is_start in
    let after : PagesGo limit all (starts ++ (start ∷ [])) (extras ++ extras_for (firsts limit (front (page + 4096) ws))) (page + 4096) m (rest (page + 4096) ws) =
    pages-suc limit all starts extras start page m ws start_is begun in
    subst (λ (e : ℕ). PagesGo limit all new_starts new_extras e m others) (sym is_next)
    (subst (λ (l : List ℕ). PagesGo limit all new_starts new_extras (page + 4096) m l) (sym rest_is)
    (subst (λ (l : List ℕ). PagesGo limit all new_starts l (page + 4096) m (rest (page + 4096) ws)) (sym extras_is)
    (subst (λ (l : List ℕ). PagesGo limit all l (extras ++ extras_for (firsts limit (front (page + 4096) ws))) (page + 4096) m (rest (page + 4096) ws)) (sym is_starts) after)))

-- at the end nothing is left
pub pages-end-extras : (limit : ℕ) (all : List (List ℕ)) (starts extras : List ℕ) (page n : ℕ) (ws : List ℕ) → n ≡ 0 → PagesGo limit all starts extras page n ws → extras ≡ extras_of all
unfolding page_firsts extras_of
pages-end-extras limit all starts extras page n ws none go =
    sym (append-nil extras) ∙ (subst (λ (k : ℕ). extras ++ extras_of (page_firsts limit page k ws) ≡ extras_of all) none go.to_extras)

pub pages-end-starts : (limit : ℕ) (all : List (List ℕ)) (starts extras : List ℕ) (page n : ℕ) (ws : List ℕ) → n ≡ 0 → PagesGo limit all starts extras page n ws
    → length (extras_of all) ≤ 0x4000 → starts ≡ starts_of 0 all
unfolding page_firsts starts_of
pages-end-starts limit all starts extras page n ws none go few =
    sym (append-nil starts) ∙ (subst (λ (k : ℕ). starts ++ starts_of (length extras) (page_firsts limit page k ws) ≡ starts_of 0 all) none (go.to_starts few))

-- at the beginning nothing is passed
pub pages-none : (limit n m : ℕ) (starts extras ws : List ℕ) → starts ≡ [] → extras ≡ [] → m ≡ n → PagesGo limit (page_firsts limit 0 n ws) starts extras 0 m ws
pages-none limit n m starts extras ws no_starts no_extras is = record {
  to_extras = ap₂ (λ (l : List ℕ) (k : ℕ). l ++ extras_of (page_firsts limit 0 k ws)) no_extras is;
  to_starts = λ few. ap₂ (λ (l : List ℕ) (k : ℕ). starts ++ starts_of (length l) (page_firsts limit 0 k ws)) no_extras is ∙ ap (λ (l : List ℕ). l ++ starts_of 0 (page_firsts limit 0 n ws)) no_starts;
}

-- ---- the mask

pub ones_of : (n : ℕ) → n ≤ 16 → 1 * 2 ^ n % 2 ^ 64 - 1 ≡ 2 ^ n - 1
ones_of n most =
    let small : 2 ^ n ≤ 2 ^ 16 = pow-le-pow_right {n = 2} (omega arith) {i = n} {j = 16} most in
    omega (arith, small)

pub mask_of : (n : ℕ) → n ≤ 16 → (1 * 2 ^ n % 2 ^ 64 - 1) * 2 ^ 48 % 2 ^ 64 ≡ (2 ^ n - 1) * 2 ^ 48
mask_of n most =
    let small : 2 ^ n ≤ 2 ^ 16 = pow-le-pow_right {n = 2} (omega arith) {i = n} {j = 16} most in
    omega (arith, small)
