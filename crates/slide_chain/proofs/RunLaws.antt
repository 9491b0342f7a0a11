-- Where runs of extras end.
use Rattle.std.proofs.Common.{◌≡◌, ◌<◌, ◌≤◌, ℕ, zero, suc, ◌+◌, ◌-◌, ◌%◌, List, [], ◌∷◌, length, drop, get_or, sym, ap, ap₂, inl, inr, ◌∙◌, arith, Bool, true, false}
use Rattle.std.specs.Prelude.{nat_lt, ◌||◌, Option, Some, None}
use Rattle.std.specs.List.{list_any}
use Rattle.std.proofs.lemmas.Bool.{lt-ltb, le-ltb, cond-true, cond-false, cases_lt, or_right, or_parts}
use Rattle.std.proofs.lemmas.List.{drop_all, drop-drop}
use Rattle.slide_chain.specs.Chains.{is_marked, run_ends, endless_page}
use Rattle.slide_chain.proofs.ListLaws.{drop-at}
use Rattle.slide_chain.proofs.MadeLaws.{marked-large, marked-small}

-- ---- runs of extras

any-at : (p : ℕ → Bool) (xs : List ℕ) (j : ℕ) → j < length xs → p (get_or xs j 0) ≡ true → list_any p xs ≡ true
any-at p [] j within passes = absurd (omega arith)
any-at p (x ∷ xs) zero within passes = ap (λ (b : Bool). b || list_any p xs) passes
any-at p (x ∷ xs) (suc j) within passes = or_right (p x) (list_any p xs) (any-at p xs j (omega arith) passes)

pub any-later : (p : ℕ → Bool) (xs : List ℕ) (i j : ℕ) → i ≤ j → j < length xs → p (get_or xs j 0) ≡ true → list_any p (drop i xs) ≡ true
any-later p xs zero j le within passes = any-at p xs j within passes
any-later p [] (suc i) j le within passes = absurd (omega arith)
any-later p (x ∷ xs) (suc i) zero le within passes = absurd (omega arith)
any-later p (x ∷ xs) (suc i) (suc j) le within passes = any-later p xs i j (omega arith) (omega arith) passes

none-later : (p : ℕ → Bool) (xs : List ℕ) (n : ℕ) → list_any p xs ≡ false → list_any p (drop n xs) ≡ false
none-later p xs zero none = none
none-later p [] (suc n) none = none
none-later p (x ∷ xs) (suc n) none = none-later p xs n (or_parts (p x) (list_any p xs) none).1

pub none-more : (p : ℕ → Bool) (xs : List ℕ) (n : ℕ) → 0 < n → n ≤ length xs → p (get_or xs (n - 1) 0) ≡ false → list_any p (drop n xs) ≡ false → list_any p (drop (n - 1) xs) ≡ false
none-more p xs n some within fails none =
    let back : n - 1 + 1 ≡ n = omega arith in
    ap (list_any p) (drop-at xs (n - 1) (omega arith) ∙ ap (λ (k : ℕ). get_or xs (n - 1) 0 ∷ drop k xs) back)
    ∙ ap₂ (λ (a b : Bool). a || b) fails none

-- a run ends where its index lies before the last extra that ends one
pub run_ends-is : (extras : List ℕ) (start end : ℕ) → list_any is_marked (drop end extras) ≡ false → ((i : ℕ) → i < end → list_any is_marked (drop i extras) ≡ true)
    → run_ends extras start ≡ (nat_lt start 0x8000 || nat_lt (start % 0x4000) end)
unfolding run_ends
run_ends-is extras start end behind before =
    elim (cases_lt start 0x8000) [
      | inl small ↦
          cond-false (is_marked start) (list_any is_marked (drop (start % 0x4000) extras)) true (marked-small start small)
          ∙ sym (ap (λ (b : Bool). b || nat_lt (start % 0x4000) end) (lt-ltb start 0x8000 small))
      | inr large ↦
          let rest : list_any is_marked (drop (start % 0x4000) extras) ≡ nat_lt (start % 0x4000) end =
          elim (cases_lt (start % 0x4000) end) [
            | inl within ↦ before (start % 0x4000) within ∙ sym (lt-ltb (start % 0x4000) end within)
            | inr past ↦
                let sum : end + (start % 0x4000 - end) ≡ start % 0x4000 = omega (arith, past) in
                ap (λ (n : ℕ). list_any is_marked (drop n extras)) (sym sum)
                ∙ (ap (list_any is_marked) (sym (drop-drop (start % 0x4000 - end) end extras)) ∙ (none-later is_marked (drop end extras) (start % 0x4000 - end) behind ∙ sym (le-ltb (start % 0x4000) end past)))
          ] in
          cond-true (is_marked start) (list_any is_marked (drop (start % 0x4000) extras)) true (marked-large start large)
          ∙ (rest ∙ sym (ap (λ (b : Bool). b || nat_lt (start % 0x4000) end) (le-ltb start 0x8000 large)))
    ]

pub endless-more : (extras starts : List ℕ) (i : ℕ) (whole : Option ℕ) → i < length starts → run_ends extras (get_or starts i 0) ≡ true → endless_page extras i (drop i starts) ≡ whole
    → endless_page extras (i + 1) (drop (i + 1) starts) ≡ whole
unfolding endless_page
endless-more extras starts i whole within ends before =
    sym (ap (endless_page extras i) (drop-at starts i within) ∙ cond-true (run_ends extras (get_or starts i 0)) (endless_page extras (i + 1) (drop (i + 1) starts)) (Some i) ends) ∙ before

pub endless-found : (extras starts : List ℕ) (i : ℕ) (whole : Option ℕ) → i < length starts → run_ends extras (get_or starts i 0) ≡ false → endless_page extras i (drop i starts) ≡ whole → Some i ≡ whole
unfolding endless_page
endless-found extras starts i whole within fails before =
    sym (ap (endless_page extras i) (drop-at starts i within) ∙ cond-false (run_ends extras (get_or starts i 0)) (endless_page extras (i + 1) (drop (i + 1) starts)) (Some i) fails) ∙ before

pub endless-none : (extras starts : List ℕ) (i : ℕ) (whole : Option ℕ) → length starts ≤ i → endless_page extras i (drop i starts) ≡ whole → None ≡ whole
unfolding endless_page
endless-none extras starts i whole past before = sym (ap (endless_page extras i) (drop_all i starts past)) ∙ before
