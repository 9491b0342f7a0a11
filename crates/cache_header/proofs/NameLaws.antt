-- Paths as they are read: up to the first NUL, image after image.
use Rattle.std.proofs.Common.{◌≡◌, ◌≤◌, ◌<◌, ℕ, zero, suc, ◌+◌, Bool, true, false, not, ◌&&◌, cond, nat_lt, Option, Some, None, List, take, drop, length, refl, sym, ap, ap₂, subst, ◌∙◌, arith}
use Rattle.std.specs.Prelude.{find, option_map, position}
use Rattle.std.proofs.lemmas.Bool.Decides.{nat_tests}
use Rattle.std.proofs.lemmas.List.Folds.{list_any_none, list_any_at}
use Rattle.std.proofs.lemmas.List.Sums.{fails_before_first, passes_at_first}
use Rattle.std.specs.List.{before_first, position_or_len, list_any, range_with_len}
use Rattle.std.proofs.lemmas.Bool.{cond-true, cond-false}
use Rattle.dsc_base.specs.Texts.{is_plain_text}
use Rattle.cache_header.specs.Paths.{is_nul}
use Rattle.dsc_base.specs.declared.fault.ViewFault.{ViewFault}
use Rattle.dsc_base.specs.declared.fault.ViewFault.TheVariants.{Broken}
use Rattle.dsc_base.specs.declared.finding_kind.FindingKind.TheVariants.{NameNotPlain}
use Rattle.cache_header.specs.Reading.{image_count, path_offset}
use Rattle.cache_header.specs.Findings.{begins_plain, has_plain_path, ill_named, finding, name_finding}
use Rattle.dsc_base.specs.Refusals.{IsViewRefusal}

-- ---- the images' paths

-- the paths of the images before k are plain
abbrev pub NamedBelow : List ℕ → ℕ → Type 0
NamedBelow cache k = (j : ℕ) → j < k → has_plain_path cache j ≡ true

-- a test that holds of all numbers of a range has none that fails
pub find_none : (p : ℕ → Bool) (first n : ℕ) → ((k : ℕ) → k < n → p (first + k) ≡ false) → find p (range_with_len first n) ≡ None
find_none p first zero fails = refl
find_none p first (suc n) fails =
    let here : p first ≡ false = ap p (omega arith) ∙ fails 0 (omega arith) in
    let later : (k : ℕ) → k < n → p ((first + 1) + k) ≡ false = λ k lt. ap p (omega arith) ∙ fails (k + 1) (omega arith) in
    cond-false (p first) _ _ here ∙ find_none p (first + 1) n later

-- the first that passes
pub find_first : (p : ℕ → Bool) (first n k : ℕ) → k < n → ((j : ℕ) → j < k → p (first + j) ≡ false) → p (first + k) ≡ true → find p (range_with_len first n) ≡ Some (first + k)
find_first p first zero k lt fails passes = absurd (omega arith)
find_first p first (suc n) zero lt fails passes =
    let here : p first ≡ true = ap p (omega arith) ∙ passes in
    cond-true (p first) _ _ here ∙ ap (λ (m : ℕ). Some m) (omega arith)
find_first p first (suc n) (suc k) lt fails passes =
    let here : p first ≡ false = ap p (omega arith) ∙ fails 0 (omega arith) in
    let later : (j : ℕ) → j < k → p ((first + 1) + j) ≡ false = λ j below. ap p (omega arith) ∙ fails (j + 1) (omega arith) in
    let there : p ((first + 1) + k) ≡ true = ap p (omega arith) ∙ passes in
    cond-false (p first) _ _ here ∙ (find_first p (first + 1) n k (omega arith) later there ∙ ap (λ (m : ℕ). Some m) (omega arith))

pub all_named : (cache : List ℕ) (k : ℕ) → image_count cache ≤ k → NamedBelow cache k → ill_named cache ≡ None
unfolding ill_named
all_named cache k le named =
    find_none (λ j. not (has_plain_path cache j)) 0 (image_count cache) (λ j lt. ap not (named (0 + j) (omega arith)))

pub first_ill_named : (cache : List ℕ) (k : ℕ) → k < image_count cache → NamedBelow cache k → has_plain_path cache k ≡ false → ill_named cache ≡ Some k
unfolding ill_named
first_ill_named cache k lt named ill =
    find_first (λ j. not (has_plain_path cache j)) 0 (image_count cache) k lt (λ j below. ap not (named (0 + j) (omega arith)))
    (ap (λ (j : ℕ). not (has_plain_path cache j)) (omega arith) ∙ ap not ill)
    ∙ ap (λ (j : ℕ). Some j) (omega arith)

-- ---- a path at the front of bytes

found_place : (b : Bool) (n m : ℕ) → cond b (Some n) None ≡ Some m → (b ≡ true) × (n ≡ m)
found_place true n m is = (refl, cc)
found_place false n m is = absurd (cc)

absent_place : (b : Bool) (n : ℕ) → cond b (Some n) None ≡ None → b ≡ false
absent_place true n is = absurd (cc)
absent_place false n is = refl

-- without a NUL there is no path
pub begins_none : (bytes : List ℕ) → position is_nul bytes ≡ None → begins_plain bytes ≡ false
unfolding begins_plain
begins_none bytes absent =
    let past : nat_lt (position_or_len is_nul bytes) (length bytes) ≡ false = absent_place (nat_lt (position_or_len is_nul bytes) (length bytes)) (position_or_len is_nul bytes) absent in
    let long : length bytes ≤ position_or_len is_nul bytes = grind (arith, nat_tests) in
    let none : list_any is_nul bytes ≡ false = list_any_none is_nul bytes (λ k d lt. fails_before_first is_nul bytes k d (omega arith)) in
    ap (λ (b : Bool). b && is_plain_text (before_first is_nul bytes)) none

-- with one, it is what stands before the first
pub begins_some : (bytes : List ℕ) (n : ℕ) → position is_nul bytes ≡ Some n → (take n bytes ≡ before_first is_nul bytes) × (begins_plain bytes ≡ is_plain_text (take n bytes))
unfolding begins_plain
begins_some bytes n found =
    let place : (nat_lt (position_or_len is_nul bytes) (length bytes) ≡ true) × (position_or_len is_nul bytes ≡ n) =
    found_place (nat_lt (position_or_len is_nul bytes) (length bytes)) (position_or_len is_nul bytes) n found in
    let before : take n bytes ≡ before_first is_nul bytes = ap (λ (k : ℕ). take k bytes) (sym place.1) in
    let inside : nat_lt (position_or_len is_nul bytes) (length bytes) ≡ true = place.0 in
    let lt : position_or_len is_nul bytes < length bytes = grind (arith, nat_tests) in
    let some : list_any is_nul bytes ≡ true = list_any_at is_nul bytes (position_or_len is_nul bytes) 0 lt (passes_at_first is_nul bytes 0 lt) in
    (before, ap₂ (λ (b : Bool) (path : List ℕ). b && is_plain_text path) some (sym before))

-- ---- what a test of a path answers

pub plain_answered : (b : Bool) (x y : List ℕ) → Some x ≡ cond b (Some y) None → b ≡ true
plain_answered true x y is = refl
plain_answered false x y is = absurd (cc)

pub plain_refused : (b : Bool) (y : List ℕ) → None ≡ cond b (Some y) None → b ≡ false
plain_refused true y is = absurd (cc)
plain_refused false y is = refl

-- the bytes from the place of a path on
pub path_begins : (cache rest : List ℕ) (k at : ℕ) (answer : Bool) → rest ≡ drop at cache → at ≡ path_offset cache k → begins_plain rest ≡ answer → has_plain_path cache k ≡ answer
path_begins cache rest k at answer rest_is at_is begins = ap (λ (n : ℕ). begins_plain (drop n cache)) (sym at_is) ∙ (ap begins_plain (sym rest_is) ∙ begins)

pub cause_ill_named : (cache : List ℕ) (k at : ℕ) (fault : ViewFault) → k < image_count cache → NamedBelow cache k → at ≡ path_offset cache k → has_plain_path cache k ≡ false
    → fault ≡ Broken (finding NameNotPlain k at) → IsViewRefusal (name_finding cache) fault
cause_ill_named cache k at fault lt named at_is ill fault_is =
    let first : ill_named cache ≡ Some k = first_ill_named cache k lt named ill in
    let found : name_finding cache ≡ Some (finding NameNotPlain k at) =
    ap (λ (o : Option ℕ). option_map (λ j. finding NameNotPlain j (path_offset cache j)) o) first ∙ ap (λ (n : ℕ). Some (finding NameNotPlain k n)) (sym at_is) in
    subst (IsViewRefusal (name_finding cache)) (sym fault_is) found
