-- Segments that share no address have no more pages together than the range in which they lie.
use Rattle.std.proofs.Common.{◌≡◌, ◌≤◌, ℕ, zero, suc, ◌+◌, ◌-◌, ◌*◌, ◌/◌, ◌%◌, Bool, true, false, ◌||◌, nat_le, nat_lt, List, [], ◌∷◌, refl, sym, ap, ap₂, ◌∙◌, arith, inl, inr, if◌then◌else◌}
use Rattle.std.specs.Prelude.{min, filter}
use Rattle.std.specs.List.{AllByRecursion, list_any}
use Rattle.std.proofs.lemmas.Bool.{cases_lt, lt-ltb, le-ltb, le-leb, lt-leb, and_left, and_right, and_from}
use Rattle.dsc_base.specs.Region.{paged}
use Rattle.macho_image.specs.Records.{Seg}
use Rattle.macho_image.specs.Segments.{contains}
use Rattle.macho_image.specs.Index.{IsApart, AreApart}
use Rattle.cache_check.specs.Steps.Pages.{AreAligned}
use Rattle.extractor.specs.Files.{all_pages}

-- ---- how many numbers below one pass a test

abbrev one_if : Bool → ℕ
one_if b = if b then 1 else 0

abbrev count_below : (ℕ → Bool) → ℕ → ℕ
count_below f zero = 0
count_below f (suc n) = one_if (f n) + count_below f n

at_most_one : (b : Bool) → one_if b ≤ 1
at_most_one true = omega arith
at_most_one false = omega arith

count_most : (f : ℕ → Bool) (n : ℕ) → count_below f n ≤ n
count_most f zero = omega arith
count_most f (suc n) = omega (arith, count_most f n, at_most_one (f n))

either_one : (a b : Bool) → (a ≡ true → b ≡ false) → one_if (a || b) ≡ one_if a + one_if b
either_one true b apart = ap (λ (c : Bool). 1 + one_if c) (sym (apart refl))
either_one false b apart = omega arith

count_either : (f g : ℕ → Bool) (n : ℕ) → ((x : ℕ) → f x ≡ true → g x ≡ false) → count_below (λ (x : ℕ). f x || g x) n ≡ count_below f n + count_below g n
count_either f g zero apart = refl
count_either f g (suc n) apart = omega (arith, either_one (f n) (g n) (apart n), count_either f g n apart)

-- ---- the pages of a segment

-- page p behind a start begins in a segment
abbrev begins : ℕ → Seg → ℕ → Bool
begins from s p = contains s (from + 4096 * p)

-- how many pages it has
abbrev pages : Seg → ℕ
pages s = (s.vmsize + 4095) / 4096

count_pages : (from : ℕ) (s : Seg) (n : ℕ) → from ≤ s.vmaddr → (s.vmaddr - from) % 4096 ≡ 0 → count_below (begins from s) n ≡ min n ((s.vmaddr - from) / 4096 + pages s) - (s.vmaddr - from) / 4096
count_pages from s zero low whole = omega arith
count_pages from s (suc n) low whole =
    let before = count_pages from s n low whole in
    elim (cases_lt n ((s.vmaddr - from) / 4096)) [
      | inl under ↦
          let no : contains s (from + 4096 * n) ≡ false = and_left (nat_le s.vmaddr (from + 4096 * n)) (nat_lt (from + 4096 * n) (s.vmaddr + s.vmsize)) (lt-leb s.vmaddr (from + 4096 * n) (omega (arith, under, low, whole))) in
          ap (λ (b : Bool). one_if b + count_below (begins from s) n) no ∙ omega (arith, before, under)
      | inr over ↦ elim (cases_lt n ((s.vmaddr - from) / 4096 + pages s)) [
        | inl inside ↦
            let yes : contains s (from + 4096 * n) ≡ true =
            and_from (nat_le s.vmaddr (from + 4096 * n)) (nat_lt (from + 4096 * n) (s.vmaddr + s.vmsize)) (le-leb s.vmaddr (from + 4096 * n) (omega (arith, over, low, whole))) (lt-ltb (from + 4096 * n) (s.vmaddr + s.vmsize) (omega (arith, inside, over, low, whole))) in
            ap (λ (b : Bool). one_if b + count_below (begins from s) n) yes ∙ omega (arith, before, inside, over)
        | inr behind ↦
            let no : contains s (from + 4096 * n) ≡ false = and_right (nat_le s.vmaddr (from + 4096 * n)) (nat_lt (from + 4096 * n) (s.vmaddr + s.vmsize)) (le-ltb (from + 4096 * n) (s.vmaddr + s.vmsize) (omega (arith, behind, low, whole))) in
            ap (λ (b : Bool). one_if b + count_below (begins from s) n) no ∙ omega (arith, before, behind)
      ]
    ]

-- ---- those of segments together

abbrev any_begins : ℕ → List Seg → ℕ → Bool
any_begins from ss p = list_any (λ (s : Seg). begins from s p) ss

-- a segment within a range of n pages behind a start
pub record IsIn (from n : ℕ) (s : Seg) : Type 0 where
  pub low : from ≤ s.vmaddr
  pub high : s.vmaddr + s.vmsize ≤ from + 4096 * n

none_else : (s : Seg) (ss : List Seg) (x : ℕ) → AllByRecursion (IsApart s) ss → contains s x ≡ true → list_any (λ (t : Seg). contains t x) ss ≡ false
none_else s [] x apart is = refl
none_else s (t ∷ ts) x apart is = ap₂ (λ (a b : Bool). a || b) (apart.0 x is) (none_else s ts x apart.1 is)

count_all : (from n : ℕ) (ss : List Seg) → from % 4096 ≡ 0 → AreApart ss → AreAligned ss → AllByRecursion (IsIn from n) ss → all_pages ss ≡ 4096 * count_below (any_begins from ss) n
unfolding all_pages paged
count_all from n [] start apart aligned inside = omega (arith, none n)
  where
    none : (m : ℕ) → count_below (any_begins from []) m ≡ 0
    none zero = refl
    none (suc m) = omega (arith, none m)
count_all from n (s ∷ ss) start apart aligned inside =
    let rest = count_all from n ss start apart.1 aligned.1 inside.1 in
    let both = count_either (begins from s) (any_begins from ss) n (λ p is. none_else s ss (from + 4096 * p) apart.0 is) in
    let whole : (s.vmaddr - from) % 4096 ≡ 0 = omega (arith, start, aligned.0, inside.0.low) in
    let own = count_pages from s n inside.0.low whole in
    omega (arith, rest, both, own, whole, inside.0.low, inside.0.high)

-- Whole pages of segments that share no address fit the range in which the segments lie.
pub pages_fit : (from n : ℕ) (ss : List Seg) → from % 4096 ≡ 0 → AreApart ss → AreAligned ss → AllByRecursion (IsIn from n) ss → all_pages ss ≤ 4096 * n
pages_fit from n ss start apart aligned inside = omega (arith, count_all from n ss start apart aligned inside, count_most (any_begins from ss) n)

-- ---- some of them

each_left : (P : Seg → Type 0) (p : Seg → Bool) (ss : List Seg) → AllByRecursion P ss → AllByRecursion P (filter p ss)
each_left P p [] all = tt
each_left P p (s ∷ ss) all = by (p s) (each_left P p ss all.1)
  where
    by : (b : Bool) → AllByRecursion P (filter p ss) → AllByRecursion P (if b then s ∷ filter p ss else filter p ss)
    by true rest = (all.0, rest)
    by false rest = rest

pub apart_left : (p : Seg → Bool) (ss : List Seg) → AreApart ss → AreApart (filter p ss)
apart_left p [] apart = tt
apart_left p (s ∷ ss) apart = by (p s) (apart_left p ss apart.1)
  where
    by : (b : Bool) → AreApart (filter p ss) → AreApart (if b then s ∷ filter p ss else filter p ss)
    by true rest = (each_left (IsApart s) p ss apart.0, rest)
    by false rest = rest

pub aligned_left : (p : Seg → Bool) (ss : List Seg) → AreAligned ss → AreAligned (filter p ss)
aligned_left p [] aligned = tt
aligned_left p (s ∷ ss) aligned = by (p s) (aligned_left p ss aligned.1)
  where
    by : (b : Bool) → AreAligned (filter p ss) → AreAligned (if b then s ∷ filter p ss else filter p ss)
    by true rest = (aligned.0, rest)
    by false rest = rest
