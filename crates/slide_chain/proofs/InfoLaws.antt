-- Slide information as bytes, both ways, and masks that are a run of ones.
use Rattle.std.proofs.Common.{◌≡◌, ◌<◌, ◌≤◌, ℕ, zero, suc, ◌+◌, ◌-◌, ◌*◌, ◌/◌, ◌%◌, ◌^◌, List, [], ◌∷◌, ◌++◌, length, drop, get_or, sym, ap, ap₂, subst, refl, inl, inr, ◌∙◌, arith, lit<, lit≤, Bool, true, false}
use Rattle.std.specs.Prelude.{nat_eq, nat_le, nat_lt, ◌&&◌, not, Some, None, if◌then◌else◌}
use Rattle.std.specs.Int.{trailing_zeros, trailing_ones, w64, bit_at}
use Rattle.std.specs.Int.Count.{trailing_of_zero}
use Rattle.std.proofs.lemmas.Bool.{eq-eqb, eqb-true, leb-true, ltb-true, lt-ltb, le-leb, and_parts, and_from, cases_order, cases_lt, cases_eq}
use Rattle.std.proofs.lemmas.Nat.{pow-add, pow_pos, pow_below}
use Rattle.std.proofs.lemmas.Nat.Bits.{bit_at-trailing_ones, bit_at_ones, bit_at_ones_above, bit_at-trailing_zeros, bit_at_mask_inside, bit_at_mask_below, bit_at_mask_above, same_from_bits_below}
use Rattle.std.proofs.Math.Nat.{mul-le-mul_left, div-mul-le_self, div-div-eq-div-mul, div-lt_iff_lt-mul, lt-div-mul-add, suc-mul, zero-mul, pow-le-pow_right, div-eq_of_lt, mul-div_cancel}
use Rattle.std.proofs.lemmas.List.{drop_all, append-nil, append_assoc, length-append}
use Rattle.dsc_base.specs.Numbers.{number_at, little_bytes}
use Rattle.dsc_base.specs.declared.finding_kind.FindingKind.TheVariants.{SlideInfoShape, MaskShape}
use Rattle.dsc_base.proofs.NumberLaws.{number_at-append_right, number_at-little_bytes, length-little_bytes}
use Rattle.slide_chain.specs.Chains.{Slide, IsRun}
use Rattle.slide_chain.specs.Info.{halves, info_bytes, halves_at, info_read, is_shaped, is_run, info_finding}
use Rattle.slide_chain.proofs.WordLaws.{run_zeros}
use Rattle.slide_chain.proofs.ListLaws.{drop-at}

-- ---- masks

-- a number shifted down by two bits or more leaves room
pub shifted-fits : (mask low : ℕ) → mask < 2 ^ 64 → 2 ≤ low → mask / 2 ^ low + 1 < 2 ^ 64
shifted-fits mask low fits some =
    let four : 2 ^ 2 ≤ 2 ^ low = pow-le-pow_right {n = 2} (omega arith) {i = 2} {j = low} some in
    let grows : mask / 2 ^ low * 2 ^ 2 ≤ mask / 2 ^ low * 2 ^ low = mul-le-mul_left (mask / 2 ^ low) four in
    let under : mask / 2 ^ low * 2 ^ low ≤ mask = div-mul-le_self mask (2 ^ low) in
    omega (arith, grows, under)

zero_of : (k : ℕ) → k ≤ 0 → k ≡ 0
zero_of k none = omega arith

split_of : (a n : ℕ) → a ≤ n → n ≡ n - a + a
split_of a n le = omega arith

less_one : (a b : ℕ) → a * b - b ≡ (a - 1) * b
less_one zero b =
    let left : 0 * b ≡ 0 = zero-mul b in
    omega (arith, left)
less_one (suc a) b =
    let product : suc a * b ≡ a * b + b = suc-mul a b in
    let back : suc a - 1 ≡ a = omega arith in
    let less : suc a * b - b ≡ a * b = omega (arith, product) in
    less ∙ ap (λ (k : ℕ). k * b) (sym back)

lt-of-div : (n k : ℕ) → 0 < k → n / k ≡ 0 → n < k
lt-of-div n k some none =
    let under : n < n / k * k + k = lt-div-mul-add {a = n} {b = k} some in
    let gone : n / k * k ≡ 0 = ap (λ (q : ℕ). q * k) none ∙ zero-mul k in
    omega (arith, under, gone)

-- a number that has none but its lowest ones is 2 ^ k - 1
low_ones : (n : ℕ) → n + 1 < 2 ^ 64 → n / 2 ^ trailing_ones w64 n ≡ 0 → n ≡ 2 ^ trailing_ones w64 n - 1
low_ones n small none =
    let facts : (trailing_ones w64 n < 64) × (bit_at n (trailing_ones w64 n) ≡ 0) × ((i : ℕ) → i < trailing_ones w64 n → bit_at n i ≡ 1) = bit_at-trailing_ones w64 n small in
    let some : 0 < 2 ^ trailing_ones w64 n = pow_pos (trailing_ones w64 n) in
    let under : n < 2 ^ trailing_ones w64 n = lt-of-div n (2 ^ trailing_ones w64 n) some none in
    same_from_bits_below (trailing_ones w64 n) n (2 ^ trailing_ones w64 n - 1) under (omega (arith, some))
    (λ i lt. facts.2 i lt ∙ sym (bit_at_ones (trailing_ones w64 n) i lt))

ones_low : (k : ℕ) → k < 64 → trailing_ones w64 (2 ^ k - 1) ≡ k
ones_low k small =
    let most : 2 ^ k ≤ 2 ^ 63 = pow-le-pow_right {n = 2} (omega arith) {i = k} {j = 63} (omega arith) in
    let facts : (trailing_ones w64 (2 ^ k - 1) < 64) × (bit_at (2 ^ k - 1) (trailing_ones w64 (2 ^ k - 1)) ≡ 0) × ((i : ℕ) → i < trailing_ones w64 (2 ^ k - 1) → bit_at (2 ^ k - 1) i ≡ 1) =
    bit_at-trailing_ones w64 (2 ^ k - 1) (omega (arith, most)) in
    elim (cases_order (trailing_ones w64 (2 ^ k - 1)) k) [
      | inl same ↦ same
      | inr (inl less) ↦ absurd (omega (arith, facts.1, bit_at_ones k (trailing_ones w64 (2 ^ k - 1)) less))
      | inr (inr more) ↦ absurd (omega (arith, facts.2 k more, bit_at_ones_above k k (omega arith)))
    ]

-- the bits of a number shifted down
bit_at-div : (n k i : ℕ) → bit_at (n / 2 ^ k) i ≡ bit_at n (k + i)
bit_at-div n k i = ap (λ (q : ℕ). q % 2) (div-div-eq-div-mul n (2 ^ k) (2 ^ i) ∙ ap (λ (p : ℕ). n / p) (sym (pow-add 2 k i)))

-- a number that has none above its lowest ones, shifted up
run_of : (mask k : ℕ) → 0 < mask → mask < 2 ^ 64 → 2 ≤ trailing_zeros w64 mask → mask / 2 ^ trailing_zeros w64 mask ≡ 2 ^ k - 1 → IsRun mask
run_of mask k some fits above is =
    let low : ℕ = trailing_zeros w64 mask in
    let facts : (trailing_zeros w64 mask < 64) × (bit_at mask (trailing_zeros w64 mask) ≡ 1) × ((i : ℕ) → i < trailing_zeros w64 mask → bit_at mask i ≡ 0) = bit_at-trailing_zeros w64 mask some fits in
    let one_more : 1 ≤ k =
    elim (cases_lt 0 k) [
      | inl more ↦ more
      | inr none ↦
          let zero_power : 2 ^ k ≡ 1 = ap (λ (j : ℕ). 2 ^ j) (zero_of k none) in
          let bit : bit_at mask (trailing_zeros w64 mask) ≡ 1 = facts.1 in
          absurd (omega (arith, zero_power, is, bit))
    ] in
    let halves_up : 2 ^ 64 ≡ 2 ^ (64 - trailing_zeros w64 mask) * 2 ^ trailing_zeros w64 mask = ap (λ (j : ℕ). 2 ^ j) (split_of (trailing_zeros w64 mask) 64 (omega (arith, facts.0))) ∙ pow-add 2 (64 - trailing_zeros w64 mask) (trailing_zeros w64 mask) in
    let small : mask / 2 ^ trailing_zeros w64 mask < 2 ^ (64 - trailing_zeros w64 mask) =
    (div-lt_iff_lt-mul {k = 2 ^ trailing_zeros w64 mask} {x = mask} {y = 2 ^ (64 - trailing_zeros w64 mask)} (pow_pos (trailing_zeros w64 mask))).1 (subst (λ (m : ℕ). mask < m) halves_up fits) in
    let within : trailing_zeros w64 mask + k ≤ 64 =
    elim (cases_lt (64 - trailing_zeros w64 mask) k) [
      | inl over ↦
          let power : 2 ^ (64 - trailing_zeros w64 mask) < 2 ^ k = pow_below (64 - trailing_zeros w64 mask) k over in
          absurd (omega (arith, power, small, is))
      | inr under ↦ omega (arith, under, facts.0)
    ] in
    let top : 2 ^ (k + trailing_zeros w64 mask) ≤ 2 ^ 64 = pow-le-pow_right {n = 2} (omega arith) {i = k + trailing_zeros w64 mask} {j = 64} (omega (arith, within)) in
    let positive : 0 < 2 ^ trailing_zeros w64 mask = pow_pos (trailing_zeros w64 mask) in
    record {
      low = trailing_zeros w64 mask;
      count = k;
      above = above;
      some = one_more;
      within = within;
      ones = same_from_bits_below 64 mask (2 ^ (k + trailing_zeros w64 mask) - 2 ^ trailing_zeros w64 mask) fits (omega (arith, top, positive))
          (λ i lt. elim (cases_lt i (trailing_zeros w64 mask)) [
            | inl below ↦ facts.2 i below ∙ sym (bit_at_mask_below (trailing_zeros w64 mask) (k + trailing_zeros w64 mask) i below)
            | inr above_low ↦
                let back : trailing_zeros w64 mask + (i - trailing_zeros w64 mask) ≡ i = omega (arith, above_low) in
                let shifted : bit_at mask i ≡ bit_at (2 ^ k - 1) (i - trailing_zeros w64 mask) =
                ap (bit_at mask) (sym back) ∙ (sym (bit_at-div mask (trailing_zeros w64 mask) (i - trailing_zeros w64 mask)) ∙ ap (λ (n : ℕ). bit_at n (i - trailing_zeros w64 mask)) is) in
                elim (cases_lt i (k + trailing_zeros w64 mask)) [
                  | inl inside ↦ shifted ∙ (bit_at_ones k (i - trailing_zeros w64 mask) (omega (arith, inside, above_low)) ∙ sym (bit_at_mask_inside (trailing_zeros w64 mask) (k + trailing_zeros w64 mask) i above_low inside))
                  | inr beyond ↦ shifted ∙ (bit_at_ones_above k (i - trailing_zeros w64 mask) (omega (arith, beyond, above_low)) ∙ sym (bit_at_mask_above (trailing_zeros w64 mask) (k + trailing_zeros w64 mask) i beyond))
                ]
          ]);
    }

-- the test holds of runs of ones alone
pub is_run-true : (mask : ℕ) → mask < 2 ^ 64 → is_run mask ≡ true → IsRun mask
unfolding is_run
is_run-true mask fits is =
    let first : (nat_le 2 (trailing_zeros w64 mask) ≡ true) × ((nat_lt (trailing_zeros w64 mask) 64 && nat_eq (mask / 2 ^ trailing_zeros w64 mask / 2 ^ trailing_ones w64 (mask / 2 ^ trailing_zeros w64 mask)) 0) ≡ true) =
    and_parts (nat_le 2 (trailing_zeros w64 mask)) (nat_lt (trailing_zeros w64 mask) 64 && nat_eq (mask / 2 ^ trailing_zeros w64 mask / 2 ^ trailing_ones w64 (mask / 2 ^ trailing_zeros w64 mask)) 0) is in
    let second : (nat_lt (trailing_zeros w64 mask) 64 ≡ true) × (nat_eq (mask / 2 ^ trailing_zeros w64 mask / 2 ^ trailing_ones w64 (mask / 2 ^ trailing_zeros w64 mask)) 0 ≡ true) =
    and_parts (nat_lt (trailing_zeros w64 mask) 64) (nat_eq (mask / 2 ^ trailing_zeros w64 mask / 2 ^ trailing_ones w64 (mask / 2 ^ trailing_zeros w64 mask)) 0) first.1 in
    let above : 2 ≤ trailing_zeros w64 mask = leb-true 2 (trailing_zeros w64 mask) first.0 in
    let some : 0 < mask =
    elim (cases_eq mask 0) [
      | inl none ↦
          let all : trailing_zeros w64 mask ≡ 64 = ap (trailing_zeros w64) none ∙ trailing_of_zero 64 in
          absurd (omega (arith, all, ltb-true (trailing_zeros w64 mask) 64 second.0))
      | inr other ↦ omega (arith, other)
    ] in
    run_of mask (trailing_ones w64 (mask / 2 ^ trailing_zeros w64 mask)) some fits above
    (low_ones (mask / 2 ^ trailing_zeros w64 mask) (shifted-fits mask (trailing_zeros w64 mask) fits above)
    (eqb-true (mask / 2 ^ trailing_zeros w64 mask / 2 ^ trailing_ones w64 (mask / 2 ^ trailing_zeros w64 mask)) 0 second.1))

run-ones : (mask : ℕ) (run : IsRun mask) → mask / 2 ^ run.low ≡ 2 ^ run.count - 1
run-ones mask run =
    let product : 2 ^ (run.count + run.low) ≡ 2 ^ run.count * 2 ^ run.low = pow-add 2 run.count run.low in
    let whole : mask ≡ (2 ^ run.count - 1) * 2 ^ run.low = run.ones ∙ (ap (λ (n : ℕ). n - 2 ^ run.low) product ∙ less_one (2 ^ run.count) (2 ^ run.low)) in
    ap (λ (n : ℕ). n / 2 ^ run.low) whole ∙ mul-div_cancel (2 ^ run.count - 1) (pow_pos run.low)

-- and of all of them
pub is_run-from : (mask : ℕ) → IsRun mask → is_run mask ≡ true
unfolding is_run
is_run-from mask run =
    let low : trailing_zeros w64 mask ≡ run.low = run_zeros mask run in
    let ones : mask / 2 ^ trailing_zeros w64 mask ≡ 2 ^ run.count - 1 = ap (λ (k : ℕ). mask / 2 ^ k) low ∙ run-ones mask run in
    let count : trailing_ones w64 (mask / 2 ^ trailing_zeros w64 mask) ≡ run.count = ap (trailing_ones w64) ones ∙ ones_low run.count (omega (arith, run.within, run.above)) in
    let some : 0 < 2 ^ run.count = pow_pos run.count in
    let none : mask / 2 ^ trailing_zeros w64 mask / 2 ^ trailing_ones w64 (mask / 2 ^ trailing_zeros w64 mask) ≡ 0 =
    ap₂ (λ (n k : ℕ). n / 2 ^ k) ones count ∙ div-eq_of_lt {n = 2 ^ run.count - 1} {m = 2 ^ run.count} (omega (arith, some)) in
    and_from (nat_le 2 (trailing_zeros w64 mask)) (nat_lt (trailing_zeros w64 mask) 64 && nat_eq (mask / 2 ^ trailing_zeros w64 mask / 2 ^ trailing_ones w64 (mask / 2 ^ trailing_zeros w64 mask)) 0)
    (le-leb 2 (trailing_zeros w64 mask) (omega (arith, low, run.above)))
    (and_from (nat_lt (trailing_zeros w64 mask) 64) (nat_eq (mask / 2 ^ trailing_zeros w64 mask / 2 ^ trailing_ones w64 (mask / 2 ^ trailing_zeros w64 mask)) 0)
    (lt-ltb (trailing_zeros w64 mask) 64 (omega (arith, low, run.within, run.some))) (eq-eqb (mask / 2 ^ trailing_zeros w64 mask / 2 ^ trailing_ones w64 (mask / 2 ^ trailing_zeros w64 mask)) 0 none))

-- ---- numbers of two bytes

pub halves-more : (xs bytes whole piece : List ℕ) (i : ℕ) → i < length xs → piece ≡ bytes ++ little_bytes 2 (get_or xs i 0) → bytes ++ halves (drop i xs) ≡ whole → piece ++ halves (drop (i + 1) xs) ≡ whole
unfolding halves
halves-more xs bytes whole piece i within is before =
    ap (λ (l : List ℕ). l ++ halves (drop (i + 1) xs)) is
    ∙ (append_assoc bytes (little_bytes 2 (get_or xs i 0)) (halves (drop (i + 1) xs))
    ∙ (ap (λ (l : List ℕ). bytes ++ halves l) (sym (drop-at xs i within)) ∙ before))

pub halves-ends : (xs bytes : List ℕ) (i : ℕ) → length xs ≤ i → bytes ++ halves (drop i xs) ≡ bytes
unfolding halves
halves-ends xs bytes i past = ap (λ (l : List ℕ). bytes ++ halves l) (drop_all i xs past) ∙ append-nil bytes

pub halves_at-more : (numbers bytes whole : List ℕ) (n m at next v : ℕ) → n ≡ suc m → next ≡ at + 2 → v ≡ number_at 2 bytes at → numbers ++ halves_at n bytes at ≡ whole → (numbers ++ (v ∷ [])) ++ halves_at m bytes next ≡ whole
unfolding halves_at
halves_at-more numbers bytes whole n m at next v is_n is_next is before =
    append_assoc numbers (v ∷ []) (halves_at m bytes next)
    ∙ (ap₂ (λ (x k : ℕ). numbers ++ (x ∷ halves_at m bytes k)) is is_next
    ∙ (ap (λ (k : ℕ). numbers ++ halves_at k bytes at) (sym is_n) ∙ before))

pub halves_at-ends : (numbers bytes : List ℕ) (n at : ℕ) → n ≡ 0 → numbers ++ halves_at n bytes at ≡ numbers
unfolding halves_at
halves_at-ends numbers bytes n at none = ap (λ (k : ℕ). numbers ++ halves_at k bytes at) none ∙ append-nil numbers

pub length-halves_at : (n : ℕ) (bytes : List ℕ) (at : ℕ) → length (halves_at n bytes at) ≡ n
unfolding halves_at
length-halves_at zero bytes at = refl
length-halves_at (suc n) bytes at = ap suc (length-halves_at n bytes (at + 2))

length-halves : (xs : List ℕ) → length (halves xs) ≡ 2 * length xs
unfolding halves
length-halves [] = refl
length-halves (x ∷ xs) = omega (arith, length-append (little_bytes 2 x) (halves xs), length-little_bytes 2 x, length-halves xs)

-- what stands behind other bytes
halves_at-behind : (n : ℕ) (pre post : List ℕ) (at place : ℕ) → place ≡ length pre + at → halves_at n (pre ++ post) place ≡ halves_at n post at
unfolding halves_at
halves_at-behind zero pre post at place is = refl
halves_at-behind (suc n) pre post at place is =
    let back : place - length pre ≡ at = omega arith in
    ap₂ (λ (x : ℕ) (l : List ℕ). x ∷ l)
    (number_at-append_right 2 pre post (length pre) place refl (omega arith) ∙ ap (number_at 2 post) back)
    (halves_at-behind n pre post (at + 2) (place + 2) (omega arith))

halves_at-back : (xs post : List ℕ) → ((k : ℕ) → get_or xs k 0 < 2 ^ 16) → halves_at (length xs) (halves xs ++ post) 0 ≡ xs
unfolding halves_at halves
halves_at-back [] post small = refl
halves_at-back (x ∷ xs) post small =
    let regroup : (little_bytes 2 x ++ halves xs) ++ post ≡ little_bytes 2 x ++ (halves xs ++ post) = append_assoc (little_bytes 2 x) (halves xs) post in
    ap (λ (b : List ℕ). number_at 2 b 0 ∷ halves_at (length xs) b (0 + 2)) regroup
    ∙ ap₂ (λ (v : ℕ) (l : List ℕ). v ∷ l) (number_at-little_bytes 2 x (halves xs ++ post) (small 0))
    (halves_at-behind (length xs) (little_bytes 2 x) (halves xs ++ post) 0 2 (omega (arith, length-little_bytes 2 x)) ∙ halves_at-back xs post (λ k. small (suc k)))

-- ---- the whole information

-- the head alone
unfoldable head_bytes : Slide → List ℕ
head_bytes s =
    little_bytes 4 2 ++ (little_bytes 4 4096 ++ (little_bytes 4 40 ++ (little_bytes 4 (length s.starts)
    ++ (little_bytes 4 (40 + 2 * length s.starts) ++ (little_bytes 4 (length s.extras) ++ (little_bytes 8 s.mask ++ little_bytes 8 s.value_add))))))

length-head : (s : Slide) → length (head_bytes s) ≡ 40
unfolding head_bytes
length-head s = simp length-append refl

info-split : (s : Slide) → info_bytes s ≡ head_bytes s ++ (halves s.starts ++ halves s.extras)
unfolding info_bytes head_bytes
info-split s = simp append_assoc

length-info : (s : Slide) → length (info_bytes s) ≡ 40 + 2 * length s.starts + 2 * length s.extras
length-info s =
    ap (λ (l : List ℕ). length l) (info-split s)
    ∙ omega (arith, length-append (head_bytes s) (halves s.starts ++ halves s.extras), length-head s, length-append (halves s.starts) (halves s.extras), length-halves s.starts, length-halves s.extras)

-- past a number
past : (w n v i : ℕ) (rest : List ℕ) → n ≤ i → number_at w (little_bytes n v ++ rest) i ≡ number_at w rest (i - n)
past w n v i rest le = number_at-append_right w (little_bytes n v) rest n i (length-little_bytes n v) le

-- the numbers of a head
record Head (s : Slide) : Type 0 where
  version : number_at 4 (info_bytes s) 0 ≡ 2
  page : number_at 4 (info_bytes s) 4 ≡ 4096
  starts_at : number_at 4 (info_bytes s) 8 ≡ 40
  starts : number_at 4 (info_bytes s) 12 ≡ length s.starts
  extras_at : number_at 4 (info_bytes s) 16 ≡ 40 + 2 * length s.starts
  extras : number_at 4 (info_bytes s) 20 ≡ length s.extras
  mask : number_at 8 (info_bytes s) 24 ≡ s.mask
  value_add : number_at 8 (info_bytes s) 32 ≡ s.value_add

-- what fits
pub record IsSpellable (s : Slide) : Type 0 where
  pub few_starts : length s.starts < 2 ^ 30
  pub few_extras : length s.extras < 2 ^ 30
  pub mask_fits : s.mask < 2 ^ 64
  pub value_add_fits : s.value_add < 2 ^ 64
  pub starts_fit : (k : ℕ) → get_or s.starts k 0 < 2 ^ 16
  pub extras_fit : (k : ℕ) → get_or s.extras k 0 < 2 ^ 16

head-read : (s : Slide) → IsSpellable s → Head s
unfolding info_bytes
head-read s fit =
    let both : List ℕ = halves s.starts ++ halves s.extras in
    let f7 : List ℕ = little_bytes 8 s.value_add ++ both in
    let f6 : List ℕ = little_bytes 8 s.mask ++ f7 in
    let f5 : List ℕ = little_bytes 4 (length s.extras) ++ f6 in
    let f4 : List ℕ = little_bytes 4 (40 + 2 * length s.starts) ++ f5 in
    let f3 : List ℕ = little_bytes 4 (length s.starts) ++ f4 in
    let f2 : List ℕ = little_bytes 4 40 ++ f3 in
    let f1 : List ℕ = little_bytes 4 4096 ++ f2 in
    let c : ℕ = length s.starts in
    record {
      version = number_at-little_bytes 4 2 f1 (lit< tt);
      page = past 4 4 2 4 f1 (lit≤ tt) ∙ number_at-little_bytes 4 4096 f2 (lit< tt);
      starts_at = past 4 4 2 8 f1 (lit≤ tt) ∙ (past 4 4 4096 4 f2 (lit≤ tt) ∙ number_at-little_bytes 4 40 f3 (lit< tt));
      starts = past 4 4 2 12 f1 (lit≤ tt) ∙ (past 4 4 4096 8 f2 (lit≤ tt) ∙ (past 4 4 40 4 f3 (lit≤ tt) ∙ number_at-little_bytes 4 (length s.starts) f4 (omega (arith, fit.few_starts))));
      extras_at = past 4 4 2 16 f1 (lit≤ tt) ∙ (past 4 4 4096 12 f2 (lit≤ tt) ∙ (past 4 4 40 8 f3 (lit≤ tt) ∙ (past 4 4 (length s.starts) 4 f4 (lit≤ tt)
          ∙ number_at-little_bytes 4 (40 + 2 * length s.starts) f5 (omega (arith, fit.few_starts)))));
      extras = past 4 4 2 20 f1 (lit≤ tt) ∙ (past 4 4 4096 16 f2 (lit≤ tt) ∙ (past 4 4 40 12 f3 (lit≤ tt) ∙ (past 4 4 (length s.starts) 8 f4 (lit≤ tt)
          ∙ (past 4 4 (40 + 2 * length s.starts) 4 f5 (lit≤ tt) ∙ number_at-little_bytes 4 (length s.extras) f6 (omega (arith, fit.few_extras))))));
      mask = past 8 4 2 24 f1 (lit≤ tt) ∙ (past 8 4 4096 20 f2 (lit≤ tt) ∙ (past 8 4 40 16 f3 (lit≤ tt) ∙ (past 8 4 (length s.starts) 12 f4 (lit≤ tt)
          ∙ (past 8 4 (40 + 2 * length s.starts) 8 f5 (lit≤ tt) ∙ (past 8 4 (length s.extras) 4 f6 (lit≤ tt) ∙ number_at-little_bytes 8 s.mask f7 fit.mask_fits)))));
      value_add = past 8 4 2 32 f1 (lit≤ tt) ∙ (past 8 4 4096 28 f2 (lit≤ tt) ∙ (past 8 4 40 24 f3 (lit≤ tt) ∙ (past 8 4 (length s.starts) 20 f4 (lit≤ tt)
          ∙ (past 8 4 (40 + 2 * length s.starts) 16 f5 (lit≤ tt) ∙ (past 8 4 (length s.extras) 12 f6 (lit≤ tt) ∙ (past 8 8 s.mask 8 f7 (lit≤ tt) ∙ number_at-little_bytes 8 s.value_add both fit.value_add_fits))))));
    }

starts-read : (s : Slide) → IsSpellable s → halves_at (length s.starts) (info_bytes s) 40 ≡ s.starts
starts-read s fit =
    ap (λ (b : List ℕ). halves_at (length s.starts) b 40) (info-split s)
    ∙ (halves_at-behind (length s.starts) (head_bytes s) (halves s.starts ++ halves s.extras) 0 40 (omega (arith, length-head s)) ∙ halves_at-back s.starts (halves s.extras) fit.starts_fit)

extras-read : (s : Slide) → IsSpellable s → halves_at (length s.extras) (info_bytes s) (40 + 2 * length s.starts) ≡ s.extras
extras-read s fit =
    let regroup : info_bytes s ≡ (head_bytes s ++ halves s.starts) ++ halves s.extras = info-split s ∙ sym (append_assoc (head_bytes s) (halves s.starts) (halves s.extras)) in
    ap (λ (b : List ℕ). halves_at (length s.extras) b (40 + 2 * length s.starts)) regroup
    ∙ (halves_at-behind (length s.extras) (head_bytes s ++ halves s.starts) (halves s.extras) 0 (40 + 2 * length s.starts)
    (omega (arith, length-append (head_bytes s) (halves s.starts), length-head s, length-halves s.starts))
    ∙ (ap (λ (b : List ℕ). halves_at (length s.extras) b 0) (sym (append-nil (halves s.extras))) ∙ halves_at-back s.extras [] fit.extras_fit))

-- what is written is read back
pub info-back : (s : Slide) → IsSpellable s → info_read (info_bytes s) ≡ s
unfolding info_read
info-back s fit =
    let head : Head s = head-read s fit in
    ap₂ (λ (m v : ℕ). let t : Slide = record {
      mask = m;
      value_add = v;
      starts = halves_at (number_at 4 (info_bytes s) 12) (info_bytes s) (number_at 4 (info_bytes s) 8);
      extras = halves_at (number_at 4 (info_bytes s) 20) (info_bytes s) (number_at 4 (info_bytes s) 16);
    } in t) head.mask head.value_add
    ∙ ap₂ (λ (a b : List ℕ). let t : Slide = record { mask = s.mask; value_add = s.value_add; starts = a; extras = b } in t)
    (ap₂ (λ (n at : ℕ). halves_at n (info_bytes s) at) head.starts head.starts_at ∙ starts-read s fit)
    (ap₂ (λ (n at : ℕ). halves_at n (info_bytes s) at) head.extras head.extras_at ∙ extras-read s fit)

and_true : {x y : Bool} → x ≡ true → y ≡ true → (x && y) ≡ true
and_true {x} {y} left right = and_from x y left right

-- and nothing is wrong with it
pub info-sound : (s : Slide) → IsSpellable s → IsRun s.mask → info_finding (length s.starts * 4096) (info_bytes s) ≡ None
unfolding info_finding is_shaped
info-sound s fit run =
    let head : Head s = head-read s fit in
    let long : length (info_bytes s) ≡ 40 + 2 * length s.starts + 2 * length s.extras = length-info s in
    let pages : length s.starts ≡ length s.starts * 4096 / 4096 = omega arith in
    let shaped : is_shaped (length s.starts * 4096) (info_bytes s) ≡ true =
    and_true (le-leb 40 (length (info_bytes s)) (omega (arith, long)))
    (and_true (eq-eqb (number_at 4 (info_bytes s) 0) 2 head.version)
    (and_true (eq-eqb (number_at 4 (info_bytes s) 4) 4096 head.page)
    (and_true (eq-eqb (number_at 4 (info_bytes s) 12) (length s.starts * 4096 / 4096) (head.starts ∙ pages))
    (and_true (le-leb (number_at 4 (info_bytes s) 8 + 2 * number_at 4 (info_bytes s) 12) (length (info_bytes s)) (omega (arith, long, head.starts_at, head.starts)))
    (le-leb (number_at 4 (info_bytes s) 16 + 2 * number_at 4 (info_bytes s) 20) (length (info_bytes s)) (omega (arith, long, head.extras_at, head.extras))))))) in
    ap₂ (λ (a b : Bool). if not a then Some record { kind = SlideInfoShape; image = 0; at = 0x38 } else (if not b then Some record { kind = MaskShape; image = 0; at = 0x38 } else None))
    shaped (ap is_run head.mask ∙ is_run-from s.mask run)

-- ---- what the code finds

-- one append after the other
pub spelled : (s : Slide) (b0 b1 b2 b3 b4 b5 b6 b7 b8 b9 b10 : List ℕ) → b0 ≡ [] → b1 ≡ b0 ++ little_bytes 4 2 → b2 ≡ b1 ++ little_bytes 4 4096 → b3 ≡ b2 ++ little_bytes 4 40
    → b4 ≡ b3 ++ little_bytes 4 (length s.starts) → b5 ≡ b4 ++ little_bytes 4 (40 + 2 * length s.starts) → b6 ≡ b5 ++ little_bytes 4 (length s.extras)
    → b7 ≡ b6 ++ little_bytes 8 s.mask → b8 ≡ b7 ++ little_bytes 8 s.value_add → b9 ≡ b8 ++ halves s.starts → b10 ≡ b9 ++ halves s.extras → b10 ≡ info_bytes s
unfolding info_bytes
spelled s b0 b1 b2 b3 b4 b5 b6 b7 b8 b9 b10 e0 e1 e2 e3 e4 e5 e6 e7 e8 e9 e10 =
    let f3 : b3 ≡ (([] ++ little_bytes 4 2) ++ little_bytes 4 4096) ++ little_bytes 4 40 =
    e3 ∙ ap (λ (l : List ℕ). l ++ little_bytes 4 40) (e2 ∙ ap (λ (l : List ℕ). l ++ little_bytes 4 4096) (e1 ∙ ap (λ (l : List ℕ). l ++ little_bytes 4 2) e0)) in
    let f6 : b6 ≡ (((((([] ++ little_bytes 4 2) ++ little_bytes 4 4096) ++ little_bytes 4 40) ++ little_bytes 4 (length s.starts)) ++ little_bytes 4 (40 + 2 * length s.starts)) ++ little_bytes 4 (length s.extras)) =
    e6 ∙ ap (λ (l : List ℕ). l ++ little_bytes 4 (length s.extras)) (e5 ∙ ap (λ (l : List ℕ). l ++ little_bytes 4 (40 + 2 * length s.starts)) (e4 ∙ ap (λ (l : List ℕ). l ++ little_bytes 4 (length s.starts)) f3)) in
    e10 ∙ (ap (λ (l : List ℕ). l ++ halves s.extras) (e9 ∙ ap (λ (l : List ℕ). l ++ halves s.starts) (e8 ∙ ap (λ (l : List ℕ). l ++ little_bytes 8 s.value_add) (e7 ∙ ap (λ (l : List ℕ). l ++ little_bytes 8 s.mask) f6)))
    ∙ simp append_assoc)

pub is_run-low : (mask : ℕ) → 2 ≤ trailing_zeros w64 mask → trailing_zeros w64 mask < 64
    → is_run mask ≡ nat_eq (mask / 2 ^ trailing_zeros w64 mask / 2 ^ trailing_ones w64 (mask / 2 ^ trailing_zeros w64 mask)) 0
unfolding is_run
is_run-low mask above below =
    ap₂ (λ (a b : Bool). a && (b && nat_eq (mask / 2 ^ trailing_zeros w64 mask / 2 ^ trailing_ones w64 (mask / 2 ^ trailing_zeros w64 mask)) 0))
    (le-leb 2 (trailing_zeros w64 mask) above) (lt-ltb (trailing_zeros w64 mask) 64 below)

pub finding-shape : (size : ℕ) (bytes : List ℕ) → is_shaped size bytes ≡ false → info_finding size bytes ≡ Some record { kind = SlideInfoShape; image = 0; at = 0x38 }
unfolding info_finding
finding-shape size bytes fails =
    ap (λ (a : Bool). if not a then Some record { kind = SlideInfoShape; image = 0; at = 0x38 } else (if not (is_run (number_at 8 bytes 24)) then Some record { kind = MaskShape; image = 0; at = 0x38 } else None)) fails

pub finding-mask : (size : ℕ) (bytes : List ℕ) → is_shaped size bytes ≡ true → is_run (number_at 8 bytes 24) ≡ false → info_finding size bytes ≡ Some record { kind = MaskShape; image = 0; at = 0x38 }
unfolding info_finding
finding-mask size bytes passes fails =
    ap₂ (λ (a b : Bool). if not a then Some record { kind = SlideInfoShape; image = 0; at = 0x38 } else (if not b then Some record { kind = MaskShape; image = 0; at = 0x38 } else None)) passes fails

pub finding-none : (size : ℕ) (bytes : List ℕ) → is_shaped size bytes ≡ true → is_run (number_at 8 bytes 24) ≡ true → info_finding size bytes ≡ None
unfolding info_finding
finding-none size bytes shaped run =
    ap₂ (λ (a b : Bool). if not a then Some record { kind = SlideInfoShape; image = 0; at = 0x38 } else (if not b then Some record { kind = MaskShape; image = 0; at = 0x38 } else None)) shaped run
