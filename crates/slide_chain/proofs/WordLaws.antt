-- One word under a mask: its value, its delta, and what the writer's delta bits do to both.
use Rattle.std.proofs.Common.{◌≡◌, ◌<◌, ◌≤◌, ℕ, ◌+◌, ◌-◌, ◌*◌, ◌/◌, ◌%◌, ◌^◌, sym, ap, ap₂, inl, inr, ◌∙◌, arith, lit≤, cond, true, false}
use Rattle.std.specs.Prelude.{bit_and, nat_eq}
use Rattle.std.specs.Int.{trailing_zeros, w64, bit_at}
use Rattle.std.proofs.lemmas.Nat.{and-not, and_comm, pow-add, pow_pos, pow_below}
use Rattle.std.proofs.lemmas.Nat.Bits.{and_high, bit_at-trailing_zeros, bit_at_mask_inside, bit_at_mask_below}
use Rattle.std.proofs.lemmas.Bool.{eq-eqb, ne_eqb, cond-true, cond-false, cases_order}
use Rattle.std.proofs.Math.Nat.{pow-le-pow_right, mul-div_cancel, mul-le-mul_left, lt_of_mul-lt-mul_left, mul_assoc, mul_right_comm, mul-add, mul-one, add-mod, mod-eq_of_lt, div-add-mod}
use Rattle.slide_chain.specs.Chains.{Slide, delta_of, kept, unslid, moved, slid, IsRun}

-- `raw & !mask` is the word without the mask's bits
pub kept-and_not : (mask raw : ℕ) → mask < 2 ^ 64 → raw < 2 ^ 64 → bit_and raw (18446744073709551615 - mask) ≡ kept mask raw
unfolding kept
kept-and_not mask raw small fits =
    let parts : bit_and (2 ^ 64 - 1 - mask) raw + bit_and mask raw ≡ raw = and-not 64 mask raw small fits in
    let swap : bit_and raw (18446744073709551615 - mask) ≡ bit_and (2 ^ 64 - 1 - mask) raw = and_comm raw (18446744073709551615 - mask) in
    let back : bit_and mask raw ≡ bit_and raw mask = and_comm mask raw in
    omega (arith, parts, swap, back)

-- a word without a value stays 0
pub slid_none : (s : Slide) (slide raw : ℕ) → kept s.mask raw ≡ 0 → slid s slide raw ≡ 0
unfolding moved
slid_none s slide raw none = cond-true (nat_eq (kept s.mask raw) 0) 0 ((unslid s.mask s.value_add raw + slide) % 2 ^ 64) (eq-eqb (kept s.mask raw) 0 none)

-- any other word moves by the slide
pub slid_some : (s : Slide) (slide raw : ℕ) → (kept s.mask raw ≡ 0 → ⊥) → slid s slide raw ≡ (unslid s.mask s.value_add raw + slide) % 2 ^ 64
unfolding moved
slid_some s slide raw some = cond-false (nat_eq (kept s.mask raw) 0) 0 ((unslid s.mask s.value_add raw + slide) % 2 ^ 64) (ne_eqb (kept s.mask raw) 0 some)

pub kept-le : (mask raw : ℕ) → kept mask raw ≤ raw
unfolding kept
kept-le mask raw = omega arith

pub slid-lt : (s : Slide) (slide raw : ℕ) → slid s slide raw < 2 ^ 64
unfolding moved
slid-lt s slide raw = elim (nat_eq (kept s.mask raw) 0) as (λ b. (cond b 0 ((unslid s.mask s.value_add raw + slide) % 2 ^ 64)) < 2 ^ 64) [ true ↦ omega arith | false ↦ omega arith ]

-- ---- a mask that is a run of ones

times_four : (a b : ℕ) → a * (b * 2 ^ 2) ≡ a * 4 * b
times_four a b = sym (mul_assoc a b 4) ∙ (mul_right_comm a b 4)

one_more : (m q : ℕ) → m * (q + 1) ≡ m * q + m
one_more m q = mul-add m q 1 ∙ ap (λ (x : ℕ). m * q + x) (mul-one m)

omega_zero : (k : ℕ) → 0 + k ≡ k
omega_zero k = omega arith

restore : (n : ℕ) → n ≤ 16 → n + (16 - n) ≡ 16
restore n most = omega arith

pub run_some : (mask : ℕ) → IsRun mask → 0 < mask
run_some mask run =
    let grows : 2 ^ run.low < 2 ^ (run.count + run.low) = pow_below run.low (run.count + run.low) (omega (arith, run.some)) in
    let is : mask ≡ 2 ^ (run.count + run.low) - 2 ^ run.low = run.ones in
    omega (arith, grows, is)

pub run_fits : (mask : ℕ) → IsRun mask → mask < 2 ^ 64
run_fits mask run =
    let most : 2 ^ (run.count + run.low) ≤ 2 ^ 64 = pow-le-pow_right {n = 2} (omega arith) {i = run.count + run.low} {j = 64} (omega (arith, run.within)) in
    let some : 0 < 2 ^ run.low = pow_pos run.low in
    let is : mask ≡ 2 ^ (run.count + run.low) - 2 ^ run.low = run.ones in
    omega (arith, most, some, is)

-- its lowest one is where the run begins
pub run_zeros : (mask : ℕ) (run : IsRun mask) → trailing_zeros w64 mask ≡ run.low
run_zeros mask run =
    let facts : (trailing_zeros w64 mask < 64) × (bit_at mask (trailing_zeros w64 mask) ≡ 1) × ((i : ℕ) → i < trailing_zeros w64 mask → bit_at mask i ≡ 0) =
    bit_at-trailing_zeros w64 mask (run_some mask run) (run_fits mask run) in
    let low_one : bit_at mask run.low ≡ 1 = ap (λ (m : ℕ). bit_at m run.low) run.ones ∙ bit_at_mask_inside run.low (run.count + run.low) run.low (omega arith) (omega (arith, run.some)) in
    elim (cases_order (trailing_zeros w64 mask) run.low) [
      | inl same ↦ same
      | inr (inl less) ↦
          let none : bit_at mask (trailing_zeros w64 mask) ≡ 0 = ap (λ (m : ℕ). bit_at m (trailing_zeros w64 mask)) run.ones ∙ bit_at_mask_below run.low (run.count + run.low) (trailing_zeros w64 mask) less in
          absurd (omega (arith, none, facts.1))
      | inr (inr more) ↦ absurd (omega (arith, low_one, facts.2 run.low more))
    ]

-- the bits of the mask count units of four bytes
pub delta_is : (mask : ℕ) (run : IsRun mask) (raw : ℕ) → delta_of mask raw ≡ raw / 2 ^ run.low % 2 ^ run.count * 4
unfolding delta_of
delta_is mask run raw =
    let bits : bit_and raw mask ≡ raw / 2 ^ run.low % 2 ^ run.count * 2 ^ run.low = ap (bit_and raw) run.ones ∙ and_high raw run.count run.low in
    let down : run.low - 2 + 2 ≡ run.low = omega (arith, run.above) in
    let split : 2 ^ run.low ≡ 2 ^ (run.low - 2) * 2 ^ 2 = ap (λ (k : ℕ). 2 ^ k) (sym down) ∙ pow-add 2 (run.low - 2) 2 in
    let units : ℕ = raw / 2 ^ run.low % 2 ^ run.count in
    let whole : raw / 2 ^ run.low % 2 ^ run.count * 2 ^ run.low ≡ raw / 2 ^ run.low % 2 ^ run.count * 4 * 2 ^ (run.low - 2) =
    ap (λ (p : ℕ). raw / 2 ^ run.low % 2 ^ run.count * p) split ∙ times_four (raw / 2 ^ run.low % 2 ^ run.count) (2 ^ (run.low - 2)) in
    ap₂ (λ (n k : ℕ). n / 2 ^ (k - 2)) (bits ∙ whole) (run_zeros mask run)
    ∙ mul-div_cancel (raw / 2 ^ run.low % 2 ^ run.count * 4) (pow_pos (run.low - 2))

pub delta-fours : (mask : ℕ) (run : IsRun mask) (raw : ℕ) → delta_of mask raw % 4 ≡ 0
delta-fours mask run raw =
    let is : delta_of mask raw ≡ raw / 2 ^ run.low % 2 ^ run.count * 4 = delta_is mask run raw in
    omega (arith, is)

-- ---- the writer's mask: n bits from 48 up

pub made_within : (n : ℕ) → n ≤ 16 → 48 + n ≤ 64
made_within n most = omega arith

pub made_ones : (n : ℕ) → (2 ^ n - 1) * 2 ^ 48 ≡ 2 ^ (n + 48) - 2 ^ 48
made_ones n =
    let product : 2 ^ (n + 48) ≡ 2 ^ n * 2 ^ 48 = pow-add 2 n 48 in
    omega (arith, product)

abbrev pub made_run : (n : ℕ) → 1 ≤ n → n ≤ 16 → IsRun ((2 ^ n - 1) * 2 ^ 48)
made_run n some most =
    record { low = 48; count = n; above = lit≤ tt; some = some; within = made_within n most; ones = made_ones n }

pub record Written (n v k : ℕ) : Type 0 where
  pub fits : v + k * 2 ^ 48 < 2 ^ 64
  pub delta : delta_of ((2 ^ n - 1) * 2 ^ 48) (v + k * 2 ^ 48) ≡ k * 4
  pub value : kept ((2 ^ n - 1) * 2 ^ 48) (v + k * 2 ^ 48) ≡ v

-- a word outside the mask with a number of units in the mask's bits: it fits, its delta is that number of units, and its value is as before
pub written : (n v k : ℕ) → 1 ≤ n → n ≤ 16 → v < 2 ^ 64 → bit_and v ((2 ^ n - 1) * 2 ^ 48) ≡ 0 → k ≤ 2 ^ n - 1 → Written n v k
unfolding kept
written n v k some most fits outside small =
    let run : IsRun ((2 ^ n - 1) * 2 ^ 48) = made_run n some most in
    let least_one : 1 ≤ 2 ^ n = pow_pos n in
    let ones : (2 ^ n - 1) * 2 ^ 48 ≡ 2 ^ (n + 48) - 2 ^ 48 = made_ones n in
    let bits : (x : ℕ) → bit_and x ((2 ^ n - 1) * 2 ^ 48) ≡ x / 2 ^ 48 % 2 ^ n * 2 ^ 48 = λ x. ap (bit_and x) ones ∙ and_high x n 48 in
    let none : v / 2 ^ 48 % 2 ^ n ≡ 0 = omega (arith, bits v, outside) in
    let sum : (v + k * 2 ^ 48) / 2 ^ 48 ≡ v / 2 ^ 48 + k = omega arith in
    let units : (v + k * 2 ^ 48) / 2 ^ 48 % 2 ^ n ≡ k =
    ap (λ (q : ℕ). q % 2 ^ n) sum
    ∙ (add-mod (v / 2 ^ 48) k (2 ^ n)
    ∙ (ap₂ (λ (a b : ℕ). (a + b) % 2 ^ n) none (mod-eq_of_lt (omega (arith, least_one)))
    ∙ (ap (λ (a : ℕ). a % 2 ^ n) (omega_zero k) ∙ mod-eq_of_lt (omega (arith, least_one))))) in
    let high : 2 ^ n * 2 ^ (16 - n) ≡ 2 ^ 16 = sym (pow-add 2 n (16 - n)) ∙ ap (λ (j : ℕ). 2 ^ j) (restore n most) in
    let parts : 2 ^ n * (v / 2 ^ 48 / 2 ^ n) + v / 2 ^ 48 % 2 ^ n ≡ v / 2 ^ 48 = div-add-mod (v / 2 ^ 48) (2 ^ n) in
    let below : 2 ^ n * (v / 2 ^ 48 / 2 ^ n) < 2 ^ n * 2 ^ (16 - n) = omega (arith, high, parts, none) in
    let less : v / 2 ^ 48 / 2 ^ n < 2 ^ (16 - n) = lt_of_mul-lt-mul_left (2 ^ n) below in
    let next : v / 2 ^ 48 / 2 ^ n + 1 ≤ 2 ^ (16 - n) = omega arith in
    let room : 2 ^ n * (v / 2 ^ 48 / 2 ^ n + 1) ≤ 2 ^ n * 2 ^ (16 - n) = mul-le-mul_left (2 ^ n) next in
    let whole : 2 ^ n * (v / 2 ^ 48 / 2 ^ n + 1) ≡ 2 ^ n * (v / 2 ^ 48 / 2 ^ n) + 2 ^ n = one_more (2 ^ n) (v / 2 ^ 48 / 2 ^ n) in
    let top : v / 2 ^ 48 + k < 2 ^ 16 = omega (arith, room, whole, high, parts, none, least_one) in
    let taken : bit_and (v + k * 2 ^ 48) ((2 ^ n - 1) * 2 ^ 48) ≡ k * 2 ^ 48 = bits (v + k * 2 ^ 48) ∙ ap (λ (u : ℕ). u * 2 ^ 48) units in
    record {
      fits = omega (arith, top);
      delta = delta_is ((2 ^ n - 1) * 2 ^ 48) run (v + k * 2 ^ 48) ∙ ap (λ (u : ℕ). u * 4) units;
      value = omega (arith, taken);
    }
