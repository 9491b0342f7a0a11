-- Numbers of few digits.
use Rattle.std.proofs.Common.{◌≡◌, ◌≤◌, ◌+◌, ◌*◌, ◌-◌, ℕ, zero, suc, Some, ap, arith}
use Rattle.dsc_tool.specs.WordNumbers.{digit}

-- the least number of so many digits and one more
abbrev pub tens : ℕ → ℕ
tens zero = 1
tens (suc n) = 10 * tens n

tens-above : (n k : ℕ) → tens n ≤ tens (n + k)
tens-above n zero = let e : n + zero ≡ n = omega arith in rw e (omega arith)
tens-above n (suc k) = let rest = tens-above n k in let e : n + suc k ≡ suc (n + k) = omega arith in rw e (omega (arith, rest))

-- those of up to 20 digits are below 2 to the 67
pub tens_small : (n : ℕ) → n ≤ 20 → tens n ≤ 100_000_000_000_000_000_000
tens_small n few =
    let whole : n + (20 - n) ≡ 20 = omega arith in
    let above = tens-above n (20 - n) in
    let twenty : tens (n + (20 - n)) ≡ tens 20 = ap tens whole in
    omega (arith, above, twenty)

-- a digit's number
pub digit_small : (b d : ℕ) → digit b ≡ Some d → d ≤ 9
digit_small b d is = grind arith
