-- How far an address lies above another one, modulo 2 ^ 64.
use Rattle.std.proofs.Common.{◌≡◌, ◌≤◌, ◌<◌, ◌+◌, ◌-◌, ◌^◌, ℕ, arith}
use Rattle.macho_image.specs.Places.{wrap, above}

pub wrap_fits : (n : ℕ) → wrap n < 2 ^ 64
wrap_fits n = omega arith

-- and the other way round
pub added_above : (a x : ℕ) → a ≤ 2 ^ 64 → x < 2 ^ 64 → wrap (a + above a x) ≡ x
unfolding above
added_above a x low lt = omega (arith, low, lt)

pub above_small : (a x : ℕ) → above a x < 2 ^ 64
unfolding above
above_small a x = omega arith

-- no address is above itself, and what is at or behind an address lies above it by the difference
pub above_plain : (a x : ℕ) → a ≤ x → x < 2 ^ 64 → above a x ≡ x - a
unfolding above
above_plain a x le lt = omega (arith, le, lt)
