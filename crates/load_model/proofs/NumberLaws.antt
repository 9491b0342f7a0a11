-- Numbers in memory: one that is put is there, what is apart from it is unchanged, and a number depends on its own bytes alone.
-- The addresses y and a are those of a file, below 2 ^ 63, and both are slid alike.
use Rattle.std.proofs.Common.{◌≡◌, ◌≤◌, ◌<◌, ◌⊎◌, ℕ, zero, suc, ◌+◌, ◌-◌, ◌^◌, List, get_or, sym, ap, subst, ◌∙◌, arith, inl, inr}
use Rattle.std.specs.Prelude.{Option, unwrap_or}
use Rattle.dsc_base.specs.Numbers.{little_number, little_bytes}
use Rattle.dsc_base.proofs.NumberLaws.{little_from-same, length-little_bytes}
use Rattle.macho_image.specs.Places.{wrap, above}
use Rattle.load_model.specs.Memory.{Cells, with_number, bytes_from, number_from, HasNumber}
use Rattle.load_model.proofs.CellLaws.{cell_at, cell_behind, distance_is, distance_below}

-- the address k above another one
pub address_on : (y slide k : ℕ) → wrap (wrap (y + slide) + k) ≡ wrap (y + k + slide)
address_on y slide k = omega arith

-- ---- what a number that is put leaves

pub number_there : (w a slide v : ℕ) (cells : Cells) → w ≤ 8 → HasNumber w (with_number w (wrap (a + slide)) v cells) (wrap (a + slide)) v
number_there w a slide v cells narrow k lt =
    cell_at (wrap (a + slide)) (wrap (wrap (a + slide) + k)) k (little_bytes w v) cells
    (ap (above (wrap (a + slide))) (address_on a slide k) ∙ distance_is a k slide (omega (arith, narrow, lt)))
    (omega (arith, lt, length-little_bytes w v))

pub byte_apart : (w a y slide v : ℕ) (cells : Cells) → w ≤ 8 → a < 2 ^ 63 → y < 2 ^ 63 → (y < a) ⊎ (a + w ≤ y)
    → with_number w (wrap (a + slide)) v cells (wrap (y + slide)) ≡ cells (wrap (y + slide))
byte_apart w a y slide v cells narrow low small (inl below) =
    cell_behind (wrap (a + slide)) (wrap (y + slide)) (2 ^ 64 - (a - y)) (little_bytes w v) cells (distance_below a y slide below (omega arith))
    (omega (arith, narrow, low, length-little_bytes w v))
byte_apart w a y slide v cells narrow low small (inr behind) =
    let place : y ≡ a + (y - a) = omega arith in
    cell_behind (wrap (a + slide)) (wrap (y + slide)) (y - a) (little_bytes w v) cells
    (ap (λ (x : ℕ). above (wrap (a + slide)) (wrap (x + slide))) place ∙ distance_is a (y - a) slide (omega arith))
    (omega (arith, behind, length-little_bytes w v))

-- ---- the number at an address

byte_from : (w k y slide : ℕ) (cells : Cells) → k < w → get_or (bytes_from w cells (wrap (y + slide))) k 0 ≡ unwrap_or (cells (wrap (y + k + slide))) 0
byte_from zero k y slide cells lt = absurd (omega arith)
byte_from (suc w) zero y slide cells lt =
    let here : y + slide ≡ y + 0 + slide = omega arith in
    ap (λ (x : ℕ). unwrap_or (cells (wrap x)) 0) here
byte_from (suc w) (suc k) y slide cells lt =
    let next : y + 1 + k + slide ≡ y + suc k + slide = omega arith in
    ap (λ (x : ℕ). get_or (bytes_from w cells x) k 0) (address_on y slide 1)
    ∙ (byte_from w k (y + 1) slide cells (omega arith) ∙ ap (λ (x : ℕ). unwrap_or (cells (wrap x)) 0) next)

-- it is the number that its bytes spell
pub number_from-bytes : (w y slide : ℕ) (cells : Cells) (bytes : List ℕ) → ((k : ℕ) → k < w → unwrap_or (cells (wrap (y + k + slide))) 0 ≡ get_or bytes k 0)
    → number_from w cells (wrap (y + slide)) ≡ little_number w bytes
number_from-bytes w y slide cells bytes same =
    little_from-same w 0 (bytes_from w cells (wrap (y + slide))) bytes
    (λ k lt. let first : k ≡ 0 + k = omega arith in
    subst (λ (j : ℕ). get_or (bytes_from w cells (wrap (y + slide))) j 0 ≡ get_or bytes j 0) first (byte_from w k y slide cells lt ∙ same k lt))

-- and one whose bytes are unchanged is unchanged
pub number_from-same : (w y slide : ℕ) (cells other : Cells) → ((k : ℕ) → k < w → cells (wrap (y + k + slide)) ≡ other (wrap (y + k + slide)))
    → number_from w cells (wrap (y + slide)) ≡ number_from w other (wrap (y + slide))
number_from-same w y slide cells other same =
    number_from-bytes w y slide cells (bytes_from w other (wrap (y + slide)))
    (λ k lt. ap (λ (o : Option ℕ). unwrap_or o 0) (same k lt) ∙ sym (byte_from w k y slide other lt))

pub number_apart : (w a u y slide v : ℕ) (cells : Cells) → w ≤ 8 → u ≤ 8 → a < 2 ^ 63 → y + u < 2 ^ 63 → (y + u ≤ a) ⊎ (a + w ≤ y)
    → number_from u (with_number w (wrap (a + slide)) v cells) (wrap (y + slide)) ≡ number_from u cells (wrap (y + slide))
number_apart w a u y slide v cells narrow short low small apart =
    number_from-same u y slide (with_number w (wrap (a + slide)) v cells) cells
    (λ k lt. byte_apart w a (y + k) slide v cells narrow low (omega (arith, small, lt)) (elim apart [ inl before ↦ inl (omega arith) | inr behind ↦ inr (omega arith) ]))
