-- The bytes of a number that is read are those that it was read from.
use Rattle.std.proofs.Common.{◌≡◌, ◌≤◌, ◌<◌, ℕ, zero, suc, ◌+◌, ◌*◌, ◌/◌, ◌%◌, ◌^◌, List, [], ◌∷◌, ◌++◌, take, drop, length, get_or, refl, sym, ap, ap₂, subst, ◌∙◌, arith, inl, inr}
use Rattle.std.proofs.Math.Nat.{div-div-eq-div-mul, pow-succ'}
use Rattle.std.proofs.lemmas.List.{get_or-take, get_or-drop, get_or_past, length-drop, length-take-le, take-append-drop}
use Rattle.std.proofs.lemmas.Bool.{cases_lt}
use Rattle.std.specs.Int.{byte_at, bytes_low_first}
use Rattle.dsc_base.specs.Numbers.{number_at, little_bytes}
use Rattle.dsc_base.proofs.NumberLaws.{number_at-little_bytes, number_at-drop_at}

-- the next byte is the first of what is left
byte_shift : (i x : ℕ) → byte_at (suc i) x ≡ byte_at i (x / 256)
byte_shift zero x = refl
byte_shift (suc i) x =
    ap (λ (n : ℕ). x / n % 256) (pow-succ' 256 (suc i)) ∙ ap (λ (n : ℕ). n % 256) (sym (div-div-eq-div-mul x 256 (256 ^ suc i)))

bytes_shift : (i n x : ℕ) → bytes_low_first (suc i) n x ≡ bytes_low_first i n (x / 256)
bytes_shift i zero x = refl
bytes_shift i (suc n) x = ap₂ (λ (b : ℕ) (bs : List ℕ). b ∷ bs) (byte_shift i x) (bytes_shift (suc i) n x)

-- bytes and the number that they spell
record IsSpelt (ys : List ℕ) : Type 0 where
  value : ℕ
  small : value < 256 ^ length ys
  is : ys ≡ little_bytes (length ys) value

spelt_by : (ys : List ℕ) → ((k : ℕ) → get_or ys k 0 < 256) → IsSpelt ys
spelt_by [] bytes = record { value = 0; small = omega arith; is = refl }
spelt_by (y ∷ ys) bytes =
    let behind : IsSpelt ys = spelt_by ys (λ k. bytes (suc k)) in
    let small : y < 256 = bytes 0 in
    let rest : (y + 256 * behind.value) / 256 ≡ behind.value = omega arith in
    let first : (y + 256 * behind.value) % 256 ≡ y = omega arith in
    let longer : 256 ^ suc (length ys) ≡ 256 * 256 ^ length ys = pow-succ' 256 (length ys) in
    record {
      value = y + 256 * behind.value;
      small = omega (arith, longer, behind.small, small);
      is = ap₂ (λ (b : ℕ) (bs : List ℕ). b ∷ bs) (sym first)
          (behind.is ∙ (ap (λ (n : ℕ). little_bytes (length ys) n) (sym rest) ∙ sym (bytes_shift 0 (length ys) (y + 256 * behind.value))));
    }

-- the first bytes of bytes
pub bytes_taken : (w : ℕ) (b : List ℕ) → w ≤ length b → ((k : ℕ) → get_or b k 0 < 256) → (k : ℕ) → get_or (take w b) k 0 < 256
bytes_taken w b le bytes k =
    elim (cases_lt k w) [
      | inl below ↦ subst (λ (n : ℕ). n < 256) (sym (get_or-take w b k 0 below)) (bytes k)
      | inr past ↦ subst (λ (n : ℕ). n < 256) (sym (get_or_past (take w b) k 0 (omega (arith, past, length-take-le w b le)))) (omega arith)
    ]

-- the bytes of the number in the first w bytes
pub first_bytes : (w : ℕ) (b : List ℕ) → w ≤ length b → ((k : ℕ) → get_or b k 0 < 256) → little_bytes w (number_at w b 0) ≡ take w b
first_bytes w b le bytes =
    let long : length (take w b) ≡ w = length-take-le w b le in
    let found : IsSpelt (take w b) = spelt_by (take w b) (bytes_taken w b le bytes) in
    let is : take w b ≡ little_bytes w found.value = found.is ∙ ap (λ (n : ℕ). little_bytes n found.value) long in
    let small : found.value < 256 ^ w = subst (λ (n : ℕ). found.value < 256 ^ n) long found.small in
    let read : number_at w b 0 ≡ found.value =
    ap (λ (l : List ℕ). number_at w l 0) (sym (take-append-drop w b) ∙ ap (λ (l : List ℕ). l ++ drop w b) is) ∙ number_at-little_bytes w found.value (drop w b) small in
    ap (little_bytes w) read ∙ sym is

-- one byte of the number that is read at a place
pub spelt_byte : (w at k : ℕ) (b : List ℕ) → at + w ≤ length b → ((m : ℕ) → get_or b m 0 < 256) → k < w → get_or (little_bytes w (number_at w b at)) k 0 ≡ get_or b (at + k) 0
spelt_byte w at k b within bytes lt =
    ap (λ (n : ℕ). get_or (little_bytes w n) k 0) (sym (number_at-drop_at w at b))
    ∙ (ap (λ (l : List ℕ). get_or l k 0) (first_bytes w (drop at b) (omega (arith, within, length-drop at b)) (λ m. subst (λ (n : ℕ). n < 256) (sym (get_or-drop at b m 0)) (bytes (at + m))))
    ∙ (get_or-take w (drop at b) k 0 lt ∙ get_or-drop at b k 0))
