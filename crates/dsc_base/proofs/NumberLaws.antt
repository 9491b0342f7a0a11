-- Laws of a number at a place: under an append, a take, a drop and a put.
use Rattle.std.proofs.Common.{◌≡◌, ◌≤◌, ◌<◌, ◌⊎◌, ℕ, zero, suc, ◌+◌, ◌*◌, ◌-◌, ◌/◌, ◌%◌, ◌^◌, List, [], ◌++◌, take, drop, length, get_or, refl, sym, ap, ap₂, subst, ◌∙◌, arith, length-append, length-drop, append_assoc, inl, inr}
use Rattle.std.proofs.lemmas.Slice.{put_mid-paste}
use Rattle.std.proofs.lemmas.List.{append-nil, get_or-take, get_or-drop, get_or-append_right, length-take-le, take_all}
use Rattle.std.proofs.Math.ListN.{get_or-append}
use Rattle.std.proofs.lemmas.Nat.{div-add-mod'}
use Rattle.std.proofs.Math.Nat.{lt_of_mul-lt-mul_right, mul-le-mul_right, add-mul, mul-add, mul_assoc}
use borrow.Rule.Slice.PartMut.{put_mid}
use Rattle.byteorder.specs.Numbers.{little_number-reads_back, length-bytes_low_first, little_from-lt}
use Rattle.byteorder.specs.Endian.{little_from, little_bytes}
use Rattle.dsc_base.specs.Numbers.{number_at, put_number, IsRoundedUp}

-- a number depends on its own bytes alone
pub little_from-same : (n i : ℕ) (xs ys : List ℕ) → ((k : ℕ) → k < n → get_or xs (i + k) 0 ≡ get_or ys (i + k) 0) → little_from i n xs ≡ little_from i n ys
little_from-same zero i xs ys same = refl
little_from-same (suc n) i xs ys same =
    let here : get_or xs i 0 ≡ get_or ys i 0 = subst (λ (k : ℕ). get_or xs k 0 ≡ get_or ys k 0) (omega arith) (same 0 (omega arith)) in
    let later : (k : ℕ) → k < n → get_or xs (suc i + k) 0 ≡ get_or ys (suc i + k) 0 =
    λ k h. subst (λ (j : ℕ). get_or xs j 0 ≡ get_or ys j 0) (omega arith) (same (suc k) (omega arith)) in
    ap₂ (λ (a b : ℕ). a + 256 * b) here (little_from-same n (suc i) xs ys later)

pub number_at-same : (w : ℕ) (xs ys : List ℕ) (i j : ℕ) → ((k : ℕ) → k < w → get_or xs (i + k) 0 ≡ get_or ys (j + k) 0) → number_at w xs i ≡ number_at w ys j
unfolding number_at
number_at-same w xs ys i j same =
    little_from-same w 0 (drop i xs) (drop j ys)
    (λ k h. get_or-drop i xs (0 + k) 0 ∙ (subst (λ (m : ℕ). get_or xs (i + m) 0 ≡ get_or ys (j + m) 0) (omega arith) (same k h) ∙ sym (get_or-drop j ys (0 + k) 0)))

pub number_at-append_left : (w : ℕ) (xs ys : List ℕ) (i : ℕ) → i + w ≤ length xs → number_at w (xs ++ ys) i ≡ number_at w xs i
number_at-append_left w xs ys i within = number_at-same w (xs ++ ys) xs i i (λ k h. get_or-append xs ys 0 (i + k) (omega arith))

pub number_at-append_right : (w : ℕ) (xs ys : List ℕ) (n i : ℕ) → length xs ≡ n → n ≤ i → number_at w (xs ++ ys) i ≡ number_at w ys (i - n)
number_at-append_right w xs ys n i is le =
    number_at-same w (xs ++ ys) ys i (i - n)
    (λ k h. get_or-append_right xs ys n (i + k) 0 is (omega arith) ∙ ap (λ (m : ℕ). get_or ys m 0) (omega arith))

pub number_at-take : (w n : ℕ) (xs : List ℕ) (i : ℕ) → i + w ≤ n → number_at w (take n xs) i ≡ number_at w xs i
number_at-take w n xs i within = number_at-same w (take n xs) xs i i (λ k h. get_or-take n xs (i + k) 0 (omega arith))

pub number_at-drop : (w n : ℕ) (xs : List ℕ) (i : ℕ) → number_at w (drop n xs) i ≡ number_at w xs (n + i)
number_at-drop w n xs i =
    number_at-same w (drop n xs) xs i (n + i) (λ k h. get_or-drop n xs (i + k) 0 ∙ ap (λ (m : ℕ). get_or xs m 0) (omega arith))

pub number_at-drop_at : (w n : ℕ) (xs : List ℕ) → number_at w (drop n xs) 0 ≡ number_at w xs n
number_at-drop_at w n xs = number_at-drop w n xs 0 ∙ ap (λ (m : ℕ). number_at w xs m) (omega arith)

-- a number of w bytes is below 256 to the w
pub number_at-lt : (w : ℕ) (xs : List ℕ) (i : ℕ) → ((k : ℕ) → get_or xs k 0 < 256) → number_at w xs i < 256 ^ w
unfolding number_at
number_at-lt w xs i bytes = little_from-lt 0 w (drop i xs) (λ k. subst (λ (v : ℕ). v < 256) (sym (get_or-drop i xs k 0)) (bytes (i + k)))

pub length-little_bytes : (w v : ℕ) → length (little_bytes w v) ≡ w
length-little_bytes w v = length-bytes_low_first 0 w v

-- the bytes of a number spell it, whatever follows them
pub number_at-little_bytes : (w v : ℕ) (rest : List ℕ) → v < 256 ^ w → number_at w (little_bytes w v ++ rest) 0 ≡ v
unfolding number_at
number_at-little_bytes w v rest fits = little_number-reads_back w v rest fits

-- what a put leaves, byte by byte
pub get_or-put_below : (w : ℕ) (xs : List ℕ) (i v k : ℕ) → i ≤ length xs → k < i → get_or (put_number w xs i v) k 0 ≡ get_or xs k 0
unfolding put_number
get_or-put_below w xs i v k le lt =
    let len : length (take i xs) ≡ i = length-take-le i xs le in
    get_or-append (take i xs) (little_bytes w v ++ drop (i + w) xs) 0 k (omega arith) ∙ get_or-take i xs k 0 lt

pub get_or-put_within : (w : ℕ) (xs : List ℕ) (i v k : ℕ) → i ≤ length xs → k < w → get_or (put_number w xs i v) (i + k) 0 ≡ get_or (little_bytes w v) k 0
unfolding put_number
get_or-put_within w xs i v k le lt =
    let at : get_or (take i xs ++ (little_bytes w v ++ drop (i + w) xs)) (i + k) 0 ≡ get_or (little_bytes w v ++ drop (i + w) xs) (i + k - i) 0 =
    get_or-append_right (take i xs) (little_bytes w v ++ drop (i + w) xs) i (i + k) 0 (length-take-le i xs le) (omega arith) in
    let here : get_or (little_bytes w v ++ drop (i + w) xs) k 0 ≡ get_or (little_bytes w v) k 0 =
    get_or-append (little_bytes w v) (drop (i + w) xs) 0 k (omega (arith, length-little_bytes w v)) in
    at ∙ (ap (λ (m : ℕ). get_or (little_bytes w v ++ drop (i + w) xs) m 0) (omega arith) ∙ here)

pub get_or-put_above : (w : ℕ) (xs : List ℕ) (i v k : ℕ) → i ≤ length xs → i + w ≤ k → get_or (put_number w xs i v) k 0 ≡ get_or xs k 0
unfolding put_number
get_or-put_above w xs i v k le lt =
    let first : get_or (take i xs ++ (little_bytes w v ++ drop (i + w) xs)) k 0 ≡ get_or (little_bytes w v ++ drop (i + w) xs) (k - i) 0 =
    get_or-append_right (take i xs) (little_bytes w v ++ drop (i + w) xs) i k 0 (length-take-le i xs le) (omega arith) in
    let second : get_or (little_bytes w v ++ drop (i + w) xs) (k - i) 0 ≡ get_or (drop (i + w) xs) (k - i - w) 0 =
    get_or-append_right (little_bytes w v) (drop (i + w) xs) w (k - i) 0 (length-little_bytes w v) (omega arith) in
    first ∙ (second ∙ (get_or-drop (i + w) xs (k - i - w) 0 ∙ ap (λ (m : ℕ). get_or xs m 0) (omega arith)))

pub length-put_number : (w : ℕ) (xs : List ℕ) (i v : ℕ) → i + w ≤ length xs → length (put_number w xs i v) ≡ length xs
unfolding put_number
length-put_number w xs i v within =
    omega (arith, length-append (take i xs) (little_bytes w v ++ drop (i + w) xs), length-append (little_bytes w v) (drop (i + w) xs), length-take-le i xs (omega arith), length-little_bytes w v, length-drop (i + w) xs)

-- a number that was put is read back
pub number_at-put_same : (w : ℕ) (xs : List ℕ) (i v : ℕ) → i ≤ length xs → v < 256 ^ w → number_at w (put_number w xs i v) i ≡ v
number_at-put_same w xs i v le fits =
    number_at-same w (put_number w xs i v) (little_bytes w v) i 0
    (λ k h. get_or-put_within w xs i v k le h ∙ ap (λ (m : ℕ). get_or (little_bytes w v) m 0) (omega arith))
    ∙ (ap (λ (l : List ℕ). number_at w l 0) (sym (append-nil (little_bytes w v))) ∙ number_at-little_bytes w v [] fits)

-- a number that lies before or behind a put is unchanged
pub number_at-put_other : (w : ℕ) (xs : List ℕ) (i v u j : ℕ) → i ≤ length xs → (j + u ≤ i) ⊎ (i + w ≤ j) → number_at u (put_number w xs i v) j ≡ number_at u xs j
number_at-put_other w xs i v u j le (inl before) =
    number_at-same u (put_number w xs i v) xs j j (λ k h. get_or-put_below w xs i v (j + k) le (omega arith))
number_at-put_other w xs i v u j le (inr behind) =
    number_at-same u (put_number w xs i v) xs j j (λ k h. get_or-put_above w xs i v (j + k) le (omega arith))

-- what a write through a part of the bytes leaves is a put
pub put_mid-put : (w : ℕ) (xs : List ℕ) (i k v : ℕ) (written : List ℕ) → written ≡ little_bytes w v → k ≡ w → put_mid i k xs written ≡ put_number w xs i v
unfolding put_number
put_mid-put w xs i k v written is same =
    put_mid-paste i k xs written (little_bytes w v) w is (sym same) (sym (length-little_bytes w v))
    ∙ (ap (λ (l : List ℕ). (take i xs ++ l) ++ drop (i + w) xs) (take_all w (little_bytes w v) (omega (arith, length-little_bytes w v)))
    ∙ append_assoc (take i xs) (little_bytes w v) (drop (i + w) xs))

-- a factor may be taken modulo 2^64 where the sum is
pub times_wrapped : (a c x : ℕ) → (a + c * (x % 2 ^ 64)) % 2 ^ 64 ≡ (a + c * x) % 2 ^ 64
times_wrapped a c x =
    let whole : x / 2 ^ 64 * 2 ^ 64 + x % 2 ^ 64 ≡ x = div-add-mod' x (2 ^ 64) in
    let parts : c * x ≡ c * (x / 2 ^ 64 * 2 ^ 64) + c * (x % 2 ^ 64) = ap (λ (n : ℕ). c * n) (sym whole) ∙ mul-add c (x / 2 ^ 64 * 2 ^ 64) (x % 2 ^ 64) in
    let far : c * (x / 2 ^ 64 * 2 ^ 64) ≡ c * (x / 2 ^ 64) * 2 ^ 64 = sym (mul_assoc c (x / 2 ^ 64) (2 ^ 64)) in
    omega (arith, parts, far)

-- a multiple of the unit is its own rounding
pub rounded_exact : (n unit : ℕ) → n % unit ≡ 0 → IsRoundedUp n unit n
rounded_exact n unit exact = record {
  covers = omega arith;
  multiple = (n / unit, omega (arith, div-add-mod' n unit));
  least = λ k h. h;
}

-- else it is what is missing to the next multiple more
pub rounded_above : (n unit : ℕ) → 0 < unit → (n % unit ≡ 0 → ⊥) → IsRoundedUp n unit (n + (unit - n % unit))
rounded_above n unit some inexact =
    let parts : n / unit * unit + n % unit ≡ n = div-add-mod' n unit in
    let small : n % unit < unit = omega arith in
    let up : n + (unit - n % unit) ≡ (n / unit + 1) * unit = omega (arith, add-mul (n / unit) 1 unit, parts, small) in
    record {
      covers = omega arith;
      multiple = (n / unit + 1, up);
      least = λ k h.
          let more : n / unit * unit < k * unit = omega arith in
          let above : n / unit < k = lt_of_mul-lt-mul_right unit more in
          let le : (n / unit + 1) * unit ≤ k * unit = mul-le-mul_right unit (omega arith) in
          subst (λ (v : ℕ). v ≤ k * unit) (sym up) le;
    }

-- every rounding is as far up
pub rounded_least : (n unit m m' : ℕ) → IsRoundedUp n unit m → IsRoundedUp n unit m' → m ≤ m'
rounded_least n unit m m' up up' =
    subst (λ (v : ℕ). m ≤ v) (sym up'.multiple.1) (up.least up'.multiple.0 (subst (λ (v : ℕ). n ≤ v) up'.multiple.1 up'.covers))
