-- Laws of the steps by which a variable-length number is read: which bytes they take, and what numbers these allow.
use Rattle.std.proofs.Common.{◌≡◌, ◌≤◌, ◌<◌, ℕ, zero, suc, ◌+◌, ◌*◌, ◌-◌, ◌/◌, ◌%◌, ◌^◌, List, [], ◌∷◌, ◌++◌, length, get_or, refl, sym, ap, subst, ◌∙◌, arith, inl, inr}
use Rattle.std.specs.Prelude.{ℤ, pos, neg_ℤ, ◌-ℤ◌, ◌≤ℤ◌, ◌<ℤ◌, nat_lt, Result, Ok, Err}
use Rattle.std.proofs.lemmas.Bool.{cond-true, cond-false, lt-ltb, le-ltb, ltb-true, cases_lt, cases_Bool}
use Rattle.std.proofs.lemmas.Int.{ints}
use Rattle.dsc_base.specs.declared.fault.UlebFault.{UlebFault}
use Rattle.dsc_base.specs.declared.fault.UlebFault.TheVariants.{Ended, TooWide}
use Rattle.dsc_base.specs.Uleb.{shortest, padded}
use Rattle.dsc_base.specs.Steps.Uleb.{uleb_within, continued, ended_by, room, signed_bits}

pub room_some : (n : ℕ) → 1 ≤ room n
room_some zero = omega arith
room_some (suc n) = omega (arith, room_some n)

pub room_rises : (n m : ℕ) → n ≤ m → room n ≤ room m
room_rises zero m le = room_some m
room_rises (suc n) zero le = absurd (omega arith)
room_rises (suc n) (suc m) le = omega (arith, room_rises n m (omega arith))

-- one byte less
pub room_step : (n : ℕ) → 0 < n → room n ≡ 128 * room (n - 1)
room_step zero some = absurd (omega arith)
room_step (suc n) some = ap (λ (k : ℕ). 128 * room k) (omega arith)

pub room_nine : (n : ℕ) → n ≤ 10 → 0 < n → room (n - 1) ≤ 2 ^ 63
room_nine n le some = room_rises (n - 1) 9 (omega arith)

pub room_one : (n : ℕ) → 0 < n → 128 ≤ room n
room_one n some = room_rises 1 n (omega arith)

pub room_two : (n : ℕ) → 1 < n → 16384 ≤ room n
room_two n more = room_rises 2 n (omega arith)

-- seven bits in two's complement are from -64 to 63
pub signed_bits-low : (byte : ℕ) → byte < 64 → signed_bits byte ≡ pos byte
signed_bits-low byte low = cond-true (nat_lt byte 64) (pos byte) (pos byte -ℤ pos 128) (lt-ltb byte 64 low)

pub signed_bits-high : (byte : ℕ) → 64 ≤ byte → signed_bits byte ≡ pos byte -ℤ pos 128
signed_bits-high byte high = cond-false (nat_lt byte 64) (pos byte) (pos byte -ℤ pos 128) (le-ltb byte 64 high)

-- and of a tenth byte -1 or 0
pub record IsBetween (low high : ℕ) (value : ℤ) : Type 0 where
  pub from : neg_ℤ (pos low) ≤ℤ value
  pub to : value <ℤ pos high

pub signed_bits-seven : (byte : ℕ) → byte < 128 → IsBetween 64 64 (signed_bits byte)
signed_bits-seven byte small =
    elim (cases_lt byte 64) [
      | inl low ↦ let e : signed_bits byte ≡ pos byte = signed_bits-low byte low in record { from = omega (arith, ints, e); to = omega (arith, ints, e) }
      | inr high ↦ let e : signed_bits byte ≡ pos byte -ℤ pos 128 = signed_bits-high byte high in record { from = omega (arith, ints, e); to = omega (arith, ints, e) }
    ]

pub signed_bits-none : (byte : ℕ) → byte ≤ 0 → IsBetween 1 1 (signed_bits byte)
signed_bits-none byte none =
    let e : signed_bits byte ≡ pos byte = signed_bits-low byte (omega arith) in record { from = omega (arith, ints, e); to = omega (arith, ints, e) }

pub signed_bits-all : (byte : ℕ) → byte < 128 → 127 ≤ byte → IsBetween 1 1 (signed_bits byte)
signed_bits-all byte small all =
    let e : signed_bits byte ≡ pos byte -ℤ pos 128 = signed_bits-high byte (omega arith) in record { from = omega (arith, ints, e); to = omega (arith, ints, e) }

-- a byte that is the last one, and one that is not
pub uleb-last : (left byte : ℕ) (rest : List ℕ) → byte < 128 → uleb_within (suc left) (byte ∷ rest) ≡ ended_by left byte
uleb-last left byte rest small =
    cond-true (nat_lt byte 128) (ended_by left byte) (continued (byte % 128) (uleb_within left rest)) (lt-ltb byte 128 small)

pub uleb-more : (left low : ℕ) (rest : List ℕ) → low < 128 → uleb_within (suc left) ((128 + low) ∷ rest) ≡ continued low (uleb_within left rest)
uleb-more left low rest small =
    cond-false (nat_lt (128 + low) 128) (ended_by left (128 + low)) (continued ((128 + low) % 128) (uleb_within left rest)) (le-ltb (128 + low) 128 (omega arith))
    ∙ ap (λ (k : ℕ). continued k (uleb_within left rest)) (omega arith)

pub ended_by-fits : (left byte : ℕ) → byte < 2 → ended_by left byte ≡ Ok (byte, 1)
ended_by-fits zero byte small = cond-false (nat_lt 1 byte) (Err TooWide) (Ok (byte, 1)) (le-ltb 1 byte (omega arith))
ended_by-fits (suc left) byte small = refl

-- a byte in front of bytes that are read
pub uleb-front : (left value : ℕ) (bytes : List ℕ) (len : ℕ) → uleb_within left bytes ≡ Ok (value / 128, len) → uleb_within (suc left) ((128 + value % 128) ∷ bytes) ≡ Ok (value, len + 1)
uleb-front left value bytes len read =
    uleb-more left (value % 128) bytes (omega arith)
    ∙ (ap (λ (r : Result (ℕ × ℕ) UlebFault). continued (value % 128) r) read
    ∙ ap (λ (v : ℕ). let r : Result (ℕ × ℕ) UlebFault = Ok (v, len + 1) in r) (omega arith))

-- the shortest spelling is read back, whatever follows it
pub uleb-shortest : (more value : ℕ) (rest : List ℕ) → value < 2 * room more → uleb_within (suc more) (shortest more value ++ rest) ≡ Ok (value, length (shortest more value))
uleb-shortest zero value rest small = uleb-last zero value rest (omega arith) ∙ ended_by-fits zero value small
uleb-shortest (suc more) value rest small =
    elim (cases_Bool (nat_lt value 128)) as (λ _. uleb_within (suc (suc more)) (shortest (suc more) value ++ rest) ≡ Ok (value, length (shortest (suc more) value))) [
      | inl small' ↦
          rw (cond-true (nat_lt value 128) (value ∷ []) ((128 + value % 128) ∷ shortest more (value / 128)) small')
          (uleb-last (suc more) value rest (ltb-true value 128 small'))
      | inr large ↦
          rw (cond-false (nat_lt value 128) (value ∷ []) ((128 + value % 128) ∷ shortest more (value / 128)) large)
          (uleb-front (suc more) value (shortest more (value / 128) ++ rest) (length (shortest more (value / 128)))
          (uleb-shortest more (value / 128) rest (omega arith)) ∙ ap (λ (n : ℕ). let r : Result (ℕ × ℕ) UlebFault = Ok (value, n) in r) (omega arith))
    ]

-- and so is a padded one
pub uleb-padded : (more left value : ℕ) (rest : List ℕ) → more < left → value < 128 * room more → uleb_within (suc left) (padded more value ++ rest) ≡ Ok (value, suc more)
uleb-padded zero (suc left) value rest lt small = uleb-last (suc left) value rest (omega arith)
uleb-padded zero zero value rest lt small = absurd (omega arith)
uleb-padded (suc more) zero value rest lt small = absurd (omega arith)
uleb-padded (suc more) (suc left) value rest lt small =
    uleb-front (suc left) value (padded more (value / 128) ++ rest) (suc more) (uleb-padded more left (value / 128) rest (omega arith) (omega arith))
    ∙ ap (λ (n : ℕ). let r : Result (ℕ × ℕ) UlebFault = Ok (value, n) in r) (omega arith)

-- what two equal answers say of their parts
pub ok-value : {A B : Type 0} (x y : A) → ◌≡◌ {A = Result A B} (Ok x) (Ok y) → x ≡ y
ok-value x y same = cc

pub ok-parts : {A B E : Type 0} (a c : A) (b d : B) → ◌≡◌ {A = Result (A × B) E} (Ok (a, b)) (Ok (c, d)) → (a ≡ c) × (b ≡ d)
ok-parts {A} {B} a c b d same =
    let e : ◌≡◌ {A = A × B} (a, b) (c, d) = ok-value (a, b) (c, d) same in (ap (λ (p : A × B). p.0) e, ap (λ (p : A × B). p.1) e)

-- a last byte spells a number of seven bits
pub shortest-one : (more value : ℕ) → value < 128 → length (shortest more value) ≡ 1
shortest-one zero value small = refl
shortest-one (suc more) value small =
    ap length (cond-true (nat_lt value 128) (value ∷ []) ((128 + value % 128) ∷ shortest more (value / 128)) (lt-ltb value 128 small))

pub ended_by-value : (left byte value len : ℕ) → ended_by left byte ≡ Ok (value, len) → (byte ≡ value) × (len ≡ 1)
ended_by-value zero byte value len read =
    elim (cases_lt 1 byte) [
      | inl large ↦ absurd (let e = sym (cond-true (nat_lt 1 byte) (Err TooWide) (Ok (byte, 1)) (lt-ltb 1 byte large)) ∙ read in cc)
      | inr small ↦
          let e = ok-parts byte value 1 len (sym (cond-false (nat_lt 1 byte) (Err TooWide) (Ok (byte, 1)) (le-ltb 1 byte small)) ∙ read) in (e.0, sym e.1)
    ]
ended_by-value (suc left) byte value len read = let e = ok-parts byte value 1 len read in (e.0, sym e.1)

pub continued-parts : (low value len : ℕ) (r : Result (ℕ × ℕ) UlebFault) → continued low r ≡ Ok (value, len) → (above : ℕ) × ((n : ℕ) × ((r ≡ Ok (above, n)) × (low + 128 * above ≡ value) × (n + 1 ≡ len)))
continued-parts low value len (Err fault) read = absurd (cc)
continued-parts low value len (Ok p) read =
    let e = ok-parts (low + 128 * p.0) value (p.1 + 1) len read in (p.0, (p.1, (refl, e.0, e.1)))

pub shortest-least_above : (more value low above n len : ℕ) → low < 128 → low + 128 * above ≡ value → n + 1 ≡ len → ((m : ℕ) → length (shortest m above) ≤ n) → length (shortest more value) ≤ len
shortest-least_above zero value low above n len small is longer least = omega arith
shortest-least_above (suc more) value low above n len small is longer least =
    elim (cases_lt value 128) [
      | inl few ↦ omega (arith, shortest-one (suc more) value few)
      | inr large ↦
          let e : above ≡ value / 128 = omega arith in
          let shorter : length (shortest more (value / 128)) ≤ n = subst (λ (v : ℕ). length (shortest more v) ≤ n) e (least more) in
          rw (cond-false (nat_lt value 128) (value ∷ []) ((128 + value % 128) ∷ shortest more (value / 128)) (le-ltb value 128 large)) (omega arith)
    ]

-- no spelling is shorter
pub shortest-least : (more left value len : ℕ) (bytes : List ℕ) → uleb_within left bytes ≡ Ok (value, len) → length (shortest more value) ≤ len
shortest-least more zero value len bytes read = absurd (cc)
shortest-least more (suc left) value len [] read = absurd (cc)
shortest-least more (suc left) value len (byte ∷ bytes) read =
    elim (cases_lt byte 128) [
      | inl small ↦
          let e = ended_by-value left byte value len (sym (uleb-last left byte bytes small) ∙ read) in
          omega (arith, e.1, shortest-one more value (omega (arith, e.0)))
      | inr large ↦
          let e = continued-parts (byte % 128) value len (uleb_within left bytes) (sym (cond-false (nat_lt byte 128) (ended_by left byte) (continued (byte % 128) (uleb_within left bytes)) (le-ltb byte 128 large)) ∙ read) in
          shortest-least_above more value (byte % 128) e.0 e.1.0 len (omega arith) e.1.1.1 e.1.1.2 (λ (m : ℕ). shortest-least m left e.0 e.1.0 bytes e.1.1.0)
    ]

-- bytes that all have bit 7, and one more in front of them
abbrev pub AllMore : ℕ → List ℕ → Type 0
AllMore n bytes = (k : ℕ) → k < n → 128 ≤ get_or bytes k 0

pub AllMore-cons : (n byte : ℕ) (bytes : List ℕ) → 128 ≤ byte → AllMore n bytes → AllMore (suc n) (byte ∷ bytes)
AllMore-cons n byte bytes large all zero lt = large
AllMore-cons n byte bytes large all (suc k) lt = all k (omega arith)

pub AllMore-rest : (n byte : ℕ) (bytes : List ℕ) → AllMore (suc n) (byte ∷ bytes) → AllMore n bytes
AllMore-rest n byte bytes all k lt = all (suc k) (omega arith)

-- a byte with bit 7, in front
pub uleb-behind : (left byte : ℕ) (bytes : List ℕ) → 128 ≤ byte → uleb_within (suc left) (byte ∷ bytes) ≡ continued (byte % 128) (uleb_within left bytes)
uleb-behind left byte bytes large =
    cond-false (nat_lt byte 128) (ended_by left byte) (continued (byte % 128) (uleb_within left bytes)) (le-ltb byte 128 large)

pub continued-fault : (low : ℕ) (r : Result (ℕ × ℕ) UlebFault) (fault : UlebFault) → continued low r ≡ Err fault → r ≡ Err fault
continued-fault low (Err other) fault is = is
continued-fault low (Ok p) fault is = absurd (cc)

-- which bytes spell a number that is too wide
pub uleb-too_wide_from : (left : ℕ) (bytes : List ℕ) → uleb_within (suc left) bytes ≡ Err TooWide → AllMore left bytes × (1 < get_or bytes left 0)
uleb-too_wide_from left [] is = absurd (cc)
uleb-too_wide_from zero (byte ∷ bytes) is = (
  λ k lt. absurd (omega arith),
  elim (cases_lt 1 byte) [
    | inl large ↦ large
    | inr small ↦ absurd (let e = sym (uleb-last zero byte bytes (omega arith) ∙ ended_by-fits zero byte (omega arith)) ∙ is in cc)
  ],
)
uleb-too_wide_from (suc left) (byte ∷ bytes) is =
    elim (cases_lt byte 128) [
      | inl small ↦ absurd (let e = sym (uleb-last (suc left) byte bytes small) ∙ is in cc)
      | inr large ↦
          let below = uleb-too_wide_from left bytes (continued-fault (byte % 128) (uleb_within (suc left) bytes) TooWide (sym (uleb-behind (suc left) byte bytes large) ∙ is)) in
          (AllMore-cons left byte bytes large below.0, below.1)
    ]

pub uleb-too_wide_to : (left : ℕ) (bytes : List ℕ) → AllMore left bytes → 1 < get_or bytes left 0 → uleb_within (suc left) bytes ≡ Err TooWide
uleb-too_wide_to left [] all last = absurd (omega arith)
uleb-too_wide_to zero (byte ∷ bytes) all last =
    elim (cases_lt byte 128) [
      | inl small ↦ uleb-last zero byte bytes small ∙ cond-true (nat_lt 1 byte) (Err TooWide) (Ok (byte, 1)) (lt-ltb 1 byte last)
      | inr large ↦ uleb-behind zero byte bytes large
    ]
uleb-too_wide_to (suc left) (byte ∷ bytes) all last =
    uleb-behind (suc left) byte bytes (all zero (omega arith))
    ∙ ap (λ (r : Result (ℕ × ℕ) UlebFault). continued (byte % 128) r) (uleb-too_wide_to left bytes (AllMore-rest left byte bytes all) last)

-- and which end before their number does
pub uleb-ended_from : (left : ℕ) (bytes : List ℕ) → uleb_within left bytes ≡ Err Ended → (length bytes < left) × AllMore (length bytes) bytes
uleb-ended_from zero bytes is = absurd (cc)
uleb-ended_from (suc left) [] is = (omega arith, λ k lt. absurd (omega arith))
uleb-ended_from (suc left) (byte ∷ bytes) is =
    elim (cases_lt byte 128) [
      | inl small ↦ absurd (ended_by-not left byte (sym (uleb-last left byte bytes small) ∙ is))
      | inr large ↦
          let below = uleb-ended_from left bytes (continued-fault (byte % 128) (uleb_within left bytes) Ended (sym (uleb-behind left byte bytes large) ∙ is)) in
          (omega (arith, below.0), AllMore-cons (length bytes) byte bytes large below.1)
    ]
  where
    ended_by-not : (left byte : ℕ) → ended_by left byte ≡ Err Ended → ⊥
    ended_by-not zero byte is =
        elim (cases_lt 1 byte) [
          | inl large ↦ let e = sym (cond-true (nat_lt 1 byte) (Err TooWide) (Ok (byte, 1)) (lt-ltb 1 byte large)) ∙ is in cc
          | inr small ↦ let e = sym (cond-false (nat_lt 1 byte) (Err TooWide) (Ok (byte, 1)) (le-ltb 1 byte small)) ∙ is in cc
        ]
    ended_by-not (suc left) byte is = cc

pub uleb-ended_to : (left : ℕ) (bytes : List ℕ) → length bytes < left → AllMore (length bytes) bytes → uleb_within left bytes ≡ Err Ended
uleb-ended_to zero bytes few all = absurd (omega arith)
uleb-ended_to (suc left) [] few all = refl
uleb-ended_to (suc left) (byte ∷ bytes) few all =
    uleb-behind left byte bytes (all zero (omega arith))
    ∙ ap (λ (r : Result (ℕ × ℕ) UlebFault). continued (byte % 128) r) (uleb-ended_to left bytes (omega arith) (AllMore-rest (length bytes) byte bytes all))

-- a number that was read has no more bits than its bytes allow
abbrev pub Read : ℕ → ℕ → Result (ℕ × ℕ) UlebFault
Read value len = Ok (value, len)

abbrev number_read : Result (ℕ × ℕ) UlebFault → ℕ
number_read (Err fault) = 0
number_read (Ok p) = p.0

pub read_value : (a b m n : ℕ) → Read a m ≡ Read b n → a ≡ b
read_value a b m n is = ap number_read is

last-fits : (left byte value len : ℕ) → ended_by left byte ≡ Read value len → byte < 128 → value < 2 * room left
last-fits zero byte value len is low =
    elim (cases_lt 1 byte) [
      | inl big ↦ absurd (refused (sym (cond-true (nat_lt 1 byte) (Err TooWide) (Ok (byte, 1)) (lt-ltb 1 byte big)) ∙ is))
      | inr small ↦
          let e : byte ≡ value = read_value byte value 1 len (sym (cond-false (nat_lt 1 byte) (Err TooWide) (Ok (byte, 1)) (le-ltb 1 byte small)) ∙ is) in
          omega (arith, e, small)
    ]
  where
    refused : (let r : Result (ℕ × ℕ) UlebFault = Err TooWide in r) ≡ Read value len → ⊥
    refused is = cc
last-fits (suc left) byte value len is low = let e : byte ≡ value = read_value byte value 1 len is in omega (arith, e, low, room_some left)

more-fits : (byte most value len : ℕ) (r : Result (ℕ × ℕ) UlebFault) → ((rest n : ℕ) → r ≡ Read rest n → rest < most) → continued (byte % 128) r ≡ Read value len → value < 128 * most
more-fits byte most value len (Err fault) fits is = absurd (cc)
more-fits byte most value len (Ok (rest, n)) fits is =
    let below : rest < most = fits rest n refl in
    let e : byte % 128 + 128 * rest ≡ value = read_value (byte % 128 + 128 * rest) value (n + 1) len is in
    omega (arith, e, below)

pub uleb-fits : (left : ℕ) (bytes : List ℕ) (value len : ℕ) → uleb_within (suc left) bytes ≡ Read value len → value < 2 * room left
uleb-fits left [] value len is = absurd (cc)
uleb-fits zero (byte ∷ bytes) value len is =
    elim (cases_lt byte 128) [
      | inl low ↦ last-fits zero byte value len (sym (uleb-last zero byte bytes low) ∙ is) low
      | inr high ↦ absurd (refused (sym (cond-false (nat_lt byte 128) (ended_by zero byte) (continued (byte % 128) (uleb_within zero bytes)) (le-ltb byte 128 high)) ∙ is))
    ]
  where
    refused : (let r : Result (ℕ × ℕ) UlebFault = Err TooWide in r) ≡ Read value len → ⊥
    refused is = cc
uleb-fits (suc left) (byte ∷ bytes) value len is =
    elim (cases_lt byte 128) [
      | inl low ↦ last-fits (suc left) byte value len (sym (uleb-last (suc left) byte bytes low) ∙ is) low
      | inr high ↦
          let below : value < 128 * (2 * room left) =
          more-fits byte (2 * room left) value len (uleb_within (suc left) bytes) (λ rest n read. uleb-fits left bytes rest n read)
          (sym (cond-false (nat_lt byte 128) (ended_by (suc left) byte) (continued (byte % 128) (uleb_within (suc left) bytes)) (le-ltb byte 128 high)) ∙ is) in
          omega (arith, below)
    ]
