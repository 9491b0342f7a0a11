-- The steps by which a number with a sign is read give the number that its groups spell in two's complement.
use Rattle.std.proofs.Common.{◌≡◌, ◌≤◌, ◌<◌, ℕ, zero, suc, ◌+◌, ◌*◌, ◌-◌, ◌%◌, ◌^◌, true, false, List, [], ◌∷◌, take, drop, length, refl, sym, ap, ◌∙◌, arith, inl, inr, Option, Some, None}
use Rattle.std.specs.Prelude.{ℤ, pos, negsuc, ◌+ℤ◌, ◌-ℤ◌, ◌*ℤ◌, nat_lt, if◌then◌else◌, slice_index, option_map, ◌↔◌, Result, Ok, Err}
use Rattle.std.proofs.Math.Nat.{pow-succ'}
use Rattle.std.proofs.lemmas.Bool.{cond-true, cond-false, lt-ltb, le-ltb, cases_lt, cases_Bool}
use Rattle.std.proofs.lemmas.Int.{ints}
use Rattle.dsc_base.specs.declared.fault.UlebFault.{UlebFault}
use Rattle.dsc_base.specs.declared.fault.UlebFault.TheVariants.{Ended, TooWide}
use Rattle.dsc_base.specs.Uleb.{groups, value_of, signed_value_of, is_within, missing, spelled, number_in, sleb_at, placed, IsSignedTooWide, IsCut}
use Rattle.dsc_base.specs.Steps.Uleb.{sleb_within, signed_continued, signed_ended_by, signed_bits, room}
use Rattle.dsc_base.proofs.StepLaws.{room_some, signed_bits-low}
use Rattle.dsc_base.proofs.GroupLaws.{value-one, value-more, groups-one, groups-more, missing-more, missing-all, missing-none}
use Rattle.dsc_base.proofs.UlebLaws.{placed-fault}
use Rattle.dsc_base.proofs.SlebLaws.{sleb-last, sleb-behind, tenth-wide, tenth-fits, tenth-cases, sleb-too_wide_from, sleb-too_wide_to, sleb-ended_from, sleb-ended_to}

abbrev Number : Type 0
Number = Result (ℤ × ℕ) UlebFault

-- ---- the value of groups

signed-one : (byte : ℕ) → signed_value_of (byte ∷ []) ≡ signed_bits byte
signed-one byte = ap (λ (v : ℕ). if nat_lt byte 64 then pos v else pos v -ℤ pos 128) (value-one byte)

last-more : (low g : ℕ) (gs : List ℕ) → slice_index (low ∷ (g ∷ gs)) (length (low ∷ (g ∷ gs)) - 1) ≡ slice_index (g ∷ gs) (length (g ∷ gs) - 1)
last-more low g gs =
    let e : length (low ∷ (g ∷ gs)) - 1 ≡ suc (length (g ∷ gs) - 1) = omega arith in ap (λ (k : ℕ). slice_index (low ∷ (g ∷ gs)) k) e

signed-above : (gs : List ℕ) → slice_index gs (length gs - 1) < 64 → signed_value_of gs ≡ pos (value_of gs)
signed-above gs small =
    cond-true (nat_lt (slice_index gs (length gs - 1)) 64) (pos (value_of gs)) (pos (value_of gs) -ℤ pos (128 ^ length gs)) (lt-ltb (slice_index gs (length gs - 1)) 64 small)

signed-under : (gs : List ℕ) → 64 ≤ slice_index gs (length gs - 1) → signed_value_of gs ≡ pos (value_of gs) -ℤ pos (128 ^ length gs)
signed-under gs large =
    cond-false (nat_lt (slice_index gs (length gs - 1)) 64) (pos (value_of gs)) (pos (value_of gs) -ℤ pos (128 ^ length gs)) (le-ltb (slice_index gs (length gs - 1)) 64 large)

signed-more : (low g : ℕ) (gs : List ℕ) → signed_value_of (low ∷ (g ∷ gs)) ≡ pos low +ℤ pos 128 *ℤ signed_value_of (g ∷ gs)
signed-more low g gs =
    let value : value_of (low ∷ (g ∷ gs)) ≡ low + 128 * value_of (g ∷ gs) = value-more low (g ∷ gs) in
    let power : 128 ^ length (low ∷ (g ∷ gs)) ≡ 128 * 128 ^ length (g ∷ gs) = pow-succ' 128 (length (g ∷ gs)) in
    elim (cases_lt (slice_index (g ∷ gs) (length (g ∷ gs) - 1)) 64) [
      | inl small ↦
          let whole = signed-above (low ∷ (g ∷ gs)) (omega (arith, small, last-more low g gs)) in
          let rest = signed-above (g ∷ gs) small in
          omega (arith, ints, whole, rest, value)
      | inr large ↦
          let whole = signed-under (low ∷ (g ∷ gs)) (omega (arith, large, last-more low g gs)) in
          let rest = signed-under (g ∷ gs) large in
          omega (arith, ints, whole, rest, value, power)
    ]

-- ---- what fits

nat_lt-scaled : (low n limit : ℕ) → low < 128 → nat_lt (low + 128 * n) (128 * limit) ≡ nat_lt n limit
nat_lt-scaled low n limit small =
    elim (cases_lt n limit) [
      | inl few ↦ lt-ltb (low + 128 * n) (128 * limit) (omega arith) ∙ sym (lt-ltb n limit few)
      | inr many ↦ le-ltb (low + 128 * n) (128 * limit) (omega arith) ∙ sym (le-ltb n limit many)
    ]

within-more : (limit low : ℕ) (z : ℤ) → low < 128 → is_within (128 * limit) (pos low +ℤ pos 128 *ℤ z) ≡ is_within limit z
within-more limit low (pos n) small =
    let e : pos low +ℤ pos 128 *ℤ pos n ≡ pos (low + 128 * n) = omega (arith, ints) in
    ap (λ (x : ℤ). is_within (128 * limit) x) e ∙ nat_lt-scaled low n limit small
within-more limit low (negsuc n) small =
    let e : pos low +ℤ pos 128 *ℤ negsuc n ≡ negsuc ((127 - low) + 128 * n) = omega (arith, ints) in
    ap (λ (x : ℤ). is_within (128 * limit) x) e ∙ nat_lt-scaled (127 - low) n limit (omega arith)

bits-negative : (byte : ℕ) → 64 ≤ byte → byte < 128 → signed_bits byte ≡ negsuc (127 - byte)
bits-negative byte large small =
    let e : pos byte -ℤ pos 128 ≡ negsuc (127 - byte) = omega (arith, ints) in
    cond-false (nat_lt byte 64) (pos byte) (pos byte -ℤ pos 128) (le-ltb byte 64 large) ∙ e

bits-within : (byte limit : ℕ) → byte < 64 → byte < limit → is_within limit (signed_bits byte) ≡ true
bits-within byte limit low few = ap (λ (z : ℤ). is_within limit z) (signed_bits-low byte low) ∙ lt-ltb byte limit few

bits-past : (byte limit : ℕ) → byte < 64 → limit ≤ byte → is_within limit (signed_bits byte) ≡ false
bits-past byte limit low many = ap (λ (z : ℤ). is_within limit z) (signed_bits-low byte low) ∙ le-ltb byte limit many

negative-within : (byte limit : ℕ) → 64 ≤ byte → byte < 128 → 127 - byte < limit → is_within limit (signed_bits byte) ≡ true
negative-within byte limit high small few = ap (λ (z : ℤ). is_within limit z) (bits-negative byte high small) ∙ lt-ltb (127 - byte) limit few

negative-past : (byte limit : ℕ) → 64 ≤ byte → byte < 128 → limit ≤ 127 - byte → is_within limit (signed_bits byte) ≡ false
negative-past byte limit high small many = ap (λ (z : ℤ). is_within limit z) (bits-negative byte high small) ∙ le-ltb (127 - byte) limit many

-- ---- the steps

spelled-narrow : (limit : ℕ) (fault : UlebFault) (gs : List ℕ) (z : ℤ) → signed_value_of gs ≡ z → is_within limit z ≡ true → spelled signed_value_of (is_within limit) fault (Some gs) ≡ Ok (z, length gs)
spelled-narrow limit fault gs z is within =
    cond-true (is_within limit (signed_value_of gs)) (Ok (signed_value_of gs, length gs)) (Err TooWide) (ap (λ (x : ℤ). is_within limit x) is ∙ within)
    ∙ ap (λ (x : ℤ). let r : Number = Ok (x, length gs) in r) is

spelled-wide : (limit : ℕ) (fault : UlebFault) (gs : List ℕ) (z : ℤ) → signed_value_of gs ≡ z → is_within limit z ≡ false → spelled signed_value_of (is_within limit) fault (Some gs) ≡ Err TooWide
spelled-wide limit fault gs z is past =
    cond-false (is_within limit (signed_value_of gs)) (Ok (signed_value_of gs, length gs)) (Err TooWide) (ap (λ (x : ℤ). is_within limit x) is ∙ past)

last-meant : (left byte : ℕ) (fault : UlebFault) → byte < 128 → signed_ended_by left byte ≡ spelled signed_value_of (is_within (room left)) fault (Some (byte ∷ []))
last-meant zero byte fault small =
    elim (tenth-cases byte small) [
      | inl wide ↦
          tenth-wide byte wide.0 wide.1
          ∙ sym (spelled-wide 1 fault (byte ∷ []) (signed_bits byte) (signed-one byte)
          (elim (cases_lt byte 64) [ inl low ↦ bits-past byte 1 low (omega (arith, wide.0)) | inr high ↦ negative-past byte 1 high small (omega (arith, wide.1)) ]))
      | inr (inl none) ↦
          tenth-fits byte (inl none)
          ∙ sym (spelled-narrow 1 fault (byte ∷ []) (signed_bits byte) (signed-one byte) (bits-within byte 1 (omega arith) (omega arith)))
      | inr (inr all) ↦
          tenth-fits byte (inr all)
          ∙ sym (spelled-narrow 1 fault (byte ∷ []) (signed_bits byte) (signed-one byte) (negative-within byte 1 (omega arith) small (omega arith)))
    ]
last-meant (suc left) byte fault small =
    sym (spelled-narrow (room (suc left)) fault (byte ∷ []) (signed_bits byte) (signed-one byte)
    (elim (cases_lt byte 64) [
      | inl low ↦ bits-within byte (room (suc left)) low (omega (arith, room_some left))
      | inr high ↦ negative-within byte (room (suc left)) high small (omega (arith, room_some left))
    ]))

more-meant : (limit low : ℕ) (fault : UlebFault) (o : Option (List ℕ)) → low < 128 → ((gs : List ℕ) → o ≡ Some gs → 0 < length gs)
    → signed_continued low (spelled signed_value_of (is_within limit) fault o) ≡ spelled signed_value_of (is_within (128 * limit)) fault (option_map (λ higher. low ∷ higher) o)
more-meant limit low fault None small some = refl
more-meant limit low fault (Some []) small some = absurd (omega (arith, some [] refl))
more-meant limit low fault (Some (g ∷ gs)) small some =
    let scaled = within-more limit low (signed_value_of (g ∷ gs)) small in
    elim (cases_Bool (is_within limit (signed_value_of (g ∷ gs)))) [
      | inl narrow ↦
          ap (λ (r : Number). signed_continued low r) (spelled-narrow limit fault (g ∷ gs) (signed_value_of (g ∷ gs)) refl narrow)
          ∙ (ap (λ (n : ℕ). let r : Number = Ok (pos low +ℤ pos 128 *ℤ signed_value_of (g ∷ gs), n) in r) (omega arith)
          ∙ sym (spelled-narrow (128 * limit) fault (low ∷ (g ∷ gs)) (pos low +ℤ pos 128 *ℤ signed_value_of (g ∷ gs)) (signed-more low g gs) (scaled ∙ narrow)))
      | inr wide ↦
          ap (λ (r : Number). signed_continued low r) (spelled-wide limit fault (g ∷ gs) (signed_value_of (g ∷ gs)) refl wide)
          ∙ sym (spelled-wide (128 * limit) fault (low ∷ (g ∷ gs)) (pos low +ℤ pos 128 *ℤ signed_value_of (g ∷ gs)) (signed-more low g gs) (scaled ∙ wide))
    ]

-- groups are never none
groups-some : (bytes gs : List ℕ) → groups bytes ≡ Some gs → 0 < length gs
groups-some [] gs is = absurd (cc)
groups-some (byte ∷ bytes) gs is =
    elim (cases_lt byte 128) [
      | inl low ↦ one gs (sym (groups-one byte bytes low) ∙ is)
      | inr high ↦ more (groups bytes) gs (sym (groups-more byte bytes high) ∙ is)
    ]
  where
    one : (gs : List ℕ) → Some (byte ∷ []) ≡ Some gs → 0 < length gs
    one [] is = absurd (cc)
    one (g ∷ gs) is = omega arith

    more : (o : Option (List ℕ)) (gs : List ℕ) → option_map (λ higher. byte % 128 ∷ higher) o ≡ Some gs → 0 < length gs
    more None gs is = absurd (cc)
    more (Some hs) [] is = absurd (cc)
    more (Some hs) (g ∷ gs) is = omega arith

abbrev Behind : ℕ → ℕ → List ℕ → Type 0
Behind left byte bytes =
    signed_continued (byte % 128) (sleb_within left bytes)
    ≡ spelled signed_value_of (is_within (room left)) (missing (suc left) (byte ∷ bytes)) (option_map (λ higher. byte % 128 ∷ higher) (groups (take left bytes)))

behind-none : (byte : ℕ) (bytes : List ℕ) → Behind zero byte bytes
behind-none byte bytes = ap (λ (f : UlebFault). let r : Number = Err f in r) (sym (missing-more zero byte bytes ∙ missing-all bytes))

behind-some : (m byte : ℕ) (bytes : List ℕ) → sleb_within (suc m) bytes ≡ number_in signed_value_of (is_within (room m)) (suc m) bytes → Behind (suc m) byte bytes
behind-some m byte bytes is =
    ap (λ (r : Number). signed_continued (byte % 128) r) is
    ∙ (more-meant (room m) (byte % 128) (missing (suc m) bytes) (groups (take (suc m) bytes)) (omega arith) (λ gs. groups-some (take (suc m) bytes) gs)
    ∙ ap (λ (f : UlebFault). spelled signed_value_of (is_within (room (suc m))) f (option_map (λ higher. byte % 128 ∷ higher) (groups (take (suc m) bytes)))) (sym (missing-more (suc m) byte bytes)))

front-meant : (left byte : ℕ) (bytes : List ℕ) → Behind left byte bytes → sleb_within (suc left) (byte ∷ bytes) ≡ number_in signed_value_of (is_within (room left)) (suc left) (byte ∷ bytes)
front-meant left byte bytes behind =
    let fault : UlebFault = missing (suc left) (byte ∷ bytes) in
    elim (cases_lt byte 128) [
      | inl low ↦
          sleb-last left byte bytes low
          ∙ (last-meant left byte fault low ∙ ap (λ (o : Option (List ℕ)). spelled signed_value_of (is_within (room left)) fault o) (sym (groups-one byte (take left bytes) low)))
      | inr high ↦
          sleb-behind left byte bytes high
          ∙ (behind ∙ ap (λ (o : Option (List ℕ)). spelled signed_value_of (is_within (room left)) fault o) (sym (groups-more byte (take left bytes) high)))
    ]

within-meant : (left : ℕ) (bytes : List ℕ) → sleb_within (suc left) bytes ≡ number_in signed_value_of (is_within (room left)) (suc left) bytes
within-meant left [] = ap (λ (f : UlebFault). let r : Number = Err f in r) (sym (missing-none left))
within-meant zero (byte ∷ bytes) = front-meant zero byte bytes (behind-none byte bytes)
within-meant (suc m) (byte ∷ bytes) = front-meant (suc m) byte bytes (behind-some m byte bytes (within-meant m bytes))

pub sleb_at-steps : (bytes : List ℕ) (at : ℕ) → sleb_at bytes at ≡ placed at (sleb_within 10 (drop at bytes))
unfolding sleb_at
sleb_at-steps bytes at = ap (λ (r : Number). placed at r) (sym (within-meant 9 (drop at bytes)))

-- which bytes at a place spell no number
pub signed_too_wide_at : (bytes : List ℕ) (at : ℕ) → (sleb_at bytes at ≡ Err TooWide) ↔ IsSignedTooWide (drop at bytes)
signed_too_wide_at bytes at = (
  λ is. let w = sleb-too_wide_from 9 (drop at bytes) (placed-fault at (sleb_within 10 (drop at bytes)) TooWide (sym (sleb_at-steps bytes at) ∙ is)) in record { nine = w.0; some = w.1; not_all = w.2 },
  λ w. sleb_at-steps bytes at ∙ ap (λ (r : Result (ℤ × ℕ) UlebFault). placed at r) (sleb-too_wide_to 9 (drop at bytes) w.nine w.some w.not_all),
)

pub signed_cut_at : (bytes : List ℕ) (at : ℕ) → (sleb_at bytes at ≡ Err Ended) ↔ IsCut (drop at bytes)
signed_cut_at bytes at = (
  λ is. let w = sleb-ended_from 10 (drop at bytes) (placed-fault at (sleb_within 10 (drop at bytes)) Ended (sym (sleb_at-steps bytes at) ∙ is)) in record { few = w.0; all = w.1 },
  λ w. sleb_at-steps bytes at ∙ ap (λ (r : Result (ℤ × ℕ) UlebFault). placed at r) (sleb-ended_to 10 (drop at bytes) w.few w.all),
)

pub signed_too_wide_for : (bytes : List ℕ) (at : ℕ) (r : Result (ℤ × ℕ) UlebFault) → r ≡ sleb_at bytes at → (r ≡ Err TooWide) ↔ IsSignedTooWide (drop at bytes)
signed_too_wide_for bytes at r is = let w = signed_too_wide_at bytes at in (λ e. w.0 (sym is ∙ e), λ h. is ∙ w.1 h)

pub signed_cut_for : (bytes : List ℕ) (at : ℕ) (r : Result (ℤ × ℕ) UlebFault) → r ≡ sleb_at bytes at → (r ≡ Err Ended) ↔ IsCut (drop at bytes)
signed_cut_for bytes at r is = let w = signed_cut_at bytes at in (λ e. w.0 (sym is ∙ e), λ h. is ∙ w.1 h)
