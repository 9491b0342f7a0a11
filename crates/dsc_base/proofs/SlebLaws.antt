-- Which bytes the steps take for no number with a sign.
use Rattle.std.proofs.Common.{◌≡◌, ◌≢◌, ◌≤◌, ◌<◌, ◌⊎◌, ℕ, zero, suc, ◌%◌, List, [], ◌∷◌, length, get_or, refl, sym, ap, ◌∙◌, arith, inl, inr}
use Rattle.std.specs.Prelude.{ℤ, nat_lt, ◌&&◌, Result, Ok, Err}
use Rattle.std.proofs.lemmas.Bool.{cond-true, cond-false, lt-ltb, le-ltb, cases_lt, and_from, and_left, and_right}
use Rattle.dsc_base.specs.declared.fault.UlebFault.{UlebFault}
use Rattle.dsc_base.specs.declared.fault.UlebFault.TheVariants.{Ended, TooWide}
use Rattle.dsc_base.specs.Steps.Uleb.{sleb_within, signed_continued, signed_ended_by, signed_bits}
use Rattle.dsc_base.proofs.StepLaws.{AllMore, AllMore-cons, AllMore-rest}

pub sleb-last : (left byte : ℕ) (rest : List ℕ) → byte < 128 → sleb_within (suc left) (byte ∷ rest) ≡ signed_ended_by left byte
sleb-last left byte rest small =
    cond-true (nat_lt byte 128) (signed_ended_by left byte) (signed_continued (byte % 128) (sleb_within left rest)) (lt-ltb byte 128 small)

pub sleb-behind : (left byte : ℕ) (bytes : List ℕ) → 128 ≤ byte → sleb_within (suc left) (byte ∷ bytes) ≡ signed_continued (byte % 128) (sleb_within left bytes)
sleb-behind left byte bytes large =
    cond-false (nat_lt byte 128) (signed_ended_by left byte) (signed_continued (byte % 128) (sleb_within left bytes)) (le-ltb byte 128 large)

signed_continued-fault : (low : ℕ) (r : Result (ℤ × ℕ) UlebFault) (fault : UlebFault) → signed_continued low r ≡ Err fault → r ≡ Err fault
signed_continued-fault low (Err other) fault is = is
signed_continued-fault low (Ok p) fault is = absurd (cc)

-- a tenth byte that is neither nor, and one that is
pub tenth-wide : (byte : ℕ) → 0 < byte → byte < 127 → signed_ended_by zero byte ≡ Err TooWide
tenth-wide byte some few =
    cond-true (nat_lt 0 byte && nat_lt byte 127) (Err TooWide) (Ok (signed_bits byte, 1))
    (and_from (nat_lt 0 byte) (nat_lt byte 127) (lt-ltb 0 byte some) (lt-ltb byte 127 few))

pub tenth-fits : (byte : ℕ) → (byte ≤ 0) ⊎ (127 ≤ byte) → signed_ended_by zero byte ≡ Ok (signed_bits byte, 1)
tenth-fits byte (inl none) =
    cond-false (nat_lt 0 byte && nat_lt byte 127) (Err TooWide) (Ok (signed_bits byte, 1))
    (and_left (nat_lt 0 byte) (nat_lt byte 127) (le-ltb 0 byte none))
tenth-fits byte (inr all) =
    cond-false (nat_lt 0 byte && nat_lt byte 127) (Err TooWide) (Ok (signed_bits byte, 1))
    (and_right (nat_lt 0 byte) (nat_lt byte 127) (le-ltb byte 127 all))

pub tenth-cases : (byte : ℕ) → byte < 128 → ((0 < byte) × (byte < 127)) ⊎ ((byte ≤ 0) ⊎ (127 ≤ byte))
tenth-cases byte small =
    elim (cases_lt 0 byte) [ inl some ↦ elim (cases_lt byte 127) [ inl few ↦ inl (some, few) | inr all ↦ inr (inr all) ] | inr none ↦ inr (inl none) ]

-- which bytes spell a number that is too wide
pub sleb-too_wide_from : (left : ℕ) (bytes : List ℕ) → sleb_within (suc left) bytes ≡ Err TooWide → AllMore left bytes × (0 < get_or bytes left 0) × (get_or bytes left 0 ≢ 127)
sleb-too_wide_from left [] is = absurd (cc)
sleb-too_wide_from zero (byte ∷ bytes) is =
    elim (cases_lt byte 128) [
      | inl small ↦ elim (tenth-cases byte small) [
        | inl wide ↦ (λ k lt. absurd (omega arith), wide.0, λ e. absurd (omega (arith, wide.1)))
        | inr fits ↦ absurd (let e = sym (sleb-last zero byte bytes small ∙ tenth-fits byte fits) ∙ is in cc)
      ]
      | inr large ↦ (λ k lt. absurd (omega arith), omega arith, λ e. absurd (omega arith))
    ]
sleb-too_wide_from (suc left) (byte ∷ bytes) is =
    elim (cases_lt byte 128) [
      | inl small ↦ absurd (let e = sym (sleb-last (suc left) byte bytes small) ∙ is in cc)
      | inr large ↦
          let below = sleb-too_wide_from left bytes (signed_continued-fault (byte % 128) (sleb_within (suc left) bytes) TooWide (sym (sleb-behind (suc left) byte bytes large) ∙ is)) in
          (AllMore-cons left byte bytes large below.0, below.1, below.2)
    ]

pub sleb-too_wide_to : (left : ℕ) (bytes : List ℕ) → AllMore left bytes → 0 < get_or bytes left 0 → get_or bytes left 0 ≢ 127 → sleb_within (suc left) bytes ≡ Err TooWide
sleb-too_wide_to left [] all some not_all = absurd (omega arith)
sleb-too_wide_to zero (byte ∷ bytes) all some not_all =
    elim (cases_lt byte 128) [
      | inl small ↦ sleb-last zero byte bytes small ∙ tenth-wide byte some (omega arith)
      | inr large ↦ sleb-behind zero byte bytes large
    ]
sleb-too_wide_to (suc left) (byte ∷ bytes) all some not_all =
    sleb-behind (suc left) byte bytes (all zero (omega arith))
    ∙ ap (λ (r : Result (ℤ × ℕ) UlebFault). signed_continued (byte % 128) r) (sleb-too_wide_to left bytes (AllMore-rest left byte bytes all) some not_all)

-- and which end before their number does
signed_ended_by-not : (left byte : ℕ) → byte < 128 → signed_ended_by left byte ≡ Err Ended → ⊥
signed_ended_by-not zero byte small is =
    elim (tenth-cases byte small) [
      | inl wide ↦ let e = sym (tenth-wide byte wide.0 wide.1) ∙ is in cc
      | inr fits ↦ let e = sym (tenth-fits byte fits) ∙ is in cc
    ]
signed_ended_by-not (suc left) byte small is = cc

pub sleb-ended_from : (left : ℕ) (bytes : List ℕ) → sleb_within left bytes ≡ Err Ended → (length bytes < left) × AllMore (length bytes) bytes
sleb-ended_from zero bytes is = absurd (cc)
sleb-ended_from (suc left) [] is = (omega arith, λ k lt. absurd (omega arith))
sleb-ended_from (suc left) (byte ∷ bytes) is =
    elim (cases_lt byte 128) [
      | inl small ↦ absurd (signed_ended_by-not left byte small (sym (sleb-last left byte bytes small) ∙ is))
      | inr large ↦
          let below = sleb-ended_from left bytes (signed_continued-fault (byte % 128) (sleb_within left bytes) Ended (sym (sleb-behind left byte bytes large) ∙ is)) in
          (omega (arith, below.0), AllMore-cons (length bytes) byte bytes large below.1)
    ]

pub sleb-ended_to : (left : ℕ) (bytes : List ℕ) → length bytes < left → AllMore (length bytes) bytes → sleb_within left bytes ≡ Err Ended
sleb-ended_to zero bytes few all = absurd (omega arith)
sleb-ended_to (suc left) [] few all = refl
sleb-ended_to (suc left) (byte ∷ bytes) few all =
    sleb-behind left byte bytes (all zero (omega arith))
    ∙ ap (λ (r : Result (ℤ × ℕ) UlebFault). signed_continued (byte % 128) r) (sleb-ended_to left bytes (omega arith) (AllMore-rest (length bytes) byte bytes all))
