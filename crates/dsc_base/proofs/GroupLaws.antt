-- The steps by which a number is read give the number that its groups of seven bits spell.
use Rattle.std.proofs.Common.{◌≡◌, ◌≤◌, ◌<◌, ℕ, zero, suc, ◌+◌, ◌*◌, ◌%◌, ◌^◌, Bool, List, [], ◌∷◌, take, drop, length, refl, sym, ap, ap₂, ◌∙◌, arith, inl, inr, Option, Some, None}
use Rattle.std.specs.Prelude.{nat_lt, option_map, Result, Ok, Err}
use Rattle.std.proofs.Math.Nat.{pow-succ', mul_left_comm}
use Rattle.std.proofs.lemmas.Bool.{cond-true, cond-false, lt-ltb, le-ltb, cases_lt}
use Rattle.dsc_base.specs.declared.fault.UlebFault.{UlebFault}
use Rattle.dsc_base.specs.declared.fault.UlebFault.TheVariants.{Ended, TooWide}
use Rattle.dsc_base.specs.Uleb.{groups, weighed, value_of, missing, spelled, number_in, uleb, uleb_at, placed}
use Rattle.dsc_base.specs.Steps.Uleb.{uleb_within, continued, ended_by, room}
use Rattle.dsc_base.proofs.StepLaws.{room_some, uleb-last, uleb-behind}

-- each group counts 128 times more one place further on
weighed-further : (k : ℕ) (gs : List ℕ) → weighed (suc k) gs ≡ 128 * weighed k gs
weighed-further k [] = refl
weighed-further k (g ∷ gs) =
    let here : g * 128 ^ suc k ≡ 128 * (g * 128 ^ k) = ap (λ (p : ℕ). g * p) (pow-succ' 128 k) ∙ mul_left_comm g 128 (128 ^ k) in
    let later : weighed (suc (suc k)) gs ≡ 128 * weighed (suc k) gs = weighed-further (suc k) gs in
    omega (arith, here, later)

pub value-more : (low : ℕ) (gs : List ℕ) → value_of (low ∷ gs) ≡ low + 128 * value_of gs
value-more low gs = omega (arith, weighed-further 0 gs)

pub value-one : (byte : ℕ) → value_of (byte ∷ []) ≡ byte
value-one byte = omega arith

pub groups-one : (byte : ℕ) (bytes : List ℕ) → byte < 128 → groups (byte ∷ bytes) ≡ Some (byte ∷ [])
groups-one byte bytes low = cond-true (nat_lt byte 128) (Some (byte ∷ [])) (option_map (λ higher. byte % 128 ∷ higher) (groups bytes)) (lt-ltb byte 128 low)

pub groups-more : (byte : ℕ) (bytes : List ℕ) → 128 ≤ byte → groups (byte ∷ bytes) ≡ option_map (λ higher. byte % 128 ∷ higher) (groups bytes)
groups-more byte bytes high = cond-false (nat_lt byte 128) (Some (byte ∷ [])) (option_map (λ higher. byte % 128 ∷ higher) (groups bytes)) (le-ltb byte 128 high)

-- one byte more, and one that may be there
pub missing-more : (most byte : ℕ) (bytes : List ℕ) → missing (suc most) (byte ∷ bytes) ≡ missing most bytes
missing-more most byte bytes =
    elim (cases_lt (length bytes) most) [
      | inl few ↦
          cond-true (nat_lt (length (byte ∷ bytes)) (suc most)) Ended TooWide (lt-ltb (length (byte ∷ bytes)) (suc most) (omega arith))
          ∙ sym (cond-true (nat_lt (length bytes) most) Ended TooWide (lt-ltb (length bytes) most few))
      | inr many ↦
          cond-false (nat_lt (length (byte ∷ bytes)) (suc most)) Ended TooWide (le-ltb (length (byte ∷ bytes)) (suc most) (omega arith))
          ∙ sym (cond-false (nat_lt (length bytes) most) Ended TooWide (le-ltb (length bytes) most many))
    ]

pub missing-all : (bytes : List ℕ) → missing 0 bytes ≡ TooWide
missing-all bytes = cond-false (nat_lt (length bytes) 0) Ended TooWide (le-ltb (length bytes) 0 (omega arith))

pub missing-none : (most : ℕ) → missing (suc most) [] ≡ Ended
missing-none most = cond-true (nat_lt 0 (suc most)) Ended TooWide (lt-ltb 0 (suc most) (omega arith))

-- numbers below a limit
abbrev below : ℕ → ℕ → Bool
below limit n = nat_lt n limit

abbrev Number : Type 0
Number = Result (ℕ × ℕ) UlebFault

spelled-narrow : (limit : ℕ) (fault : UlebFault) (gs : List ℕ) → value_of gs < limit → spelled value_of (below limit) fault (Some gs) ≡ Ok (value_of gs, length gs)
spelled-narrow limit fault gs small = cond-true (nat_lt (value_of gs) limit) (Ok (value_of gs, length gs)) (Err TooWide) (lt-ltb (value_of gs) limit small)

spelled-wide : (limit : ℕ) (fault : UlebFault) (gs : List ℕ) → limit ≤ value_of gs → spelled value_of (below limit) fault (Some gs) ≡ Err TooWide
spelled-wide limit fault gs large = cond-false (nat_lt (value_of gs) limit) (Ok (value_of gs, length gs)) (Err TooWide) (le-ltb (value_of gs) limit large)

number : ℕ → ℕ → Number
number value len = Ok (value, len)

-- a last byte
last-meant : (left byte : ℕ) (fault : UlebFault) → byte < 128 → ended_by left byte ≡ spelled value_of (below (2 * room left)) fault (Some (byte ∷ []))
last-meant zero byte fault low =
    elim (cases_lt 1 byte) [
      | inl wide ↦
          cond-true (nat_lt 1 byte) (Err TooWide) (Ok (byte, 1)) (lt-ltb 1 byte wide)
          ∙ sym (spelled-wide (2 * room zero) fault (byte ∷ []) (omega (arith, value-one byte)))
      | inr narrow ↦
          cond-false (nat_lt 1 byte) (Err TooWide) (Ok (byte, 1)) (le-ltb 1 byte narrow)
          ∙ sym (spelled-narrow (2 * room zero) fault (byte ∷ []) (omega (arith, value-one byte)) ∙ ap (λ (n : ℕ). let r : Number = Ok (n, 1) in r) (value-one byte))
    ]
last-meant (suc left) byte fault low =
    sym (spelled-narrow (2 * room (suc left)) fault (byte ∷ []) (omega (arith, value-one byte, room_some left)) ∙ ap (λ (n : ℕ). let r : Number = Ok (n, 1) in r) (value-one byte))

-- and a byte in front of others
more-meant : (limit low : ℕ) (fault : UlebFault) (o : Option (List ℕ)) → low < 128
    → continued low (spelled value_of (below limit) fault o) ≡ spelled value_of (below (128 * limit)) fault (option_map (λ higher. low ∷ higher) o)
more-meant limit low fault None small = refl
more-meant limit low fault (Some gs) small =
    elim (cases_lt (value_of gs) limit) [
      | inl few ↦
          ap (λ (r : Number). continued low r) (spelled-narrow limit fault gs few)
          ∙ (ap₂ (λ (v n : ℕ). let r : Number = Ok (v, n) in r) (sym (value-more low gs)) (omega arith)
          ∙ sym (spelled-narrow (128 * limit) fault (low ∷ gs) (omega (arith, value-more low gs))))
      | inr many ↦
          ap (λ (r : Number). continued low r) (spelled-wide limit fault gs many)
          ∙ sym (spelled-wide (128 * limit) fault (low ∷ gs) (omega (arith, value-more low gs)))
    ]

abbrev Behind : ℕ → ℕ → List ℕ → Type 0
Behind left byte bytes =
    continued (byte % 128) (uleb_within left bytes)
    ≡ spelled value_of (below (2 * room left)) (missing (suc left) (byte ∷ bytes)) (option_map (λ higher. byte % 128 ∷ higher) (groups (take left bytes)))

behind-none : (byte : ℕ) (bytes : List ℕ) → Behind zero byte bytes
behind-none byte bytes = ap (λ (f : UlebFault). let r : Number = Err f in r) (sym (missing-more zero byte bytes ∙ missing-all bytes))

behind-some : (m byte : ℕ) (bytes : List ℕ) → uleb_within (suc m) bytes ≡ number_in value_of (below (2 * room m)) (suc m) bytes → Behind (suc m) byte bytes
behind-some m byte bytes is =
    ap (λ (r : Number). continued (byte % 128) r) is
    ∙ (more-meant (2 * room m) (byte % 128) (missing (suc m) bytes) (groups (take (suc m) bytes)) (omega arith)
    ∙ ap₂ (λ (limit : ℕ) (f : UlebFault). spelled value_of (below limit) f (option_map (λ higher. byte % 128 ∷ higher) (groups (take (suc m) bytes)))) (omega arith) (sym (missing-more (suc m) byte bytes)))

front-meant : (left byte : ℕ) (bytes : List ℕ) → Behind left byte bytes → uleb_within (suc left) (byte ∷ bytes) ≡ number_in value_of (below (2 * room left)) (suc left) (byte ∷ bytes)
front-meant left byte bytes behind =
    let fault : UlebFault = missing (suc left) (byte ∷ bytes) in
    elim (cases_lt byte 128) [
      | inl low ↦
          uleb-last left byte bytes low
          ∙ (last-meant left byte fault low ∙ ap (λ (o : Option (List ℕ)). spelled value_of (below (2 * room left)) fault o) (sym (groups-one byte (take left bytes) low)))
      | inr high ↦
          uleb-behind left byte bytes high
          ∙ (behind ∙ ap (λ (o : Option (List ℕ)). spelled value_of (below (2 * room left)) fault o) (sym (groups-more byte (take left bytes) high)))
    ]

within-meant : (left : ℕ) (bytes : List ℕ) → uleb_within (suc left) bytes ≡ number_in value_of (below (2 * room left)) (suc left) bytes
within-meant left [] = ap (λ (f : UlebFault). let r : Number = Err f in r) (sym (missing-none left))
within-meant zero (byte ∷ bytes) = front-meant zero byte bytes (behind-none byte bytes)
within-meant (suc m) (byte ∷ bytes) = front-meant (suc m) byte bytes (behind-some m byte bytes (within-meant m bytes))

pub uleb-steps : (bytes : List ℕ) → uleb bytes ≡ uleb_within 10 bytes
uleb-steps bytes = sym (within-meant 9 bytes)

pub uleb_at-steps : (bytes : List ℕ) (at : ℕ) → uleb_at bytes at ≡ placed at (uleb_within 10 (drop at bytes))
unfolding uleb_at
uleb_at-steps bytes at = ap (λ (r : Number). placed at r) (uleb-steps (drop at bytes))
