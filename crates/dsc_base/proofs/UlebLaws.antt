-- Laws of variable-length numbers at a place, and of those that were written.
use Rattle.std.proofs.Common.{◌≡◌, ◌≤◌, ◌<◌, ℕ, zero, suc, ◌+◌, ◌*◌, ◌/◌, ◌%◌, ◌^◌, List, [], ◌∷◌, ◌++◌, take, drop, length, set, append_assoc, length-append, refl, sym, ap, ap₂, subst, ◌∙◌, arith, inl, inr}
use Rattle.std.specs.Prelude.{◌↔◌, nat_lt, Result, Ok, Err}
use Rattle.std.proofs.lemmas.Bool.{cond-true, cond-false, lt-ltb, le-ltb, cases_lt}
use Rattle.std.proofs.lemmas.List.{take_more_set, drop_at, append-nil}
use Rattle.dsc_base.specs.declared.fault.UlebFault.{UlebFault}
use Rattle.dsc_base.specs.declared.fault.UlebFault.TheVariants.{Ended, TooWide}
use Rattle.dsc_base.specs.Uleb.{uleb_at, uleb_bytes, uleb4_bytes, placed, shortest, padded, IsTooWide, IsCut}
use Rattle.dsc_base.specs.Steps.Uleb.{uleb_within, room}
use Rattle.dsc_base.proofs.StepLaws.{uleb-shortest, uleb-padded, ok-parts, shortest-one, shortest-least, uleb-too_wide_from, uleb-too_wide_to, uleb-ended_from, uleb-ended_to, Read, read_value, uleb-fits}
use Rattle.dsc_base.proofs.GroupLaws.{uleb_at-steps}

-- the same at a place
pub placed-fault : {N : Type 0} (at : ℕ) (r : Result (N × ℕ) UlebFault) (fault : UlebFault) → placed at r ≡ Err fault → r ≡ Err fault
placed-fault at (Err other) fault is = is
placed-fault at (Ok p) fault is = absurd (cc)

pub too_wide_at : (bytes : List ℕ) (at : ℕ) → (uleb_at bytes at ≡ Err TooWide) ↔ IsTooWide (drop at bytes)
too_wide_at bytes at = (
  λ is. let w = uleb-too_wide_from 9 (drop at bytes) (placed-fault at (uleb_within 10 (drop at bytes)) TooWide (sym (uleb_at-steps bytes at) ∙ is)) in record { nine = w.0; tenth = w.1 },
  λ w. uleb_at-steps bytes at ∙ ap (λ (r : Result (ℕ × ℕ) UlebFault). placed at r) (uleb-too_wide_to 9 (drop at bytes) w.nine w.tenth),
)

pub cut_at : (bytes : List ℕ) (at : ℕ) → (uleb_at bytes at ≡ Err Ended) ↔ IsCut (drop at bytes)
cut_at bytes at = (
  λ is. let w = uleb-ended_from 10 (drop at bytes) (placed-fault at (uleb_within 10 (drop at bytes)) Ended (sym (uleb_at-steps bytes at) ∙ is)) in record { few = w.0; all = w.1 },
  λ w. uleb_at-steps bytes at ∙ ap (λ (r : Result (ℕ × ℕ) UlebFault). placed at r) (uleb-ended_to 10 (drop at bytes) w.few w.all),
)

pub too_wide_for : (bytes : List ℕ) (at : ℕ) (r : Result (ℕ × ℕ) UlebFault) → r ≡ uleb_at bytes at → (r ≡ Err TooWide) ↔ IsTooWide (drop at bytes)
too_wide_for bytes at r is = let w = too_wide_at bytes at in (λ e. w.0 (sym is ∙ e), λ h. is ∙ w.1 h)

pub cut_for : (bytes : List ℕ) (at : ℕ) (r : Result (ℕ × ℕ) UlebFault) → r ≡ uleb_at bytes at → (r ≡ Err Ended) ↔ IsCut (drop at bytes)
cut_for bytes at r is = let w = cut_at bytes at in (λ e. w.0 (sym is ∙ e), λ h. is ∙ w.1 h)

-- what is written is read back, and is the least that is
pub uleb_read_back : (value : ℕ) → value < 2 ^ 64 → (rest : List ℕ) → uleb_at (uleb_bytes value ++ rest) 0 ≡ Ok (value, length (uleb_bytes value))
unfolding uleb_bytes
uleb_read_back value small rest =
    uleb_at-steps (shortest 9 value ++ rest) 0
    ∙ (ap (λ (r : Result (ℕ × ℕ) UlebFault). placed 0 r) (uleb-shortest 9 value rest (omega arith))
    ∙ ap (λ (n : ℕ). let r : Result (ℕ × ℕ) UlebFault = Ok (value, n) in r) (omega arith))

pub uleb_least : (value : ℕ) (bytes : List ℕ) (end : ℕ) → uleb_at bytes 0 ≡ Ok (value, end) → length (uleb_bytes value) ≤ end
unfolding uleb_bytes
uleb_least value bytes end read =
    let e = placed-parts 0 value end (uleb_within 10 bytes) (sym (uleb_at-steps bytes 0) ∙ read) in
    omega (arith, shortest-least 9 10 value e.0 bytes e.1.0, e.1.1)
  where
    placed-parts : (at value end : ℕ) (r : Result (ℕ × ℕ) UlebFault) → placed at r ≡ Ok (value, end) → (n : ℕ) × ((r ≡ Ok (value, n)) × (at + n ≡ end))
    placed-parts at value end (Err fault) read = absurd (cc)
    placed-parts at value end (Ok p) read =
        let e = ok-parts p.0 value (at + p.1) end read in
        (p.1, (ap (λ (v : ℕ). let r : Result (ℕ × ℕ) UlebFault = Ok (v, p.1) in r) e.0, e.1))

pub uleb4_read_back : (value : ℕ) → value < 2 ^ 28 → (rest : List ℕ) → uleb_at (uleb4_bytes value ++ rest) 0 ≡ Ok (value, 4)
unfolding uleb4_bytes
uleb4_read_back value small rest =
    uleb_at-steps (padded 3 value ++ rest) 0 ∙ ap (λ (r : Result (ℕ × ℕ) UlebFault). placed 0 r) (uleb-padded 3 9 value rest (omega arith) (omega arith))

-- a number that is spelt as far as `rest` above its first `len` bytes
pub record IsSpelt (spelling : List ℕ) (len rest value : ℕ) : Type 0 where
  pub more : ℕ
  pub count : len + more ≡ 9
  pub small : rest < 2 * room more
  pub spelt : take len spelling ++ shortest more rest ≡ shortest 9 value

pub spelt_none : (spelling : List ℕ) (value : ℕ) → value < 2 ^ 64 → IsSpelt spelling 0 value value
spelt_none spelling value small = record { more = 9; count = omega arith; small = omega arith; spelt = refl }

pub spelt_more : (spelling : List ℕ) (len rest value : ℕ) → 128 ≤ rest → length spelling ≡ 10 → IsSpelt spelling len rest value → IsSpelt (set spelling len (128 + rest % 128)) (len + 1) (rest / 128) value
spelt_more spelling len rest value large ten so = step so.more so.count so.small so.spelt
  where
    step : (more : ℕ) → len + more ≡ 9 → rest < 2 * room more → take len spelling ++ shortest more rest ≡ shortest 9 value → IsSpelt (set spelling len (128 + rest % 128)) (len + 1) (rest / 128) value
    step zero count small spelt = absurd (omega arith)
    step (suc more) count small spelt = record {
      more = more;
      count = omega arith;
      small = omega arith;
      spelt =
          ap (λ (l : List ℕ). l ++ shortest more (rest / 128)) (take_more_set spelling len (128 + rest % 128) (omega arith))
          ∙ (append_assoc (take len spelling) ((128 + rest % 128) ∷ []) (shortest more (rest / 128))
          ∙ (ap (λ (l : List ℕ). take len spelling ++ l) (sym (cond-false (nat_lt rest 128) (rest ∷ []) ((128 + rest % 128) ∷ shortest more (rest / 128)) (le-ltb rest 128 large)))
          ∙ spelt));
    }

pub spelt_all : (spelling : List ℕ) (len rest value : ℕ) → rest < 128 → length spelling ≡ 10 → IsSpelt spelling len rest value → take (len + 1) (set spelling len rest) ≡ uleb_bytes value
unfolding uleb_bytes
spelt_all spelling len rest value few ten so =
    take_more_set spelling len rest (omega (arith, so.count)) ∙ (ap (λ (l : List ℕ). take len spelling ++ l) (sym (last so.more)) ∙ so.spelt)
  where
    last : (more : ℕ) → shortest more rest ≡ rest ∷ []
    last zero = refl
    last (suc more) = cond-true (nat_lt rest 128) (rest ∷ []) ((128 + rest % 128) ∷ shortest more (rest / 128)) (lt-ltb rest 128 few)

-- a number behind other bytes
pub uleb_at-behind : (before bytes : List ℕ) (at : ℕ) → length before ≡ at → uleb_at (before ++ bytes) at ≡ placed at (uleb_within 10 bytes)
uleb_at-behind before bytes at is = uleb_at-steps (before ++ bytes) at ∙ ap (λ (l : List ℕ). placed at (uleb_within 10 l)) (drop_at before bytes at is)

pub uleb_at-fits : (bytes : List ℕ) (at value end : ℕ) → uleb_at bytes at ≡ Ok (value, end) → value < 2 ^ 64
uleb_at-fits bytes at value end read = go (uleb_within 10 (drop at bytes)) refl (sym (uleb_at-steps bytes at) ∙ read)
  where
    go : (r : Result (ℕ × ℕ) UlebFault) → uleb_within 10 (drop at bytes) ≡ r → placed at r ≡ Read value end → value < 2 ^ 64
    go (Err fault) is read = absurd (cc)
    go (Ok (rest, n)) is read =
        let e : rest ≡ value = read_value rest value (at + n) end read in
        let below : rest < 2 * room 9 = uleb-fits 9 (drop at bytes) rest n is in
        omega (arith, e, below)

-- the length of a spelling, counted from its front
pub record IsCounted (len rest value : ℕ) : Type 0 where
  pub more : ℕ
  pub small : rest < 2 * room more
  pub counted : len + length (shortest more rest) ≡ 1 + length (shortest 9 value)

pub counted_none : (value : ℕ) → value < 2 ^ 64 → IsCounted 1 value value
counted_none value small = record { more = 9; small = omega arith; counted = refl }

pub counted_more : (len rest value : ℕ) → 128 ≤ rest → IsCounted len rest value → IsCounted (len + 1) (rest / 128) value
counted_more len rest value large so = step so.more so.small so.counted
  where
    step : (more : ℕ) → rest < 2 * room more → len + length (shortest more rest) ≡ 1 + length (shortest 9 value) → IsCounted (len + 1) (rest / 128) value
    step zero small counted = absurd (omega arith)
    step (suc more) small counted = record {
      more = more;
      small = omega arith;
      counted =
          omega (arith, counted, ap length (cond-false (nat_lt rest 128) (rest ∷ []) ((128 + rest % 128) ∷ shortest more (rest / 128)) (le-ltb rest 128 large)));
    }

pub counted_all : (len rest value : ℕ) → rest < 128 → IsCounted len rest value → len ≡ length (shortest 9 value)
counted_all len rest value few so = omega (arith, so.counted, shortest-one so.more rest few)

-- a number of 7 times so many bits has so many bytes at most
pub length-shortest : (more k value : ℕ) → value < 128 * room k → length (shortest more value) ≤ suc k
length-shortest zero k value small = omega arith
length-shortest (suc more) zero value small = omega (arith, shortest-one (suc more) value (omega arith))
length-shortest (suc more) (suc k) value small =
    elim (cases_lt value 128) [
      | inl few ↦ omega (arith, shortest-one (suc more) value few)
      | inr large ↦
          omega (arith, length-shortest more k (value / 128) (omega arith), ap length (cond-false (nat_lt value 128) (value ∷ []) ((128 + value % 128) ∷ shortest more (value / 128)) (le-ltb value 128 large)))
    ]

pub length-uleb_bytes : (k value : ℕ) → value < 128 * room k → length (uleb_bytes value) ≤ suc k
unfolding uleb_bytes
length-uleb_bytes k value small = length-shortest 9 k value small

pub length-shortest_some : (more value : ℕ) → length (shortest more value) ≤ suc more
length-shortest_some zero value = omega arith
length-shortest_some (suc more) value =
    elim (cases_lt value 128) [
      | inl few ↦ omega (arith, shortest-one (suc more) value few)
      | inr large ↦
          omega (arith, length-shortest_some more (value / 128), ap length (cond-false (nat_lt value 128) (value ∷ []) ((128 + value % 128) ∷ shortest more (value / 128)) (le-ltb value 128 large)))
    ]

pub length-uleb_bytes_ten : (value : ℕ) → length (uleb_bytes value) ≤ 10
unfolding uleb_bytes
length-uleb_bytes_ten value = length-shortest_some 9 value

pub uleb_bytes-one : (value : ℕ) → value < 128 → uleb_bytes value ≡ value ∷ []
unfolding uleb_bytes
uleb_bytes-one value few = cond-true (nat_lt value 128) (value ∷ []) ((128 + value % 128) ∷ shortest 8 (value / 128)) (lt-ltb value 128 few)

-- and one that was appended is read at its place, up to the end
abbrev pub Appended : List ℕ → List ℕ → ℕ → Type 0
Appended before after value = uleb_at after (length before) ≡ Ok (value, length after)

uleb_at-appended : (before spelled : List ℕ) (value : ℕ) → uleb_at (spelled ++ []) 0 ≡ Ok (value, length spelled) → Appended before (before ++ spelled) value
uleb_at-appended before spelled value read =
    uleb_at-behind before spelled (length before) refl
    ∙ (placed-moves (length before) value (length spelled) (uleb_within 10 spelled) (ap (λ (l : List ℕ). placed 0 (uleb_within 10 l)) (sym (append-nil spelled)) ∙ (sym (uleb_at-steps (spelled ++ []) 0) ∙ read))
    ∙ ap (λ (n : ℕ). let r : Result (ℕ × ℕ) UlebFault = Ok (value, n) in r) (sym (length-append before spelled)))
  where
    placed-moves : (at value len : ℕ) (r : Result (ℕ × ℕ) UlebFault) → placed 0 r ≡ Ok (value, len) → placed at r ≡ Ok (value, at + len)
    placed-moves at value len (Err fault) read = absurd (cc)
    placed-moves at value len (Ok p) read =
        let e = ok-parts p.0 value (0 + p.1) len read in
        ap₂ (λ (v n : ℕ). let r : Result (ℕ × ℕ) UlebFault = Ok (v, n) in r) e.0 (omega (arith, e.1))

pub uleb_bytes-appended : (before after : List ℕ) (value : ℕ) → value < 2 ^ 64 → after ≡ before ++ uleb_bytes value → Appended before after value
uleb_bytes-appended before after value small is =
    subst (λ (l : List ℕ). Appended before l value) (sym is) (uleb_at-appended before (uleb_bytes value) value (uleb_read_back value small []))

length-uleb4_bytes : (value : ℕ) → length (uleb4_bytes value) ≡ 4
unfolding uleb4_bytes
length-uleb4_bytes value = refl

pub uleb4_bytes-appended : (before after : List ℕ) (value : ℕ) → value < 2 ^ 28 → after ≡ before ++ uleb4_bytes value → Appended before after value
uleb4_bytes-appended before after value small is =
    subst (λ (l : List ℕ). Appended before l value) (sym is)
    (uleb_at-appended before (uleb4_bytes value) value
    (uleb4_read_back value small [] ∙ ap (λ (n : ℕ). let r : Result (ℕ × ℕ) UlebFault = Ok (value, n) in r) (sym (length-uleb4_bytes value))))

-- a number between other bytes
pub uleb_at-read : (before rest : List ℕ) (value at : ℕ) → length before ≡ at → value < 2 ^ 64 → uleb_at (before ++ (uleb_bytes value ++ rest)) at ≡ Ok (value, at + length (uleb_bytes value))
unfolding uleb_bytes
uleb_at-read before rest value at is small =
    uleb_at-behind before (shortest 9 value ++ rest) at is ∙ ap (λ (r : Result (ℕ × ℕ) UlebFault). placed at r) (uleb-shortest 9 value rest (omega arith))
