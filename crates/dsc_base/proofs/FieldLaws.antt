-- Laws of spelled fields: how many bytes they are, and each field read back at its place.
use Rattle.std.proofs.Common.{◌≡◌, ◌≤◌, ◌<◌, ℕ, ◌+◌, ◌-◌, ◌^◌, true, false, nat_eq, nat_lt, if◌then◌else◌, Some, None, List, [], ◌∷◌, ◌++◌, take, drop, length, get_or, refl, sym, ap, ap₂, ◌∙◌, arith, length-append, append_assoc}
use Rattle.std.proofs.lemmas.List.{at_drop_more, drop_all, append-nil, take_at, length-replicate}
use Rattle.std.proofs.Math.Seq.{drop-append-add}
use Rattle.std.proofs.lemmas.Bool.{eqb-true}
use Rattle.std.proofs.lemmas.Bool.Decides.{nat_tests}
use Rattle.byteorder.specs.Endian.{little_number, little_bytes}
use Rattle.byteorder.specs.Numbers.{little_number-reads_back}
use Rattle.dsc_base.specs.Numbers.{number_at}
use Rattle.dsc_base.specs.Fields.{Field, U16, U32, U64, Identifier, Zeros, width_of, bytes_of, spelled, total_width, field_at, IsWhole, AreWhole}
use Rattle.dsc_base.proofs.NumberLaws.{length-little_bytes}

-- a loop that writes field after field
pub spelled_more : (fs : List Field) (i : ℕ) (d : Field) (done whole : List ℕ) → i < length fs → done ++ spelled (drop i fs) ≡ whole → (done ++ bytes_of (get_or fs i d)) ++ spelled (drop (i + 1) fs) ≡ whole
unfolding spelled
spelled_more fs i d done whole lt so_far =
    append_assoc done (bytes_of (get_or fs i d)) (spelled (drop (i + 1) fs))
    ∙ (ap (λ (l : List ℕ). done ++ l) (sym (at_drop_more spelled fs i d lt)) ∙ so_far)

pub spelled_end : (fs : List Field) (n : ℕ) (done whole : List ℕ) → length fs ≤ n → done ++ spelled (drop n fs) ≡ whole → done ≡ whole
unfolding spelled
spelled_end fs n done whole le so_far =
    sym (append-nil done) ∙ (ap (λ (l : List Field). done ++ spelled l) (sym (drop_all n fs le)) ∙ so_far)

pub length-bytes_of : (f : Field) → IsWhole f → length (bytes_of f) ≡ width_of f
length-bytes_of (U16 v) whole = length-little_bytes 2 v
length-bytes_of (U32 v) whole = length-little_bytes 4 v
length-bytes_of (U64 v) whole = length-little_bytes 8 v
length-bytes_of (Identifier bytes) whole = whole
length-bytes_of (Zeros n) whole = length-replicate {A = ℕ} n 0

pub length-spelled : (fs : List Field) → AreWhole fs → length (spelled fs) ≡ total_width fs
unfolding spelled
length-spelled [] whole = refl
length-spelled (f ∷ fs) whole =
    length-append (bytes_of f) (spelled fs) ∙ ap₂ (λ (a b : ℕ). a + b) (length-bytes_of f whole.0) (length-spelled fs whole.1)

pub spelled-append : (fs gs : List Field) → spelled (fs ++ gs) ≡ spelled fs ++ spelled gs
unfolding spelled
spelled-append [] gs = refl
spelled-append (f ∷ fs) gs =
    ap (λ (l : List ℕ). bytes_of f ++ l) (spelled-append fs gs) ∙ sym (append_assoc (bytes_of f) (spelled fs) (spelled gs))

-- a drop past the front of an append
pub drop_past : (xs ys : List ℕ) (n at : ℕ) → length xs ≡ n → n ≤ at → drop at (xs ++ ys) ≡ drop (at - n) ys
drop_past xs ys n at is le =
    ap (λ (m : ℕ). drop m (xs ++ ys)) (omega arith) ∙ drop-append-add xs ys (at - n)

-- what stands from the place of a field on begins with its bytes
pub spelled_from : (fs : List Field) (at : ℕ) (f : Field) (rest : List ℕ) → AreWhole fs → field_at fs at ≡ Some f → (after : List ℕ) × (drop at (spelled fs ++ rest) ≡ bytes_of f ++ after)
unfolding spelled
spelled_from [] at f rest whole found = absurd (cc)
spelled_from (g ∷ gs) at f rest whole found =
    let whole_bytes : (bytes_of g ++ spelled gs) ++ rest ≡ bytes_of g ++ (spelled gs ++ rest) = append_assoc (bytes_of g) (spelled gs) rest in
    elim (nat_eq at 0) as (λ b. nat_eq at 0 ≡ b → (if b then Some g else (if nat_lt at (width_of g) then None else field_at gs (at - width_of g))) ≡ Some f → (after : List ℕ) × (drop at ((bytes_of g ++ spelled gs) ++ rest) ≡ bytes_of f ++ after)) [
      | true ↦ λ here is.
          let first : at ≡ 0 = eqb-true at 0 here in
          let same : g ≡ f = cc in
          (spelled gs ++ rest, ap (λ (n : ℕ). drop n ((bytes_of g ++ spelled gs) ++ rest)) first ∙ (whole_bytes ∙ ap (λ (x : Field). bytes_of x ++ (spelled gs ++ rest)) same))
      | false ↦ λ later is.
          elim (nat_lt at (width_of g)) as (λ b. nat_lt at (width_of g) ≡ b → (if b then None else field_at gs (at - width_of g)) ≡ Some f → (after : List ℕ) × (drop at ((bytes_of g ++ spelled gs) ++ rest) ≡ bytes_of f ++ after)) [
            | true ↦ λ inside none. absurd (cc)
            | false ↦ λ behind found_later.
                let le : width_of g ≤ at = grind (arith, nat_tests) in
                let below : (after : List ℕ) × (drop (at - width_of g) (spelled gs ++ rest) ≡ bytes_of f ++ after) = spelled_from gs (at - width_of g) f rest whole.1 found_later in
                (below.0, ap (λ (l : List ℕ). drop at l) whole_bytes ∙ (drop_past (bytes_of g) (spelled gs ++ rest) (width_of g) at (length-bytes_of g whole.0) le ∙ below.1))
          ] refl is
    ] refl found

-- a number among the fields is read back
number_from : (w v at : ℕ) (whole after : List ℕ) → drop at whole ≡ little_bytes w v ++ after → v < 256 ^ w → number_at w whole at ≡ v
unfolding number_at
number_from w v at whole after is fits = ap (λ (l : List ℕ). little_number w l) is ∙ little_number-reads_back w v after fits

pub u32_spelled : (fs : List Field) (at v : ℕ) (rest : List ℕ) → AreWhole fs → field_at fs at ≡ Some (U32 v) → v < 2 ^ 32 → number_at 4 (spelled fs ++ rest) at ≡ v
u32_spelled fs at v rest whole found fits =
    let from : (after : List ℕ) × (drop at (spelled fs ++ rest) ≡ bytes_of (U32 v) ++ after) = spelled_from fs at (U32 v) rest whole found in
    number_from 4 v at (spelled fs ++ rest) from.0 from.1 fits

pub u64_spelled : (fs : List Field) (at v : ℕ) (rest : List ℕ) → AreWhole fs → field_at fs at ≡ Some (U64 v) → v < 2 ^ 64 → number_at 8 (spelled fs ++ rest) at ≡ v
u64_spelled fs at v rest whole found fits =
    let from : (after : List ℕ) × (drop at (spelled fs ++ rest) ≡ bytes_of (U64 v) ++ after) = spelled_from fs at (U64 v) rest whole found in
    number_from 8 v at (spelled fs ++ rest) from.0 from.1 fits

pub identifier_spelled : (fs : List Field) (at : ℕ) (bytes rest : List ℕ) → AreWhole fs → field_at fs at ≡ Some (Identifier bytes) → length bytes ≡ 16 → take 16 (drop at (spelled fs ++ rest)) ≡ bytes
identifier_spelled fs at bytes rest whole found sixteen =
    let from : (after : List ℕ) × (drop at (spelled fs ++ rest) ≡ bytes_of (Identifier bytes) ++ after) = spelled_from fs at (Identifier bytes) rest whole found in
    ap (λ (l : List ℕ). take 16 l) from.1 ∙ take_at bytes from.0 16 sixteen
