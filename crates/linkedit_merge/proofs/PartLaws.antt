-- Parts one behind the other: how long they are, and where each stands.
use Rattle.std.proofs.Common.{◌≡◌, ◌≤◌, ◌<◌, ℕ, zero, suc, ◌+◌, ◌-◌, Bool, true, false, cond, List, [], ◌∷◌, ◌++◌, length, take, drop, get_or, refl, sym, ap, ap₂, ◌∙◌, arith, append_assoc}
use Rattle.std.specs.Prelude.{nat_eq, slice_index, replicate}
use Rattle.std.proofs.lemmas.List.{append-nil, length-append, length-replicate, drop_at, take_at, nil_from_length}
use Rattle.std.proofs.lemmas.Bool.{eqb-true}
use Rattle.dsc_base.specs.Region.{padded}
use Rattle.dsc_base.specs.declared.fault.Span.{Span}
use Rattle.linkedit_merge.specs.Parts.{eight_up, with_part, joined_behind, joined, end_with, end_behind, lens_of, span_behind, spans_behind, span_of, bytes_in}

pub eight_above : (n : ℕ) → n ≤ eight_up n
eight_above n = omega arith

length-padded : (before part : List ℕ) → length (padded (eight_up (length before)) before ++ part) ≡ eight_up (length before) + length part
length-padded before part =
    let zeros = eight_up (length before) - length before in
    omega (arith, length-append (padded (eight_up (length before)) before) part, length-append before (replicate zeros 0), length-replicate {A = ℕ} zeros 0, eight_above (length before))

long_with : (b : Bool) (before part : List ℕ)
    → length (cond b before (padded (eight_up (length before)) before ++ part)) ≡ cond b (length before) (eight_up (length before) + length part)
long_with true before part = refl
long_with false before part = length-padded before part

pub length-with_part : (before part : List ℕ) → length (with_part before part) ≡ end_with (length before) (length part)
unfolding with_part end_with
length-with_part before part = long_with (nat_eq (length part) 0) before part

pub length-joined : (before : List ℕ) (parts : List (List ℕ)) → length (joined_behind before parts) ≡ end_behind (length before) (lens_of parts)
unfolding joined_behind end_behind
length-joined before [] = refl
length-joined before (part ∷ parts) = length-joined (with_part before part) parts ∙ ap (λ (n : ℕ). end_behind n (lens_of parts)) (length-with_part before part)

pub joined-append : (before : List ℕ) (ps qs : List (List ℕ)) → joined_behind before (ps ++ qs) ≡ joined_behind (joined_behind before ps) qs
unfolding joined_behind
joined-append before [] qs = refl
joined-append before (p ∷ ps) qs = joined-append (with_part before p) ps qs

pub end-append : (before : ℕ) (ls ms : List ℕ) → end_behind before (ls ++ ms) ≡ end_behind (end_behind before ls) ms
unfolding end_behind
end-append before [] ms = refl
end-append before (l ∷ ls) ms = end-append (end_with before l) ls ms

pub end_with-rises : (before len : ℕ) → before ≤ end_with before len
unfolding end_with
end_with-rises before len = rises (nat_eq len 0)
  where
    rises : (b : Bool) → before ≤ cond b before (eight_up before + len)
    rises true = omega arith
    rises false = omega (arith, eight_above before)

pub end-rises : (before : ℕ) (lens : List ℕ) → before ≤ end_behind before lens
unfolding end_behind
end-rises before [] = omega arith
end-rises before (len ∷ lens) = omega (arith, end_with-rises before len, end-rises (end_with before len) lens)

-- what stands before the parts stays
padded_front : (b : Bool) (before part : List ℕ) → (rest : List ℕ) × (cond b before (padded (eight_up (length before)) before ++ part) ≡ before ++ rest)
padded_front true before part = ([], sym (append-nil before))
padded_front false before part =
    let zeros = replicate (eight_up (length before) - length before) 0 in
    (zeros ++ part, append_assoc before zeros part)

with_front : (before part : List ℕ) → (rest : List ℕ) × (with_part before part ≡ before ++ rest)
unfolding with_part
with_front before part = padded_front (nat_eq (length part) 0) before part

pub joined_front : (before : List ℕ) (parts : List (List ℕ)) → (rest : List ℕ) × (joined_behind before parts ≡ before ++ rest)
unfolding joined_behind
joined_front before [] = ([], sym (append-nil before))
joined_front before (part ∷ parts) =
    let first = with_front before part in
    let later = joined_front (with_part before part) parts in
    (first.0 ++ later.0, later.1 ∙ (ap (λ (l : List ℕ). l ++ later.0) first.1 ∙ append_assoc before first.0 later.0))

-- a part is read back where it stands
read_by : (b : Bool) (start : ℕ) (before part rest : List ℕ) → nat_eq (length part) 0 ≡ b
    → (let span : Span = cond b (record { at = 0; len = 0 }) (record { at = start + eight_up (length before); len = length part }) in bytes_in start (cond b before (padded (eight_up (length before)) before ++ part) ++ rest) span) ≡ part
read_by true start before part rest none = sym (nil_from_length part (eqb-true (length part) 0 none))
read_by false start before part rest some =
    let zeros = replicate (eight_up (length before) - length before) 0 in
    let at : start + eight_up (length before) - start ≡ eight_up (length before) = omega arith in
    let long : length (before ++ zeros) ≡ eight_up (length before) =
    omega (arith, length-append before zeros, length-replicate {A = ℕ} (eight_up (length before) - length before) 0, eight_above (length before)) in
    ap₂ (λ (n : ℕ) (l : List ℕ). take (length part) (drop n l)) at (append_assoc (before ++ zeros) part rest)
    ∙ (ap (λ (l : List ℕ). take (length part) l) (drop_at (before ++ zeros) (part ++ rest) (eight_up (length before)) long)
    ∙ take_at part rest (length part) refl)

read_here : (start : ℕ) (before part : List ℕ) (parts : List (List ℕ))
    → bytes_in start (joined_behind (with_part before part) parts) (span_behind start (length before) (length part)) ≡ part
unfolding with_part span_behind
read_here start before part parts =
    let later = joined_front (with_part before part) parts in
    ap (λ (l : List ℕ). bytes_in start l (span_behind start (length before) (length part))) later.1
    ∙ read_by (nat_eq (length part) 0) start before part later.0 refl

read_from : (start : ℕ) (before : List ℕ) (parts : List (List ℕ)) (n : ℕ) → n < length parts
    → bytes_in start (joined_behind before parts) (span_behind start (end_behind (length before) (take n (lens_of parts))) (slice_index (lens_of parts) n)) ≡ get_or parts n []
unfolding joined_behind end_behind
read_from start before [] n none = absurd (omega arith)
read_from start before (part ∷ parts) zero some = read_here start before part parts
read_from start before (part ∷ parts) (suc n) some =
    ap (λ (m : ℕ). bytes_in start (joined_behind (with_part before part) parts) (span_behind start (end_behind m (take n (lens_of parts))) (slice_index (lens_of parts) n))) (sym (length-with_part before part))
    ∙ read_from start (with_part before part) parts n (omega arith)

-- Part n of joined parts is what its range has.
pub part_read : (start : ℕ) (parts : List (List ℕ)) (n : ℕ) → n < length parts → bytes_in start (joined parts) (span_of start (lens_of parts) n) ≡ get_or parts n []
part_read start parts n within = read_from start [] parts n within

-- ranges of parts in turn
pub spans-append : (start before : ℕ) (ls ms : List ℕ) → spans_behind start before (ls ++ ms) ≡ spans_behind start before ls ++ spans_behind start (end_behind before ls) ms
unfolding spans_behind end_behind
spans-append start before [] ms = refl
spans-append start before (l ∷ ls) ms = ap (λ (ss : List Span). span_behind start before l ∷ ss) (spans-append start (end_with before l) ls ms)

pub length-spans : (start before : ℕ) (lens : List ℕ) → length (spans_behind start before lens) ≡ length lens
unfolding spans_behind
length-spans start before [] = refl
length-spans start before (len ∷ lens) = ap suc (length-spans start (end_with before len) lens)

spans-at : (start before : ℕ) (lens : List ℕ) (n : ℕ) (d : Span) → n < length lens → get_or (spans_behind start before lens) n d ≡ span_behind start (end_behind before (take n lens)) (slice_index lens n)
unfolding spans_behind end_behind
spans-at start before [] n d none = absurd (omega arith)
spans-at start before (len ∷ lens) zero d some = refl
spans-at start before (len ∷ lens) (suc n) d some = spans-at start (end_with before len) lens n d (omega arith)

-- the range of part n is the one at n
pub span-at : (start : ℕ) (lens : List ℕ) (n : ℕ) (d : Span) → n < length lens → get_or (spans_behind start 0 lens) n d ≡ span_of start lens n
span-at start lens n d within = spans-at start 0 lens n d within
