-- Parts put one behind the other in a file, and those of a linkedit that begins where the file has whole pages.
use Rattle.std.proofs.Common.{◌≡◌, ℕ, ◌+◌, ◌-◌, ◌%◌, Bool, true, false, List, [], ◌∷◌, ◌++◌, length, replicate, refl, sym, ap, ap₂, ◌∙◌, arith, append_assoc, length-append, if◌then◌else◌}
use Rattle.std.specs.Prelude.{nat_eq}
use Rattle.std.proofs.lemmas.List.{map-append}
use Rattle.dsc_base.specs.Region.{padded}
use Rattle.dsc_base.specs.declared.fault.Span.{Span}
use Rattle.linkedit_merge.specs.Parts.{eight_up, with_part, joined_behind, end_with, end_behind, lens_of, span_behind, spans_behind}
use Rattle.linkedit_merge.proofs.PartLaws.{length-with_part, length-joined, joined-append, spans-append}
use Rattle.linkedit_merge.proofs.StreamLaws.{IsPut}

-- ---- parts that were put in turn

-- bytes get parts one after the other, and become others each time
abbrev pub ArePut : List ℕ → List (List ℕ) → List (List ℕ) → List Span → Type 0
ArePut before [] [] [] = Unit {0}
ArePut before (p ∷ ps) (b ∷ bs) (s ∷ ss) = IsPut 0 before p b s × ArePut b ps bs ss
ArePut before ps bs ss = ⊥

abbrev pub last_of : List ℕ → List (List ℕ) → List ℕ
last_of before [] = before
last_of before (b ∷ bs) = last_of b bs

pub put_bytes : (before : List ℕ) (ps bs : List (List ℕ)) (ss : List Span) → ArePut before ps bs ss → last_of before bs ≡ joined_behind before ps
unfolding joined_behind
put_bytes before [] [] [] put = refl
put_bytes before [] [] (s ∷ ss) put = absurd put
put_bytes before [] (b ∷ bs) ss put = absurd put
put_bytes before (p ∷ ps) [] ss put = absurd put
put_bytes before (p ∷ ps) (b ∷ bs) [] put = absurd put
put_bytes before (p ∷ ps) (b ∷ bs) (s ∷ ss) put = put_bytes b ps bs ss put.1 ∙ ap (λ (l : List ℕ). joined_behind l ps) put.0.bytes

pub put_spans : (before : List ℕ) (ps bs : List (List ℕ)) (ss : List Span) → ArePut before ps bs ss → ss ≡ spans_behind 0 (length before) (lens_of ps)
unfolding spans_behind
put_spans before [] [] [] put = refl
put_spans before [] [] (s ∷ ss) put = absurd put
put_spans before [] (b ∷ bs) ss put = absurd put
put_spans before (p ∷ ps) [] ss put = absurd put
put_spans before (p ∷ ps) (b ∷ bs) [] put = absurd put
put_spans before (p ∷ ps) (b ∷ bs) (s ∷ ss) put =
    let long : length b ≡ end_with (length before) (length p) = ap (λ (l : List ℕ). length l) put.0.bytes ∙ length-with_part before p in
    ap₂ (λ (r : Span) (rs : List Span). r ∷ rs) put.0.span (put_spans b ps bs ss put.1 ∙ ap (λ (n : ℕ). spans_behind 0 n (lens_of ps)) long)

-- those of two groups
pub both_bytes : (before one two : List ℕ) (ps qs : List (List ℕ)) → one ≡ joined_behind before ps → two ≡ joined_behind one qs → two ≡ joined_behind before (ps ++ qs)
both_bytes before one two ps qs first second = second ∙ (ap (λ (l : List ℕ). joined_behind l qs) first ∙ sym (joined-append before ps qs))

pub both_spans : (before one : List ℕ) (ps qs : List (List ℕ)) (ss ts : List Span) → one ≡ joined_behind before ps → ss ≡ spans_behind 0 (length before) (lens_of ps) → ts ≡ spans_behind 0 (length one) (lens_of qs)
    → ss ++ ts ≡ spans_behind 0 (length before) (lens_of (ps ++ qs))
both_spans before one ps qs ss ts put first second =
    let end : length one ≡ end_behind (length before) (lens_of ps) = ap (λ (l : List ℕ). length l) put ∙ length-joined before ps in
    ap₂ (λ (l r : List Span). l ++ r) first (second ∙ ap (λ (n : ℕ). spans_behind 0 n (lens_of qs)) end)
    ∙ (sym (spans-append 0 (length before) (lens_of ps) (lens_of qs)) ∙ ap (λ (l : List ℕ). spans_behind 0 (length before) l) (sym (map-append (λ (p : List ℕ). length p) ps qs)))

-- ---- behind whole pages

room : (base l : List ℕ) → length base % 8 ≡ 0 → eight_up (length (base ++ l)) - length (base ++ l) ≡ eight_up (length l) - length l
room base l whole = let long = length-append base l in omega (arith, long, whole)

padded_behind : (base l : List ℕ) → length base % 8 ≡ 0 → padded (eight_up (length (base ++ l))) (base ++ l) ≡ base ++ padded (eight_up (length l)) l
padded_behind base l whole =
    ap (λ (n : ℕ). (base ++ l) ++ replicate n 0) (room base l whole) ∙ append_assoc base l (replicate (eight_up (length l) - length l) 0)

part_by : (b : Bool) (base l part : List ℕ) → length base % 8 ≡ 0
    → (if b then base ++ l else padded (eight_up (length (base ++ l))) (base ++ l) ++ part) ≡ base ++ (if b then l else padded (eight_up (length l)) l ++ part)
part_by true base l part whole = refl
part_by false base l part whole = ap (λ (m : List ℕ). m ++ part) (padded_behind base l whole) ∙ append_assoc base (padded (eight_up (length l)) l) part

part_behind : (base l part : List ℕ) → length base % 8 ≡ 0 → with_part (base ++ l) part ≡ base ++ with_part l part
unfolding with_part
part_behind base l part whole = part_by (nat_eq (length part) 0) base l part whole

pub joined_base : (base l : List ℕ) (ps : List (List ℕ)) → length base % 8 ≡ 0 → joined_behind (base ++ l) ps ≡ base ++ joined_behind l ps
unfolding joined_behind
joined_base base l [] whole = refl
joined_base base l (p ∷ ps) whole = ap (λ (m : List ℕ). joined_behind m ps) (part_behind base l p whole) ∙ joined_base base (with_part l p) ps whole

span_by : (b : Bool) (base n len : ℕ) → base % 8 ≡ 0
    → ◌≡◌ {A = Span} (if b then record { at = 0; len = 0 } else record { at = 0 + eight_up (base + n); len = len }) (if b then record { at = 0; len = 0 } else record { at = base + eight_up n; len = len })
span_by true base n len whole = refl
span_by false base n len whole =
    let place : 0 + eight_up (base + n) ≡ base + eight_up n = omega (arith, whole) in
    ap (λ (m : ℕ). let s : Span = record { at = m; len = len } in s) place

span_base : (base n len : ℕ) → base % 8 ≡ 0 → span_behind 0 (base + n) len ≡ span_behind base n len
unfolding span_behind
span_base base n len whole = span_by (nat_eq len 0) base n len whole

end_by : (b : Bool) (base n len : ℕ) → base % 8 ≡ 0 → (if b then base + n else eight_up (base + n) + len) ≡ base + (if b then n else eight_up n + len)
end_by true base n len whole = refl
end_by false base n len whole = omega (arith, whole)

end_base : (base n len : ℕ) → base % 8 ≡ 0 → end_with (base + n) len ≡ base + end_with n len
unfolding end_with
end_base base n len whole = end_by (nat_eq len 0) base n len whole

pub spans_base : (base n : ℕ) (lens : List ℕ) → base % 8 ≡ 0 → spans_behind 0 (base + n) lens ≡ spans_behind base n lens
unfolding spans_behind
spans_base base n [] whole = refl
spans_base base n (len ∷ lens) whole =
    ap₂ (λ (s : Span) (ss : List Span). s ∷ ss) (span_base base n len whole)
    (ap (λ (m : ℕ). spans_behind 0 m lens) (end_base base n len whole) ∙ spans_base base (end_with n len) lens whole)
