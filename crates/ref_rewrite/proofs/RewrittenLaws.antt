-- Laws of what a span of an image holds: how long it is, and which byte or number stands where.
use Rattle.std.proofs.Common.{◌≡◌, ◌≤◌, ◌<◌, ◌⊎◌, inl, inr, ℕ, zero, suc, ◌+◌, ◌-◌, Bool, true, false, cond, nat_le, List, [], ◌∷◌, ◌++◌, map, filter, take, drop, length, get_or, replicate, refl, sym, ap, subst, ◌∙◌, arith, length-append, length-drop, append_assoc}
use Rattle.std.proofs.lemmas.List.{get_or-take, get_or-drop, get_or-append_right, length-take-le, length-replicate}
use Rattle.std.proofs.Math.ListN.{get_or-append}
use Rattle.std.proofs.lemmas.Bool.{and_from, le-leb}
use Rattle.dsc_base.specs.declared.edits.Edit.{Edit}
use Rattle.dsc_base.specs.declared.fault.Span.{Span}
use Rattle.dsc_base.specs.Edits.{AllInside, AllFit, ApartFrom, AllApart, IsAmong}
use Rattle.dsc_base.proofs.EditLaws.{length-put_all, get_or-put_all_apart}
use Rattle.ref_rewrite.specs.Plans.{Part, Plan, header_of, IsInside}
use Rattle.ref_rewrite.specs.Rewritten.{lies_in, edits_in, parts_in, put_bytes, put_parts, rewritten}
use Rattle.ref_rewrite.proofs.SpanLaws.{inside, put_parts_in-append, part_within}

-- the bytes from an offset, as many as width, share none with a part
abbrev pub ClearOf : ℕ → ℕ → List Part → Type 0
ClearOf at width [] = Unit {0}
ClearOf at width (c ∷ cs) = ((at + width ≤ c.at) ⊎ (c.at + length c.bytes ≤ at)) × ClearOf at width cs

-- each part lies wholly in the first n bytes
abbrev AreInside : ℕ → List Part → Type 0
AreInside n [] = Unit {0}
AreInside n (c ∷ cs) = (c.at + length c.bytes ≤ n) × AreInside n cs

-- what bytes written over others leave, byte by byte
length-put_bytes : (b new : List ℕ) (at : ℕ) → at + length new ≤ length b → length (put_bytes b at new) ≡ length b
unfolding put_bytes
length-put_bytes b new at within =
    omega (arith, length-append (take at b) (new ++ drop (at + length new) b), length-append new (drop (at + length new) b), length-take-le at b (omega arith), length-drop (at + length new) b)

put_bytes-below : (b new : List ℕ) (at k : ℕ) → at ≤ length b → k < at → get_or (put_bytes b at new) k 0 ≡ get_or b k 0
unfolding put_bytes
put_bytes-below b new at k le lt =
    let len : length (take at b) ≡ at = length-take-le at b le in
    get_or-append (take at b) (new ++ drop (at + length new) b) 0 k (omega arith) ∙ get_or-take at b k 0 lt

put_bytes-within : (b new : List ℕ) (at k : ℕ) → at ≤ length b → k < length new → get_or (put_bytes b at new) (at + k) 0 ≡ get_or new k 0
unfolding put_bytes
put_bytes-within b new at k le lt =
    get_or-append_right (take at b) (new ++ drop (at + length new) b) at (at + k) 0 (length-take-le at b le) (omega arith)
    ∙ (ap (λ (m : ℕ). get_or (new ++ drop (at + length new) b) m 0) (omega arith)
    ∙ get_or-append new (drop (at + length new) b) 0 k lt)

put_bytes-above : (b new : List ℕ) (at k : ℕ) → at ≤ length b → at + length new ≤ k → get_or (put_bytes b at new) k 0 ≡ get_or b k 0
unfolding put_bytes
put_bytes-above b new at k le lt =
    get_or-append_right (take at b) (new ++ drop (at + length new) b) at k 0 (length-take-le at b le) (omega arith)
    ∙ (get_or-append_right new (drop (at + length new) b) (length new) (k - at) 0 refl (omega arith)
    ∙ (get_or-drop (at + length new) b (k - at - length new) 0 ∙ ap (λ (m : ℕ). get_or b m 0) (omega arith)))

-- after one part the others still lie inside
AreInside-put : (c : Part) (cs : List Part) (b : List ℕ) → AreInside (length b) (c ∷ cs) → AreInside (length (put_bytes b c.at c.bytes)) cs
AreInside-put c cs b within = subst (λ (n : ℕ). AreInside n cs) (sym (length-put_bytes b c.bytes c.at within.0)) within.1

length-put_parts : (cs : List Part) (b : List ℕ) → AreInside (length b) cs → length (put_parts cs b) ≡ length b
unfolding put_parts
length-put_parts [] b within = refl
length-put_parts (c ∷ cs) b within =
    length-put_parts cs (put_bytes b c.at c.bytes) (AreInside-put c cs b within) ∙ length-put_bytes b c.bytes c.at within.0

-- a byte in no part is unchanged
put_parts-clear : (cs : List Part) (b : List ℕ) (i : ℕ) → AreInside (length b) cs → ClearOf i 1 cs → get_or (put_parts cs b) i 0 ≡ get_or b i 0
unfolding put_parts
put_parts-clear [] b i within clear = refl
put_parts-clear (c ∷ cs) b i within (inl before, rest) =
    put_parts-clear cs (put_bytes b c.at c.bytes) i (AreInside-put c cs b within) rest
    ∙ put_bytes-below b c.bytes c.at i (omega (arith, within.0)) (omega arith)
put_parts-clear (c ∷ cs) b i within (inr behind, rest) =
    put_parts-clear cs (put_bytes b c.at c.bytes) i (AreInside-put c cs b within) rest
    ∙ put_bytes-above b c.bytes c.at i (omega (arith, within.0)) behind

-- what is counted from the start of a span lies inside it
parts_inside : (s : Span) (cs : List Part) → AreInside s.len (parts_in s cs)
parts_inside s [] = tt
parts_inside s (c ∷ cs) =
    let shift : Part → Part = λ x. record { at = x.at - s.at; bytes = x.bytes } in
    let rest : List Part = filter (λ x. lies_in s x.at (length x.bytes)) cs in
    elim (lies_in s c.at (length c.bytes)) as (λ t. lies_in s c.at (length c.bytes) ≡ t → AreInside s.len (map shift (cond t (c ∷ rest) rest))) [
      | true ↦ λ is. let within : IsInside s c.at (length c.bytes) = inside s c.at (length c.bytes) is in (omega (arith, within.0, within.1), parts_inside s cs)
      | false ↦ λ is. parts_inside s cs
    ] refl

pub edits_inside : (s : Span) (es : List Edit) → AllInside s.len (edits_in s es)
edits_inside s [] = tt
edits_inside s (e ∷ es) =
    let shift : Edit → Edit = λ x. record { at = x.at - s.at; width = x.width; value = x.value } in
    let rest : List Edit = filter (λ x. lies_in s x.at x.width) es in
    elim (lies_in s e.at e.width) as (λ t. lies_in s e.at e.width ≡ t → AllInside s.len (map shift (cond t (e ∷ rest) rest))) [
      | true ↦ λ is. let within : IsInside s e.at e.width = inside s e.at e.width is in (omega (arith, within.0, within.1), edits_inside s es)
      | false ↦ λ is. edits_inside s es
    ] refl

-- what keeps clear of parts or edits keeps clear of those in a span
parts_clear : (s : Span) (cs : List Part) (at w : ℕ) → s.at ≤ at → ClearOf at w cs → ClearOf (at - s.at) w (parts_in s cs)
parts_clear s [] at w le clear = tt
parts_clear s (c ∷ cs) at w le clear =
    let shift : Part → Part = λ x. record { at = x.at - s.at; bytes = x.bytes } in
    let rest : List Part = filter (λ x. lies_in s x.at (length x.bytes)) cs in
    elim (lies_in s c.at (length c.bytes)) as (λ t. lies_in s c.at (length c.bytes) ≡ t → ClearOf (at - s.at) w (map shift (cond t (c ∷ rest) rest))) [
      | true ↦ λ is.
          let within : IsInside s c.at (length c.bytes) = inside s c.at (length c.bytes) is in
          (elim clear.0 [ inl before ↦ inl (omega (arith, within.0)) | inr behind ↦ inr (omega (arith, within.0)) ], parts_clear s cs at w le clear.1)
      | false ↦ λ is. parts_clear s cs at w le clear.1
    ] refl

pub edits_clear : (s : Span) (es : List Edit) (at w : ℕ) → s.at ≤ at → ApartFrom at w es → ApartFrom (at - s.at) w (edits_in s es)
edits_clear s [] at w le clear = tt
edits_clear s (e ∷ es) at w le clear =
    let shift : Edit → Edit = λ x. record { at = x.at - s.at; width = x.width; value = x.value } in
    let rest : List Edit = filter (λ x. lies_in s x.at x.width) es in
    elim (lies_in s e.at e.width) as (λ t. lies_in s e.at e.width ≡ t → ApartFrom (at - s.at) w (map shift (cond t (e ∷ rest) rest))) [
      | true ↦ λ is.
          let within : IsInside s e.at e.width = inside s e.at e.width is in
          (elim clear.0 [ inl before ↦ inl (omega (arith, within.0)) | inr behind ↦ inr (omega (arith, within.0)) ], edits_clear s es at w le clear.1)
      | false ↦ λ is. edits_clear s es at w le clear.1
    ] refl

pub edits_apart : (s : Span) (es : List Edit) → AllApart es → AllApart (edits_in s es)
edits_apart s [] apart = tt
edits_apart s (e ∷ es) apart =
    let shift : Edit → Edit = λ x. record { at = x.at - s.at; width = x.width; value = x.value } in
    let rest : List Edit = filter (λ x. lies_in s x.at x.width) es in
    elim (lies_in s e.at e.width) as (λ t. lies_in s e.at e.width ≡ t → AllApart (map shift (cond t (e ∷ rest) rest))) [
      | true ↦ λ is.
          let within : IsInside s e.at e.width = inside s e.at e.width is in
          (edits_clear s es e.at e.width within.0 apart.0, edits_apart s es apart.1)
      | false ↦ λ is. edits_apart s es apart.1
    ] refl

pub edits_fit : (s : Span) (es : List Edit) → AllFit es → AllFit (edits_in s es)
edits_fit s [] fit = tt
edits_fit s (e ∷ es) fit =
    let shift : Edit → Edit = λ x. record { at = x.at - s.at; width = x.width; value = x.value } in
    let rest : List Edit = filter (λ x. lies_in s x.at x.width) es in
    elim (lies_in s e.at e.width) as (λ t. AllFit (map shift (cond t (e ∷ rest) rest))) [
      | true ↦ (fit.0, edits_fit s es fit.1)
      | false ↦ edits_fit s es fit.1
    ]

-- an edit that lies in the span is among those in it
lies : (s : Span) (at n : ℕ) → IsInside s at n → lies_in s at n ≡ true
lies s at n within = and_from (nat_le s.at at) (nat_le (at + n) (s.at + s.len)) (le-leb s.at at within.0) (le-leb (at + n) (s.at + s.len) within.1)

pub among_in : (s : Span) (x : Edit) (es : List Edit) → IsInside s x.at x.width → IsAmong x es → IsAmong (record { at = x.at - s.at; width = x.width; value = x.value }) (edits_in s es)
among_in s x [] within among = absurd among
among_in s x (e ∷ es) within (inl is) =
    let shift : Edit → Edit = λ y. record { at = y.at - s.at; width = y.width; value = y.value } in
    let rest : List Edit = filter (λ y. lies_in s y.at y.width) es in
    let test : lies_in s e.at e.width ≡ true = subst (λ (y : Edit). lies_in s y.at y.width ≡ true) is (lies s x.at x.width within) in
    subst (λ (t : Bool). IsAmong (shift x) (map shift (cond t (e ∷ rest) rest))) (sym test) (inl (ap shift is))
among_in s x (e ∷ es) within (inr later) =
    let shift : Edit → Edit = λ y. record { at = y.at - s.at; width = y.width; value = y.value } in
    let rest : List Edit = filter (λ y. lies_in s y.at y.width) es in
    let there : IsAmong (shift x) (edits_in s es) = among_in s x es within later in
    elim (lies_in s e.at e.width) as (λ t. IsAmong (shift x) (map shift (cond t (e ∷ rest) rest))) [ true ↦ inr there | false ↦ there ]

-- the bytes of a span before the edits
unfoldable pub laid : Plan → Span → List ℕ
laid p s = put_parts (parts_in s (p.copies ++ header_of p ∷ [])) (replicate s.len 0)

pub length-laid : (p : Plan) (s : Span) → length (laid p s) ≡ s.len
unfolding laid
length-laid p s =
    let zeros : length (replicate s.len 0) ≡ s.len = length-replicate {A = ℕ} s.len 0 in
    length-put_parts (parts_in s (p.copies ++ header_of p ∷ [])) (replicate s.len 0)
    (subst (λ (n : ℕ). AreInside n (parts_in s (p.copies ++ header_of p ∷ []))) (sym zeros) (parts_inside s (p.copies ++ header_of p ∷ []))) ∙ zeros

laid_edits : (p : Plan) (s : Span) → AllInside (length (laid p s)) (edits_in s p.edits)
laid_edits p s = subst (λ (n : ℕ). AllInside n (edits_in s p.edits)) (sym (length-laid p s)) (edits_inside s p.edits)

-- a span has as many bytes as it is long
pub length-rewritten : (p : Plan) (s : Span) → length (rewritten p s) ≡ s.len
unfolding rewritten laid
length-rewritten p s = length-put_all (edits_in s p.edits) (laid p s) (laid_edits p s) ∙ length-laid p s

-- a byte in no edit is that of the parts
byte_laid : (p : Plan) (s : Span) (at : ℕ) → s.at ≤ at → ApartFrom at 1 p.edits → get_or (rewritten p s) (at - s.at) 0 ≡ get_or (laid p s) (at - s.at) 0
unfolding rewritten laid
byte_laid p s at le apart = get_or-put_all_apart (edits_in s p.edits) (laid p s) (at - s.at) (laid_edits p s) (edits_clear s p.edits at 1 le apart)

ClearOf-append : (at w : ℕ) (xs ys : List Part) → ClearOf at w xs → ClearOf at w ys → ClearOf at w (xs ++ ys)
ClearOf-append at w [] ys front back = back
ClearOf-append at w (x ∷ xs) ys front back = (front.0, ClearOf-append at w xs ys front.1 back)

get_or-zeros : (n i : ℕ) → get_or (replicate {A = ℕ} n 0) i 0 ≡ 0
get_or-zeros zero i = refl
get_or-zeros (suc n) zero = refl
get_or-zeros (suc n) (suc i) = get_or-zeros n i

-- a byte of a part and of none behind it
part_byte : (s : Span) (front : List Part) (c : Part) (back : List Part) (b : List ℕ) (at : ℕ) → length b ≡ s.len → IsInside s c.at (length c.bytes) → c.at ≤ at → at < c.at + length c.bytes → ClearOf at 1 back → get_or (put_parts (parts_in s (front ++ c ∷ back)) b) (at - s.at) 0 ≡ get_or c.bytes (at - c.at) 0
part_byte s front c back b at len within le lt clear =
    let b1 : List ℕ = put_parts (parts_in s front) b in
    let len1 : length b1 ≡ s.len = length-put_parts (parts_in s front) b (subst (λ (n : ℕ). AreInside n (parts_in s front)) (sym len) (parts_inside s front)) ∙ len in
    let b2 : List ℕ = put_bytes b1 (c.at - s.at) c.bytes in
    let len2 : length b2 ≡ s.len = length-put_bytes b1 c.bytes (c.at - s.at) (omega (arith, len1, within.0, within.1)) ∙ len1 in
    let steps : put_parts (parts_in s (front ++ c ∷ back)) b ≡ put_parts (parts_in s back) b2 =
    put_parts_in-append s front (c ∷ back) b
    ∙ (put_parts_in-append s (c ∷ []) back b1
    ∙ ap (put_parts (parts_in s back)) (part_within s c b1 (lies s c.at (length c.bytes) within))) in
    let place : at - s.at ≡ c.at - s.at + (at - c.at) = omega (arith, within.0) in
    ap (λ (l : List ℕ). get_or l (at - s.at) 0) steps
    ∙ (put_parts-clear (parts_in s back) b2 (at - s.at) (subst (λ (n : ℕ). AreInside n (parts_in s back)) (sym len2) (parts_inside s back)) (parts_clear s back at 1 (omega (arith, within.0)) clear)
    ∙ (ap (λ (m : ℕ). get_or b2 m 0) place
    ∙ put_bytes-within b1 c.bytes (c.at - s.at) (at - c.at) (omega (arith, len1, within.0, within.1)) (omega arith)))

-- a byte of a copy that lies in the span, and in no copy behind it, nor in the header or an edit, is the copy's
pub byte_copied : (p : Plan) (s : Span) (front : List Part) (c : Part) (back : List Part) (at : ℕ) → p.copies ≡ front ++ c ∷ back → IsInside s c.at (length c.bytes) → c.at ≤ at → at < c.at + length c.bytes → ClearOf at 1 back → ClearOf at 1 (header_of p ∷ []) → ApartFrom at 1 p.edits → get_or (rewritten p s) (at - s.at) 0 ≡ get_or c.bytes (at - c.at) 0
unfolding laid
byte_copied p s front c back at is within le lt behind header apart =
    let zeros : length (replicate s.len 0) ≡ s.len = length-replicate {A = ℕ} s.len 0 in
    let order : p.copies ++ header_of p ∷ [] ≡ front ++ c ∷ (back ++ header_of p ∷ []) =
    ap (λ (l : List Part). l ++ header_of p ∷ []) is ∙ append_assoc front (c ∷ back) (header_of p ∷ []) in
    byte_laid p s at (omega (arith, within.0)) apart
    ∙ (ap (λ (l : List Part). get_or (put_parts (parts_in s l) (replicate s.len 0)) (at - s.at) 0) order
    ∙ part_byte s front c (back ++ header_of p ∷ []) (replicate s.len 0) at zeros within le lt (ClearOf-append at 1 back (header_of p ∷ []) behind header))

-- a byte of the header where it lies in the span, and in no edit, is the header's
pub byte_of_header : (p : Plan) (s : Span) (at : ℕ) → IsInside s p.header_at (length p.header) → p.header_at ≤ at → at < p.header_at + length p.header → ApartFrom at 1 p.edits → get_or (rewritten p s) (at - s.at) 0 ≡ get_or p.header (at - p.header_at) 0
unfolding laid
byte_of_header p s at within le lt apart =
    let zeros : length (replicate s.len 0) ≡ s.len = length-replicate {A = ℕ} s.len 0 in
    byte_laid p s at (omega (arith, within.0)) apart
    ∙ part_byte s p.copies (header_of p) [] (replicate s.len 0) at zeros within le lt tt

-- what keeps clear of the whole keeps clear of a part
pub ClearOf-part : (at w i u : ℕ) (cs : List Part) → at ≤ i → i + u ≤ at + w → ClearOf at w cs → ClearOf i u cs
ClearOf-part at w i u [] le within clear = tt
ClearOf-part at w i u (c ∷ cs) le within (inl before, rest) = (inl (omega arith), ClearOf-part at w i u cs le within rest)
ClearOf-part at w i u (c ∷ cs) le within (inr behind, rest) = (inr (omega arith), ClearOf-part at w i u cs le within rest)
