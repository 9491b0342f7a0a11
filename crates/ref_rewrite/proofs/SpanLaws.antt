-- Laws of what is written into one span: one part or edit after another.
use Rattle.std.proofs.Common.{◌≡◌, ◌≤◌, ◌<◌, ℕ, zero, suc, ◌+◌, ◌-◌, ◌^◌, Bool, true, false, cond, nat_le, List, [], ◌∷◌, ◌++◌, map, filter, take, drop, length, get_or, replicate, refl, sym, ap, ap₂, ◌∙◌, arith, append_assoc}
use Rattle.std.proofs.lemmas.List.{map-append, drop_all, take_all}
use Rattle.std.proofs.lemmas.List.Elements.{filter-append}
use Rattle.std.proofs.lemmas.Slice.{put_mid-paste}
use borrow.Rule.Slice.PartMut.{put_mid}
use Rattle.std.proofs.lemmas.Bool.{and_parts, leb-true}
use Rattle.std.proofs.Math.Seq.{drop-cons}
use Rattle.dsc_base.specs.declared.edits.Edit.{Edit}
use Rattle.dsc_base.specs.declared.fault.Span.{Span}
use Rattle.dsc_base.specs.Numbers.{put_number}
use Rattle.dsc_base.specs.Edits.{put_all, AllFit}
use Rattle.dsc_base.proofs.EditLaws.{put_all-append}
use Rattle.ref_rewrite.specs.Plans.{Part, Plan, header_of, IsInside}
use Rattle.ref_rewrite.specs.Rewritten.{lies_in, edits_in, parts_in, put_bytes, put_parts, rewritten}

-- what lies in a span by the test lies in it
pub inside : (s : Span) (at n : ℕ) → lies_in s at n ≡ true → IsInside s at n
inside s at n is =
    let parts : (nat_le s.at at ≡ true) × (nat_le (at + n) (s.at + s.len) ≡ true) = and_parts (nat_le s.at at) (nat_le (at + n) (s.at + s.len)) is in
    (leb-true s.at at parts.0, leb-true (at + n) (s.at + s.len) parts.1)

pub put_parts-append : (xs ys : List Part) (b : List ℕ) → put_parts (xs ++ ys) b ≡ put_parts ys (put_parts xs b)
unfolding put_parts
put_parts-append [] ys b = refl
put_parts-append (c ∷ cs) ys b = put_parts-append cs ys (put_bytes b c.at c.bytes)

pub parts_in-append : (s : Span) (xs ys : List Part) → parts_in s (xs ++ ys) ≡ parts_in s xs ++ parts_in s ys
parts_in-append s xs ys =
    let test : Part → Bool = λ c. lies_in s c.at (length c.bytes) in
    let shift : Part → Part = λ c. record { at = c.at - s.at; bytes = c.bytes } in
    ap (map shift) (filter-append test xs ys) ∙ map-append shift (filter test xs) (filter test ys)

pub edits_in-append : (s : Span) (xs ys : List Edit) → edits_in s (xs ++ ys) ≡ edits_in s xs ++ edits_in s ys
edits_in-append s xs ys =
    let test : Edit → Bool = λ e. lies_in s e.at e.width in
    let shift : Edit → Edit = λ e. record { at = e.at - s.at; width = e.width; value = e.value } in
    ap (map shift) (filter-append test xs ys) ∙ map-append shift (filter test xs) (filter test ys)

pub put_parts_in-append : (s : Span) (xs ys : List Part) (b : List ℕ) → put_parts (parts_in s (xs ++ ys)) b ≡ put_parts (parts_in s ys) (put_parts (parts_in s xs) b)
put_parts_in-append s xs ys b =
    ap (λ (cs : List Part). put_parts cs b) (parts_in-append s xs ys) ∙ put_parts-append (parts_in s xs) (parts_in s ys) b

pub put_edits_in-append : (s : Span) (xs ys : List Edit) (b : List ℕ) → put_all (edits_in s (xs ++ ys)) b ≡ put_all (edits_in s ys) (put_all (edits_in s xs) b)
put_edits_in-append s xs ys b =
    ap (λ (es : List Edit). put_all es b) (edits_in-append s xs ys) ∙ put_all-append (edits_in s xs) (edits_in s ys) b

-- the part at an index first, then those behind it
pub put_parts_in-drop : (s : Span) (cs : List Part) (i : ℕ) (d : Part) (b : List ℕ) → i < length cs → put_parts (parts_in s (drop i cs)) b ≡ put_parts (parts_in s (drop (i + 1) cs)) (put_parts (parts_in s (get_or cs i d ∷ [])) b)
put_parts_in-drop s cs i d b lt =
    let one : suc i ≡ i + 1 = omega arith in
    let next : drop i cs ≡ (get_or cs i d ∷ []) ++ drop (i + 1) cs = drop-cons cs i d lt ∙ ap (λ (n : ℕ). get_or cs i d ∷ drop n cs) one in
    ap (λ (l : List Part). put_parts (parts_in s l) b) next ∙ put_parts_in-append s (get_or cs i d ∷ []) (drop (i + 1) cs) b

pub put_edits_in-drop : (s : Span) (es : List Edit) (i : ℕ) (d : Edit) (b : List ℕ) → i < length es → put_all (edits_in s (drop i es)) b ≡ put_all (edits_in s (drop (i + 1) es)) (put_all (edits_in s (get_or es i d ∷ [])) b)
put_edits_in-drop s es i d b lt =
    let one : suc i ≡ i + 1 = omega arith in
    let next : drop i es ≡ (get_or es i d ∷ []) ++ drop (i + 1) es = drop-cons es i d lt ∙ ap (λ (n : ℕ). get_or es i d ∷ drop n es) one in
    ap (λ (l : List Edit). put_all (edits_in s l) b) next ∙ put_edits_in-append s (get_or es i d ∷ []) (drop (i + 1) es) b

-- a copy into a part of the bytes
pub put_mid-put_bytes : (at n : ℕ) (b written new : List ℕ) → written ≡ new → length new ≡ n → put_mid at n b written ≡ put_bytes b at new
unfolding put_bytes
put_mid-put_bytes at n b written new same len =
    put_mid-paste at n b written new (length new) same len refl
    ∙ (ap (λ (l : List ℕ). (take at b ++ l) ++ drop (at + length new) b) (take_all (length new) new (omega arith))
    ∙ append_assoc (take at b) new (drop (at + length new) b))

-- one part that lies in the span, and one that doesn't
pub part_within : (s : Span) (c : Part) (b : List ℕ) → lies_in s c.at (length c.bytes) ≡ true → put_parts (parts_in s (c ∷ [])) b ≡ put_bytes b (c.at - s.at) c.bytes
unfolding put_parts
part_within s c b is =
    let shift : Part → Part = λ x. record { at = x.at - s.at; bytes = x.bytes } in
    ap (λ (t : Bool). put_parts (map shift (cond t (c ∷ []) [])) b) is

pub part_without : (s : Span) (c : Part) (b : List ℕ) → lies_in s c.at (length c.bytes) ≡ false → put_parts (parts_in s (c ∷ [])) b ≡ b
unfolding put_parts
part_without s c b is =
    let shift : Part → Part = λ x. record { at = x.at - s.at; bytes = x.bytes } in
    ap (λ (t : Bool). put_parts (map shift (cond t (c ∷ []) [])) b) is

pub edit_within : (s : Span) (e : Edit) (b : List ℕ) → lies_in s e.at e.width ≡ true → put_all (edits_in s (e ∷ [])) b ≡ put_number e.width b (e.at - s.at) e.value
unfolding put_all
edit_within s e b is =
    let shift : Edit → Edit = λ x. record { at = x.at - s.at; width = x.width; value = x.value } in
    ap (λ (t : Bool). put_all (map shift (cond t (e ∷ []) [])) b) is

pub edit_without : (s : Span) (e : Edit) (b : List ℕ) → lies_in s e.at e.width ≡ false → put_all (edits_in s (e ∷ [])) b ≡ b
unfolding put_all
edit_without s e b is =
    let shift : Edit → Edit = λ x. record { at = x.at - s.at; width = x.width; value = x.value } in
    ap (λ (t : Bool). put_all (map shift (cond t (e ∷ []) [])) b) is

-- one turn of a loop over the parts: what those behind leave is still what all of them leave
pub parts_turn : (s : Span) (cs : List Part) (i : ℕ) (x : Part) (b now whole : List ℕ) → i < length cs → x ≡ get_or cs i x → put_parts (parts_in s (drop i cs)) b ≡ whole → now ≡ put_parts (parts_in s (x ∷ [])) b → put_parts (parts_in s (drop (i + 1) cs)) now ≡ whole
parts_turn s cs i x b now whole lt is so_far put =
    ap (put_parts (parts_in s (drop (i + 1) cs))) (put ∙ ap (λ (y : Part). put_parts (parts_in s (y ∷ [])) b) is)
    ∙ (sym (put_parts_in-drop s cs i x b lt) ∙ so_far)

pub parts_end : (s : Span) (cs : List Part) (i : ℕ) (b whole : List ℕ) → length cs ≤ i → put_parts (parts_in s (drop i cs)) b ≡ whole → b ≡ whole
unfolding put_parts
parts_end s cs i b whole le so_far = ap (λ (l : List Part). put_parts (parts_in s l) b) (sym (drop_all i cs le)) ∙ so_far

pub edits_turn : (s : Span) (es : List Edit) (i : ℕ) (d : Edit) (b now whole : List ℕ) → i < length es → put_all (edits_in s (drop i es)) b ≡ whole → now ≡ put_all (edits_in s (get_or es i d ∷ [])) b → put_all (edits_in s (drop (i + 1) es)) now ≡ whole
edits_turn s es i d b now whole lt so_far put =
    ap (put_all (edits_in s (drop (i + 1) es))) put ∙ (sym (put_edits_in-drop s es i d b lt) ∙ so_far)

pub edits_end : (s : Span) (es : List Edit) (i : ℕ) (b whole : List ℕ) → length es ≤ i → put_all (edits_in s (drop i es)) b ≡ whole → b ≡ whole
unfolding put_all
edits_end s es i b whole le so_far = ap (λ (l : List Edit). put_all (edits_in s l) b) (sym (drop_all i es le)) ∙ so_far

pub fits_at : (es : List Edit) (i : ℕ) (d : Edit) → i < length es → AllFit es → (get_or es i d).value < 256 ^ (get_or es i d).width
fits_at [] i d lt fit = absurd (omega (arith, lt))
fits_at (e ∷ es) zero d lt fit = fit.0
fits_at (e ∷ es) (suc i) d lt fit = fits_at es i d (omega (arith, lt)) fit.1

-- zeros, then the copies, the header and the edits, are what the plan says of the span
pub image_bytes : (p : Plan) (s : Span) (copies : List Part) (header : List ℕ) (edits : List Edit) (blank copied headed edited : List ℕ) → copies ≡ p.copies → header ≡ p.header → edits ≡ p.edits → blank ≡ replicate s.len 0 → copied ≡ put_parts (parts_in s copies) blank → headed ≡ put_parts (parts_in s (record { at = p.header_at; bytes = header } ∷ [])) copied → edited ≡ put_all (edits_in s edits) headed → edited ≡ rewritten p s
unfolding rewritten
image_bytes p s copies header edits blank copied headed edited is_copies is_header is_edits zeros copy head edit =
    let parts : copied ≡ put_parts (parts_in s p.copies) (replicate s.len 0) =
    copy ∙ ap₂ (λ (cs : List Part) (b : List ℕ). put_parts (parts_in s cs) b) is_copies zeros in
    let all : headed ≡ put_parts (parts_in s (p.copies ++ header_of p ∷ [])) (replicate s.len 0) =
    head ∙ (ap₂ (λ (h b : List ℕ). put_parts (parts_in s (record { at = p.header_at; bytes = h } ∷ [])) b) is_header parts
    ∙ sym (put_parts_in-append s p.copies (header_of p ∷ []) (replicate s.len 0))) in
    edit ∙ ap₂ (λ (es : List Edit) (b : List ℕ). put_all (edits_in s es) b) is_edits all
