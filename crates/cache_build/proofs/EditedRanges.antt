-- The ranges of a set with their words set: how long they are, and their bytes in words and apart from all words.
use Rattle.std.proofs.Common.{◌≡◌, ◌≤◌, ◌<◌, ◌⊎◌, ℕ, ◌+◌, ◌-◌, ◌%◌, ◌^◌, Bool, false, ◌||◌, if◌then◌else◌, nat_eq, List, [], ◌∷◌, map, length, get_or, refl, sym, ap, ap₂, ◌∙◌, subst, arith, inl, inr}
use Rattle.std.specs.List.{list_any}
use Rattle.std.proofs.lemmas.Bool.{cases_eq, cond-false, eq-eqb, ne_eqb}
use Rattle.dsc_base.specs.declared.edits.Edit.{Edit}
use Rattle.dsc_base.specs.declared.fault.Span.{Span}
use Rattle.dsc_base.specs.Numbers.{little_bytes}
use Rattle.dsc_base.specs.Edits.{AllInside, ApartFrom, IsAmong}
use Rattle.dsc_base.proofs.EditLaws.{length-put_all, get_or-put_all, get_or-put_all_apart}
use Rattle.macho_image.specs.Records.{Img}
use Rattle.cache_layout.specs.declared.mapping.Mapping.{Mapping}
use Rattle.cache_layout.specs.declared.mapping.Mapping.TheVariants.{Text, Writable, Fixed}
use Rattle.cache_layout.specs.Layouts.{layout_of}
use Rattle.cache_layout.specs.Apart.{AreInTurn, range_in}
use Rattle.slide_chain.specs.Making.{AllBelow}
use Rattle.slide_chain.specs.Linked.{raised}
use Rattle.slide_chain.proofs.LinkedLaws.{raised-inside, length-linked_data, edit-byte, other-byte}
use Rattle.ref_rewrite.specs.Plans.{IsInside}
use Rattle.ref_rewrite.specs.Rewritten.{edits_in}
use Rattle.ref_rewrite.proofs.RewrittenLaws.{edits_inside, edits_clear, edits_apart, among_in}
use Rattle.cache_build.proofs.BuildableSets.{IsAccepted, set_edits, set_chained, set_mapping, set_range, slid_value}
use Rattle.cache_build.proofs.CacheFacts.{HasEdits}
use Rattle.cache_build.proofs.CachePlaces.{in_turn}
use Rattle.cache_build.proofs.CacheParts.{AreRanges, linked_part, slid_part, length-mapping}

-- the edits of a range
abbrev range_edits : List Img → Mapping → List Edit
range_edits is m = edits_in (range_in (layout_of is) m) (set_edits is)

range_inside : (bits : ℕ) (is : List Img) → IsAccepted is → (m : Mapping) → AllInside (length (set_mapping bits is m)) (range_edits is m)
range_inside bits is accepted m =
    subst (λ (n : ℕ). AllInside n (range_edits is m)) (sym (length-mapping bits is accepted m)) (edits_inside (range_in (layout_of is) m) (set_edits is))

-- ---- lengths

length-set_range : (bits : ℕ) (is : List Img) → IsAccepted is → (m : Mapping) → length (set_range bits is m) ≡ (range_in (layout_of is) m).len
length-set_range bits is accepted m = length-put_all (range_edits is m) (set_mapping bits is m) (range_inside bits is accepted m) ∙ length-mapping bits is accepted m

pub length-linked : (bits : ℕ) (is : List Img) → IsAccepted is → HasEdits bits is → AreRanges is (linked_part bits is)
length-linked bits is accepted edits Text = length-set_range bits is accepted Text
length-linked bits is accepted edits Writable =
    let long : length (set_mapping bits is Writable) ≡ (layout_of is).writable.len = length-mapping bits is accepted Writable in
    length-linked_data bits (layout_of is).writable.len (set_chained is) (range_edits is Writable) (set_mapping bits is Writable) edits.linked long ∙ long
length-linked bits is accepted edits Fixed = length-set_range bits is accepted Fixed

pub length-slid : (bits : ℕ) (is : List Img) → IsAccepted is → (slide : ℕ) → AreRanges is (slid_part bits is slide)
length-slid bits is accepted slide Text = length-set_range bits is accepted Text
length-slid bits is accepted slide Writable =
    length-put_all (map (raised slide (set_chained is)) (range_edits is Writable)) (set_mapping bits is Writable)
    (raised-inside slide (length (set_mapping bits is Writable)) (set_chained is) (range_edits is Writable) (range_inside bits is accepted Writable))
    ∙ length-mapping bits is accepted Writable
length-slid bits is accepted slide Fixed = length-set_range bits is accepted Fixed

-- ---- a byte apart from all words

range_free : (is : List Img) (m : Mapping) (j f : ℕ) → (range_in (layout_of is) m).at + j ≡ f → ApartFrom f 1 (set_edits is) → ApartFrom j 1 (range_edits is m)
range_free is m j f place free =
    let range : Span = range_in (layout_of is) m in
    subst (λ (n : ℕ). ApartFrom n 1 (range_edits is m)) (let back : f - (range_in (layout_of is) m).at ≡ j = omega (arith, place) in back)
    (edits_clear range (set_edits is) f 1 (omega (arith, place)) free)

plain_byte : (bits : ℕ) (is : List Img) → IsAccepted is → (m : Mapping) (j : ℕ) → ApartFrom j 1 (range_edits is m) → get_or (set_range bits is m) j 0 ≡ get_or (set_mapping bits is m) j 0
plain_byte bits is accepted m j free = get_or-put_all_apart (range_edits is m) (set_mapping bits is m) j (range_inside bits is accepted m) free

pub free_part : (bits : ℕ) (is : List Img) → IsAccepted is → (slide f : ℕ) → ApartFrom f 1 (set_edits is) → (m : Mapping) (j : ℕ) → (range_in (layout_of is) m).at + j ≡ f
    → get_or (slid_part bits is slide m) j 0 ≡ get_or (set_mapping bits is m) j 0
free_part bits is accepted slide f free Text j place = plain_byte bits is accepted Text j (range_free is Text j f place free)
free_part bits is accepted slide f free Writable j place =
    other-byte slide j (set_chained is) (range_edits is Writable) (set_mapping bits is Writable) (range_inside bits is accepted Writable) (range_free is Writable j f place free)
free_part bits is accepted slide f free Fixed j place = plain_byte bits is accepted Fixed j (range_free is Fixed j f place free)

-- ---- which words are chained

same_place : (w x c : ℕ) → w ≤ x → nat_eq (x - w) c ≡ nat_eq x (w + c)
same_place w x c le = elim (cases_eq x (w + c)) [
  | inl same ↦ eq-eqb (x - w) c (omega (arith, same)) ∙ sym (eq-eqb x (w + c) same)
  | inr other ↦ ne_eqb (x - w) c (λ is. other (omega (arith, is, le))) ∙ sym (ne_eqb x (w + c) other)
]

same_chained : (w x : ℕ) (chained : List ℕ) → w ≤ x → list_any (nat_eq (x - w)) chained ≡ list_any (λ a. nat_eq x (w + a)) chained
same_chained w x [] le = refl
same_chained w x (c ∷ chained) le = ap₂ (λ (a b : Bool). a || b) (same_place w x c le) (same_chained w x chained le)

none_chained : (w n x : ℕ) (chained : List ℕ) → AllBelow n chained → (x < w) ⊎ (w + n ≤ x) → list_any (λ a. nat_eq x (w + a)) chained ≡ false
none_chained w n x [] below away = refl
none_chained w n x (c ∷ chained) below away =
    ap₂ (λ (a b : Bool). a || b) (ne_eqb x (w + c) (λ is. elim away [ inl before ↦ omega (arith, before, is) | inr behind ↦ omega (arith, behind, is, below.0) ]))
    (none_chained w n x chained below.1 away)

-- ---- a byte of a word

-- an edit of a range, its place counted from the range's start
abbrev moved_edit : List Img → Mapping → Edit → Edit
moved_edit is m e = record { at = e.at - (range_in (layout_of is) m).at; width = e.width; value = e.value }

set_byte : (bits : ℕ) (is : List Img) → IsAccepted is → HasEdits bits is → (m : Mapping) (k : ℕ) (e : Edit) → IsAmong e (set_edits is) → IsInside (range_in (layout_of is) m) e.at e.width → k < e.width
    → get_or (set_range bits is m) (e.at - (range_in (layout_of is) m).at + k) 0 ≡ get_or (little_bytes e.width e.value) k 0
set_byte bits is accepted edits m k e among inside lt =
    let range : Span = range_in (layout_of is) m in
    get_or-put_all (moved_edit is m e) (range_edits is m) (set_mapping bits is m) k (range_inside bits is accepted m) (edits_apart range (set_edits is) edits.apart) (among_in range e (set_edits is) inside among) lt

plain_value : (bits : ℕ) (is : List Img) → HasEdits bits is → (slide : ℕ) (e : Edit) → (e.at < (layout_of is).writable.at) ⊎ ((layout_of is).writable.at + (layout_of is).writable.len ≤ e.at) → slid_value is slide e ≡ e.value
plain_value bits is edits slide e away =
    cond-false (list_any (λ a. nat_eq e.at ((layout_of is).writable.at + a)) (set_chained is)) ((e.value + slide) % 2 ^ 64) e.value
    (none_chained (layout_of is).writable.at (layout_of is).writable.len e.at (set_chained is) edits.linked.below away)

chained_value : (is : List Img) (slide : ℕ) (e : Edit) → (layout_of is).writable.at ≤ e.at → (raised slide (set_chained is) (moved_edit is Writable e)).value ≡ slid_value is slide e
chained_value is slide e from =
    ap (λ (b : Bool). if b then (e.value + slide) % 2 ^ 64 else e.value) (same_chained (layout_of is).writable.at e.at (set_chained is) from)

pub word_part : (bits : ℕ) (is : List Img) → IsAccepted is → HasEdits bits is → (slide k : ℕ) (e : Edit) → IsAmong e (set_edits is) → (m : Mapping) → IsInside (range_in (layout_of is) m) e.at e.width → k < e.width
    → get_or (slid_part bits is slide m) (e.at - (range_in (layout_of is) m).at + k) 0 ≡ get_or (little_bytes e.width (slid_value is slide e)) k 0
word_part bits is accepted edits slide k e among Text inside lt =
    let turn : AreInTurn is (layout_of is) = in_turn is accepted in
    let end : e.at + e.width ≤ (layout_of is).text.at + (layout_of is).text.len = inside.1 in
    set_byte bits is accepted edits Text k e among inside lt
    ∙ ap (λ (v : ℕ). get_or (little_bytes e.width v) k 0) (sym (plain_value bits is edits slide e (inl (omega (arith, end, lt, turn.writable)))))
word_part bits is accepted edits slide k e among Writable inside lt =
    edit-byte slide k (set_chained is) (moved_edit is Writable e) (range_edits is Writable) (set_mapping bits is Writable) (range_inside bits is accepted Writable) edits.linked.apart
    (among_in (layout_of is).writable e (set_edits is) inside among) lt
    ∙ ap (λ (v : ℕ). get_or (little_bytes e.width v) k 0) (chained_value is slide e inside.0)
word_part bits is accepted edits slide k e among Fixed inside lt =
    let turn : AreInTurn is (layout_of is) = in_turn is accepted in
    let start : (layout_of is).fixed.at ≤ e.at = inside.0 in
    set_byte bits is accepted edits Fixed k e among inside lt
    ∙ ap (λ (v : ℕ). get_or (little_bytes e.width v) k 0) (sym (plain_value bits is edits slide e (inr (omega (arith, start, turn.fixed)))))
