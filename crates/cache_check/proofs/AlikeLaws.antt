-- Images of the same shape: besides `__LINKEDIT` their segments are as large, and their sections as large and as far from the starts of the same segments.
use Rattle.std.proofs.Common.{◌≡◌, ◌≤◌, ◌<◌, ℕ, zero, suc, ◌+◌, Bool, true, false, not, nat_eq, Option, Some, None, List, [], ◌∷◌, ◌++◌, length, get_or, refl, sym, ap, ap₂, ◌∙◌, subst, arith, if◌then◌else◌, inl, inr}
use Rattle.std.specs.Prelude.{filter, slice_get, slice_index, max}
use Rattle.std.specs.List.{flat_map, AllPairs}
use Rattle.std.proofs.lemmas.Bool.{cases_lt, cases_eq, cond-true, cond-false, eq-eqb, eqb-true, ne_eqb, false≢true}
use Rattle.std.proofs.lemmas.List.{get_or_past}
use Rattle.std.proofs.lemmas.Option.{same_Some}
use Rattle.dsc_base.specs.Numbers.{big_number}
use Rattle.macho_image.specs.Records.{Seg, Img}
use Rattle.macho_image.specs.declared.section.Section.{Section}
use Rattle.macho_image.specs.Breaks.{IsSound}
use Rattle.macho_image.specs.Rules.{is_linkedit_segment}
use Rattle.macho_image.specs.Places.{above, Precedes}
use Rattle.macho_image.proofs.SectionLaws.{sections_in_order}
use Rattle.split_info.proofs.SoundSections.{IsInside, section_inside}
use Rattle.load_model.specs.Corresponds.{section_shape, sections_of, segment_shape, shapes_from, shape_of}
use Rattle.cache_check.specs.declared.verdict.Difference.TheVariants.{Shape}
use Rattle.cache_check.specs.Differences.{part_difference, shape_difference}
use Rattle.cache_check.proofs.FirstLaws.{none_each}
use Rattle.cache_check.proofs.LinkeditLaws.{EndInLinkedit, ends_in_linkedit, section_besides}

-- ---- lists of numbers, where one that has ended counts as zeros

abbrev AreSame : List ℕ → List ℕ → Type 0
AreSame xs ys = (n : ℕ) → slice_index xs n ≡ slice_index ys n

same_part : (k n : ℕ) (xs ys : List ℕ) → part_difference k xs ys n ≡ None → slice_index xs n ≡ slice_index ys n
unfolding part_difference
same_part k n xs ys none = eqb-true (slice_index xs n) (slice_index ys n) (at (nat_eq (slice_index xs n) (slice_index ys n)) none)
  where
    at : (b : Bool) → (if b then None else Some (Shape k n (slice_index xs n) (slice_index ys n))) ≡ None → b ≡ true
    at true none = refl
    at false none = absurd (cc)

same_parts : (k : ℕ) (xs ys : List ℕ) → shape_difference k xs ys ≡ None → AreSame xs ys
unfolding shape_difference
same_parts k xs ys none n = elim (cases_lt n (max (length xs) (length ys))) [
  | inl inside ↦ same_part k n xs ys (none_each (part_difference k xs ys) (max (length xs) (length ys)) n none inside)
  | inr past ↦ get_or_past xs n 0 (omega (arith, past)) ∙ sym (get_or_past ys n 0 (omega (arith, past)))
]

first : (a b : ℕ) (xs ys : List ℕ) → AreSame (a ∷ xs) (b ∷ ys) → a ≡ b
first a b xs ys same = same 0

rest : (a b : ℕ) (xs ys : List ℕ) → AreSame (a ∷ xs) (b ∷ ys) → AreSame xs ys
rest a b xs ys same n = same (suc n)

-- ---- the sections of one segment

abbrev pub AreSectionsAlike : Seg → Seg → List Section → List Section → Type 0
AreSectionsAlike s t [] [] = Unit {0}
AreSectionsAlike s t (x ∷ xs) (y ∷ ys) = (y.size ≡ x.size) × (above t.vmaddr y.addr ≡ above s.vmaddr x.addr) × AreSectionsAlike s t xs ys
AreSectionsAlike s t _ _ = ⊥

record SameSections (s t : Seg) (xs ys : List Section) (ps qs : List ℕ) : Type 0 where
  alike : AreSectionsAlike s t xs ys
  shapes : flat_map (section_shape s) xs ≡ flat_map (section_shape t) ys
  left : AreSame ps qs

same_sections : (s t : Seg) (xs ys : List Section) (ps qs : List ℕ) → length xs ≡ length ys → AreSame (flat_map (section_shape s) xs ++ ps) (flat_map (section_shape t) ys ++ qs) → SameSections s t xs ys ps qs
same_sections s t [] [] ps qs long same = record { alike = tt; shapes = refl; left = same }
same_sections s t (x ∷ xs) [] ps qs long same = absurd (omega (arith, long))
same_sections s t [] (y ∷ ys) ps qs long same = absurd (omega (arith, long))
same_sections s t (x ∷ xs) (y ∷ ys) ps qs long same =
    let name : big_number 16 x.name ≡ big_number 16 y.name = same 0 in
    let distance : above s.vmaddr x.addr ≡ above t.vmaddr y.addr = same 1 in
    let size : x.size ≡ y.size = same 2 in
    let others : SameSections s t xs ys ps qs = same_sections s t xs ys ps qs (omega (arith, long)) (λ n. same (suc (suc (suc n)))) in
    record {
      alike = (sym size, sym distance, others.alike);
      shapes = ap₂ (λ (n : ℕ) (l : List ℕ). n ∷ l) name (ap₂ (λ (d : ℕ) (l : List ℕ). d ∷ l) distance (ap₂ (λ (z : ℕ) (l : List ℕ). z ∷ l) size others.shapes));
      left = others.left;
    }

-- ---- the segments

pub record IsAlike (one two : Img) (g : ℕ) (s : Seg) (ts : List Seg) (n : ℕ) : Type 0 where
  pub segment : Seg
  pub segment_is : slice_get ts n ≡ Some segment
  pub other : is_linkedit_segment segment ≡ false
  pub size : segment.vmsize ≡ s.vmsize
  pub sections : AreSectionsAlike s segment (sections_of one (g + n)) (sections_of two (g + n))

abbrev others : List Seg → List Seg
others ss = filter (λ (s : Seg). not (is_linkedit_segment s)) ss

one_more : (s : Seg) (ss : List Seg) → is_linkedit_segment s ≡ false → length (others (s ∷ ss)) ≡ suc (length (others ss))
one_more s ss other = ap (λ (b : Bool). length (if not b then s ∷ others ss else others ss)) other

none_more : (s : Seg) (ss : List Seg) → is_linkedit_segment s ≡ true → length (others (s ∷ ss)) ≡ length (others ss)
none_more s ss linkedit = ap (λ (b : Bool). length (if not b then s ∷ others ss else others ss)) linkedit

shape_besides : (one : Img) (g : ℕ) (s : Seg) (ss : List Seg) → is_linkedit_segment s ≡ false → shapes_from one g (s ∷ ss) ≡ segment_shape s (sections_of one g) ++ shapes_from one (g + 1) ss
shape_besides one g s ss other = ap (λ (b : Bool). (if b then [] else segment_shape s (sections_of one g)) ++ shapes_from one (g + 1) ss) other

shape_last : (one : Img) (g : ℕ) (s : Seg) → is_linkedit_segment s ≡ true → shapes_from one g (s ∷ []) ≡ []
shape_last one g s linkedit = ap (λ (b : Bool). (if b then [] else segment_shape s (sections_of one g)) ++ []) linkedit

record SameSegments (one two : Img) (g : ℕ) (ss ts : List Seg) : Type 0 where
  shapes : shapes_from one g ss ≡ shapes_from two g ts
  alike : (n : ℕ) (s : Seg) → slice_get ss n ≡ Some s → is_linkedit_segment s ≡ false → IsAlike one two g s ts n

module _ (one two : Img) (g : ℕ) (s t : Seg) (ss ts : List Seg) (s_other : is_linkedit_segment s ≡ false) (t_other : is_linkedit_segment t ≡ false)
    (same : AreSame (segment_shape s (sections_of one g) ++ shapes_from one (g + 1) ss) (segment_shape t (sections_of two g) ++ shapes_from two (g + 1) ts)) where
  here : SameSections s t (sections_of one g) (sections_of two g) (shapes_from one (g + 1) ss) (shapes_from two (g + 1) ts)
  here = same_sections s t (sections_of one g) (sections_of two g) (shapes_from one (g + 1) ss) (shapes_from two (g + 1) ts) (same 3) (λ n. same (suc (suc (suc (suc n)))))

  segment_same : segment_shape s (sections_of one g) ≡ segment_shape t (sections_of two g)
  segment_same =
      ap₂ (λ (n : ℕ) (l : List ℕ). n ∷ l) (same 0) (ap₂ (λ (z : ℕ) (l : List ℕ). z ∷ l) (same 1)
      (ap₂ (λ (p : ℕ) (l : List ℕ). p ∷ l) (same 2) (ap₂ (λ (c : ℕ) (l : List ℕ). c ∷ l) (same 3) here.shapes)))

  with_segment : SameSegments one two (g + 1) ss ts → SameSegments one two g (s ∷ ss) (t ∷ ts)
  with_segment later = record {
    shapes = shape_besides one g s ss s_other ∙ (ap₂ (λ (a b : List ℕ). a ++ b) segment_same later.shapes ∙ sym (shape_besides two g t ts t_other));
    alike = at;
  }
    where
      at : (n : ℕ) (x : Seg) → slice_get (s ∷ ss) n ≡ Some x → is_linkedit_segment x ≡ false → IsAlike one two g x (t ∷ ts) n
      at zero x got other =
          let is : s ≡ x = same_Some s x got in
          let number : g + 0 ≡ g = omega arith in
          subst (λ (y : Seg). IsAlike one two g y (t ∷ ts) 0) is (record {
            segment = t;
            segment_is = refl;
            other = t_other;
            size = sym (same 1);
            sections = subst (λ (m : ℕ). AreSectionsAlike s t (sections_of one m) (sections_of two m)) (sym number) here.alike;
          })
      at (suc n) x got other =
          let own : IsAlike one two (g + 1) x ts n = later.alike n x got other in
          let number : g + 1 + n ≡ g + suc n = omega arith in
          record {
            segment = own.segment;
            segment_is = own.segment_is;
            other = own.other;
            size = own.size;
            sections = subst (λ (m : ℕ). AreSectionsAlike x own.segment (sections_of one m) (sections_of two m)) number own.sections;
          }

same_segments : (one two : Img) (g : ℕ) (ss ts : List Seg) → EndInLinkedit ss → EndInLinkedit ts → length (others ss) ≡ length (others ts) → AreSame (shapes_from one g ss) (shapes_from two g ts) → SameSegments one two g ss ts
same_segments one two g [] ts ends too count same = absurd ends
same_segments one two g (s ∷ ss) [] ends too count same = absurd too
same_segments one two g (s ∷ []) (t ∷ []) ends too count same = record {
  shapes = shape_last one g s ends ∙ sym (shape_last two g t too);
  alike = at;
}
  where
    at : (n : ℕ) (x : Seg) → slice_get (s ∷ []) n ≡ Some x → is_linkedit_segment x ≡ false → IsAlike one two g x (t ∷ []) n
    at zero x got other = absurd (false≢true (sym other ∙ (ap is_linkedit_segment (sym (same_Some s x got)) ∙ ends)))
    at (suc n) x got other = absurd (cc)
same_segments one two g (s ∷ []) (t ∷ (u ∷ ts)) ends too count same = absurd (omega (arith, count, none_more s [] ends, one_more t (u ∷ ts) too.0))
same_segments one two g (s ∷ (u ∷ ss)) (t ∷ []) ends too count same = absurd (omega (arith, count, none_more t [] too, one_more s (u ∷ ss) ends.0))
same_segments one two g (s ∷ (u ∷ ss)) (t ∷ (v ∷ ts)) ends too count same =
    let both : AreSame (segment_shape s (sections_of one g) ++ shapes_from one (g + 1) (u ∷ ss)) (segment_shape t (sections_of two g) ++ shapes_from two (g + 1) (v ∷ ts)) =
    λ n. ap (λ (l : List ℕ). slice_index l n) (sym (shape_besides one g s (u ∷ ss) ends.0)) ∙ (same n ∙ ap (λ (l : List ℕ). slice_index l n) (shape_besides two g t (v ∷ ts) too.0)) in
    let left : SameSections s t (sections_of one g) (sections_of two g) (shapes_from one (g + 1) (u ∷ ss)) (shapes_from two (g + 1) (v ∷ ts)) = here one two g s t (u ∷ ss) (v ∷ ts) ends.0 too.0 both in
    with_segment one two g s t (u ∷ ss) (v ∷ ts) ends.0 too.0 both
    (same_segments one two (g + 1) (u ∷ ss) (v ∷ ts) ends.1 too.1 (omega (arith, count, one_more s (u ∷ ss) ends.0, one_more t (v ∷ ts) too.0)) left.left)

-- ---- sections, in the order in which they stand

abbrev own : ℕ → List Section → List Section
own g xs = filter (λ (s : Section). nat_eq s.segment g) xs

-- two lists, one by one
abbrev pub Pairwise : (Section → Section → Type 0) → List Section → List Section → Type 0
Pairwise R [] [] = Unit {0}
Pairwise R (x ∷ xs) (y ∷ ys) = R x y × Pairwise R xs ys
Pairwise R _ _ = ⊥

abbrev AreFrom : ℕ → List Section → Type 0
AreFrom g [] = Unit {0}
AreFrom g (x ∷ xs) = (g ≤ x.segment) × AreFrom g xs

-- sections in the order of their segments
abbrev AreSorted : List Section → Type 0
AreSorted [] = Unit {0}
AreSorted (x ∷ xs) = AreFrom x.segment xs × AreSorted xs

sorted_from : (g : ℕ) (xs : List Section) → ((i : ℕ) (d : Section) → i < length xs → g ≤ (get_or xs i d).segment) → AreFrom g xs
sorted_from g [] from = tt
sorted_from g (x ∷ xs) from = (from 0 x (omega arith), sorted_from g xs (λ i d lt. from (suc i) d (omega (arith, lt))))

sorted : (xs : List Section) → AllPairs Precedes xs → AreSorted xs
sorted [] order = tt
sorted (x ∷ xs) order =
    (sorted_from x.segment xs (λ i d lt. (order 0 (suc i) d (omega arith) (omega (arith, lt))).segments), sorted xs (λ i j d lt inside. order (suc i) (suc j) d (omega (arith, lt)) (omega (arith, inside))))

own_here : (g : ℕ) (x : Section) (xs : List Section) → x.segment ≡ g → own g (x ∷ xs) ≡ x ∷ own g xs
own_here g x xs is = cond-true (nat_eq x.segment g) (x ∷ own g xs) (own g xs) (eq-eqb x.segment g is)

own_other : (g : ℕ) (x : Section) (xs : List Section) → (x.segment ≡ g → ⊥) → own g (x ∷ xs) ≡ own g xs
own_other g x xs differs = cond-false (nat_eq x.segment g) (x ∷ own g xs) (own g xs) (ne_eqb x.segment g differs)

none_own : (g h : ℕ) (xs : List Section) → AreFrom h xs → g < h → own g xs ≡ []
none_own g h [] from lt = refl
none_own g h (x ∷ xs) from lt = own_other g x xs (λ same. omega (arith, same, from.0, lt)) ∙ none_own g h xs from.1 lt

module _ (R : ℕ → Section → Section → Type 0) where
  heads : (x y : Section) (xs ys : List Section) → ((g : ℕ) → Pairwise (R g) (own g (x ∷ xs)) (own g (y ∷ ys))) → x.segment ≡ y.segment → Pairwise (R x.segment) (x ∷ own x.segment xs) (y ∷ own x.segment ys)
  heads x y xs ys each same =
      subst (λ (l : List Section). Pairwise (R x.segment) l (y ∷ own x.segment ys)) (own_here x.segment x xs refl)
      (subst (λ (l : List Section). Pairwise (R x.segment) (own x.segment (x ∷ xs)) l) (own_here x.segment y ys (sym same)) (each x.segment))

  tails : (x y : Section) (xs ys : List Section) → ((g : ℕ) → Pairwise (R g) (own g (x ∷ xs)) (own g (y ∷ ys))) → x.segment ≡ y.segment → (g : ℕ) → Pairwise (R g) (own g xs) (own g ys)
  tails x y xs ys each same g = elim (cases_eq x.segment g) [
    | inl is ↦ subst (λ (h : ℕ). Pairwise (R h) (own h xs) (own h ys)) is (heads x y xs ys each same).1
    | inr other ↦
        subst (λ (l : List Section). Pairwise (R g) l (own g ys)) (own_other g x xs other)
        (subst (λ (l : List Section). Pairwise (R g) (own g (x ∷ xs)) l) (own_other g y ys (λ is. other (same ∙ is))) (each g))
  ]

  lone_left : (x : Section) (xs ys : List Section) → Pairwise (R x.segment) (own x.segment (x ∷ xs)) (own x.segment ys) → own x.segment ys ≡ [] → ⊥
  lone_left x xs ys pairs none =
      subst (λ (l : List Section). Pairwise (R x.segment) (x ∷ own x.segment xs) l) none (subst (λ (l : List Section). Pairwise (R x.segment) l (own x.segment ys)) (own_here x.segment x xs refl) pairs)

  lone_right : (y : Section) (xs ys : List Section) → Pairwise (R y.segment) (own y.segment xs) (own y.segment (y ∷ ys)) → own y.segment xs ≡ [] → ⊥
  lone_right y xs ys pairs none =
      subst (λ (l : List Section). Pairwise (R y.segment) l (y ∷ own y.segment ys)) none (subst (λ (l : List Section). Pairwise (R y.segment) (own y.segment xs) l) (own_here y.segment y ys refl) pairs)

  paired : (xs ys : List Section) → AreSorted xs → AreSorted ys → ((g : ℕ) → Pairwise (R g) (own g xs) (own g ys)) → Pairwise (λ (x y : Section). (y.segment ≡ x.segment) × R x.segment x y) xs ys
  paired [] [] one two each = tt
  paired [] (y ∷ ys) one two each = absurd (lone_right y [] ys (each y.segment) refl)
  paired (x ∷ xs) [] one two each = absurd (lone_left x xs [] (each x.segment) refl)
  paired (x ∷ xs) (y ∷ ys) one two each = elim (cases_lt x.segment y.segment) [
    | inl below ↦ absurd (lone_left x xs (y ∷ ys) (each x.segment) (own_other x.segment y ys (λ is. omega (arith, is, below)) ∙ none_own x.segment y.segment ys two.0 below))
    | inr from ↦ elim (cases_lt y.segment x.segment) [
      | inl over ↦ absurd (lone_right y (x ∷ xs) ys (each y.segment) (own_other y.segment x xs (λ is. omega (arith, is, over)) ∙ none_own y.segment x.segment xs one.0 over))
      | inr to ↦
          let same : x.segment ≡ y.segment = omega (arith, from, to) in
          ((sym same, (heads x y xs ys each same).0), paired xs ys one.1 two.1 (tails x y xs ys each same))
    ]
  ]

-- ---- two images

-- a section is as large as another one, and as far from the start of its segment, of a number
abbrev IsPaired : Img → Img → ℕ → Section → Section → Type 0
IsPaired one two g x y = (y.size ≡ x.size) × ((s t : Seg) → slice_get one.segments g ≡ Some s → slice_get two.segments g ≡ Some t → above t.vmaddr y.addr ≡ above s.vmaddr x.addr)

pairs_of : (one two : Img) (g : ℕ) (s t : Seg) (xs ys : List Section) → slice_get one.segments g ≡ Some s → slice_get two.segments g ≡ Some t → AreSectionsAlike s t xs ys → Pairwise (IsPaired one two g) xs ys
pairs_of one two g s t [] [] first second alike = tt
pairs_of one two g s t (x ∷ xs) [] first second alike = absurd alike
pairs_of one two g s t [] (y ∷ ys) first second alike = absurd alike
pairs_of one two g s t (x ∷ xs) (y ∷ ys) first second alike = (
  (
    alike.0,
    λ s' t' got found.
        let a : s ≡ s' = same_Some s s' (sym first ∙ got) in
        let b : t ≡ t' = same_Some t t' (sym second ∙ found) in
        ap (λ (z : Seg). above z.vmaddr y.addr) (sym b) ∙ (alike.1 ∙ ap (λ (z : Seg). above z.vmaddr x.addr) a),
  ),
  pairs_of one two g s t xs ys first second alike.2,
)

-- a segment that isn't there, and `__LINKEDIT`, have no sections
bare : (image : Img) → IsSound image → (g : ℕ) → ((s : Seg) → slice_get image.segments g ≡ Some s → is_linkedit_segment s ≡ false → ⊥) → own g image.sections ≡ []
bare image sound g none = at image.sections (λ j x got is.
    let in_segment : IsInside image x = section_inside image j x sound got in
    none in_segment.segment (ap (λ (n : ℕ). slice_get image.segments n) (sym is) ∙ in_segment.segment_is) (section_besides image sound j x in_segment.segment got in_segment.segment_is))
  where
    at : (xs : List Section) → ((j : ℕ) (x : Section) → slice_get xs j ≡ Some x → x.segment ≡ g → ⊥) → own g xs ≡ []
    at [] none = refl
    at (x ∷ xs) none = own_other g x xs (none 0 x refl) ∙ at xs (λ j y got. none (suc j) y got)

-- a section of one image, and that of the same number of the other one
pub record HasSame (one two : Img) (j : ℕ) (x : Section) : Type 0 where
  pub section : Section
  pub found : slice_get two.sections j ≡ Some section
  pub segment : section.segment ≡ x.segment
  pub size : section.size ≡ x.size
  pub distance : (s t : Seg) → slice_get one.segments x.segment ≡ Some s → slice_get two.segments x.segment ≡ Some t → above t.vmaddr section.addr ≡ above s.vmaddr x.addr

pub record AreAlike (one two : Img) : Type 0 where
  pub shapes : shape_of one ≡ shape_of two
  pub segments : (n : ℕ) (s : Seg) → slice_get one.segments n ≡ Some s → is_linkedit_segment s ≡ false → IsAlike one two 0 s two.segments n
  pub back : (n : ℕ) (s : Seg) → slice_get two.segments n ≡ Some s → is_linkedit_segment s ≡ false → IsAlike two one 0 s one.segments n
  pub sections : (j : ℕ) (x : Section) → slice_get one.sections j ≡ Some x → HasSame one two j x

at_number : (one two : Img) (xs ys : List Section) → Pairwise (λ (x y : Section). (y.segment ≡ x.segment) × IsPaired one two x.segment x y) xs ys → (j : ℕ) (x : Section) → slice_get xs j ≡ Some x
    → (y : Section) × (slice_get ys j ≡ Some y) × (y.segment ≡ x.segment) × IsPaired one two x.segment x y
at_number one two [] ys pairs j x got = absurd (cc)
at_number one two (z ∷ xs) [] pairs j x got = absurd pairs
at_number one two (z ∷ xs) (y ∷ ys) pairs zero x got = subst (λ (w : Section). (v : Section) × (slice_get (y ∷ ys) 0 ≡ Some v) × (v.segment ≡ w.segment) × IsPaired one two w.segment w v) (same_Some z x got) (y, refl, pairs.0.0, pairs.0.1)
at_number one two (z ∷ xs) (y ∷ ys) pairs (suc j) x got = at_number one two xs ys pairs.1 j x got

module _ (one two : Img) (first : IsSound one) (second : IsSound two) (same : AreSame (shape_of one) (shape_of two)) where
  count : length (others one.segments) ≡ length (others two.segments)
  unfolding shape_of
  count = same 0

  numbers : AreSame (shapes_from one 0 one.segments) (shapes_from two 0 two.segments)
  unfolding shape_of
  numbers n = same (suc n)

  forth : SameSegments one two 0 one.segments two.segments
  forth = same_segments one two 0 one.segments two.segments (ends_in_linkedit one first) (ends_in_linkedit two second) count numbers

  back : SameSegments two one 0 two.segments one.segments
  back = same_segments two one 0 two.segments one.segments (ends_in_linkedit two second) (ends_in_linkedit one first) (sym count) (λ n. sym (numbers n))

  of_segment : (g : ℕ) → Pairwise (IsPaired one two g) (own g one.sections) (own g two.sections)
  of_segment g = at (slice_get one.segments g) refl
    where
      none_there : ((s : Seg) → slice_get one.segments g ≡ Some s → is_linkedit_segment s ≡ false → ⊥) → Pairwise (IsPaired one two g) (own g one.sections) (own g two.sections)
      none_there none =
          let other : own g two.sections ≡ [] = bare two second g (λ t got besides. let alike : IsAlike two one 0 t one.segments g = back.alike g t got besides in none alike.segment alike.segment_is alike.other) in
          subst (λ (l : List Section). Pairwise (IsPaired one two g) l (own g two.sections)) (sym (bare one first g none)) (subst (λ (l : List Section). Pairwise (IsPaired one two g) [] l) (sym other) tt)

      named : (s : Seg) (b : Bool) → slice_get one.segments g ≡ Some s → is_linkedit_segment s ≡ b → Pairwise (IsPaired one two g) (own g one.sections) (own g two.sections)
      named s true got linkedit = none_there (λ t found other. false≢true (sym other ∙ (ap is_linkedit_segment (same_Some t s (sym found ∙ got)) ∙ linkedit)))
      named s false got other =
          let alike : IsAlike one two 0 s two.segments g = forth.alike g s got other in
          pairs_of one two g s alike.segment (own g one.sections) (own g two.sections) got alike.segment_is
          (let plain : 0 + g ≡ g = omega arith in subst (λ (m : ℕ). AreSectionsAlike s alike.segment (own m one.sections) (own m two.sections)) plain alike.sections)

      at : (o : Option Seg) → slice_get one.segments g ≡ o → Pairwise (IsPaired one two g) (own g one.sections) (own g two.sections)
      at None none = none_there (λ s got other. let none' : ◌≡◌ {A = Option Seg} None (Some s) = sym none ∙ got in absurd (cc))
      at (Some s) got = named s (is_linkedit_segment s) got refl

  pub are_alike : AreAlike one two
  unfolding shape_of
  are_alike = record {
    shapes = ap₂ (λ (n : ℕ) (l : List ℕ). n ∷ l) count forth.shapes;
    segments = forth.alike;
    back = back.alike;
    sections = λ j x got.
        let pair = at_number one two one.sections two.sections
        (paired (IsPaired one two) one.sections two.sections (sorted one.sections (sections_in_order one first)) (sorted two.sections (sections_in_order two second)) of_segment) j x got in
        record { section = pair.0; found = pair.1; segment = pair.2; size = pair.3.0; distance = pair.3.1 };
  }

-- where no part differs
pub alike_where : (k : ℕ) (one two : Img) → IsSound one → IsSound two → shape_difference k (shape_of two) (shape_of one) ≡ None → AreAlike one two
alike_where k one two first second none = are_alike one two first second (λ n. sym (same_parts k (shape_of two) (shape_of one) none n))
