-- Each word of an image stands in one of its sections, and an address of a section is in no other one.
use Rattle.std.proofs.Common.{◌≡◌, ◌≤◌, ◌<◌, ℕ, ◌+◌, ◌-◌, true, Option, Some, None, List, get_or, refl, sym, ap, ◌∙◌, subst, arith, inl, inr}
use Rattle.std.specs.Prelude.{slice_get, option_map, unwrap_or}
use Rattle.std.specs.List.{position}
use Rattle.std.proofs.lemmas.Bool.{cases_lt, false≢true}
use Rattle.std.proofs.lemmas.Bool.Decides.{nat_tests}
use Rattle.std.proofs.lemmas.List.Quantifiers.{position-Some}
use Rattle.std.proofs.lemmas.Option.{slice_get-get_or, slice_get_within, get_or_from_slice_get}
use Rattle.macho_image.specs.Records.{Img}
use Rattle.macho_image.specs.Breaks.{IsSound}
use Rattle.macho_image.specs.declared.section.Section.{Section}
use Rattle.macho_image.specs.declared.place.Location.{Location}
use Rattle.macho_image.specs.declared.places.segment_index.Inside.{Inside}
use Rattle.macho_image.specs.Places.{holds, section_around, numbered_section, IsWord, Precedes}
use Rattle.macho_image.proofs.SectionLaws.{IsHeld, held, sections_in_order, numbered}
use Rattle.macho_image.proofs.SegmentLaws.{inside_here}
use Rattle.macho_image.proofs.SoundSegments.{segments_keep_apart}
use Rattle.split_info.specs.declared.reference.Reference.{Reference}
use Rattle.split_info.specs.References.{width_of}
use Rattle.split_info.specs.Split.{IsReference}
use Rattle.split_info.proofs.SoundSections.{IsInside, section_inside}
use Rattle.prebind.specs.Sets.{StreamLists, ImageSet}
use Rattle.prebind.specs.Words.{Word, reference_location, words_of}
use Rattle.load_model.specs.Corresponds.{IsWordOf}
use Rattle.load_model.proofs.WordCases.{IsIn, word_cases}
use Rattle.load_model.proofs.SpreadLaws.{bound_is_word, rebase_is_word}
use Rattle.load_model.proofs.LoadedWords.{IsReadImage}
use Rattle.load_model.proofs.LoadedReferences.{reference_accepted}
use Rattle.load_model.proofs.RuledWords.{position_none}

-- so many bytes at a location lie in the section of its number
pub record StandsIn (i : Img) (l : Location) (width : ℕ) : Type 0 where
  pub section : Section
  pub counts : 1 ≤ l.section
  pub found : slice_get i.sections (l.section - 1) ≡ Some section
  pub section_is : numbered_section i.sections l.section ≡ Some section
  pub in_segment : section.segment ≡ l.segment
  pub offset : ℕ
  pub place : l.address ≡ section.addr + offset
  pub within : offset + width ≤ section.size

pub word_stands_in : (i : Img) (l : Location) → IsWord i l → StandsIn i l 8
word_stands_in i l word = record {
  section = word.section;
  counts = word.section_counts;
  found = word.section_is;
  section_is = numbered i.sections l.section word.section word.section_counts word.section_is;
  in_segment = word.in_segment;
  offset = l.address - word.section.addr;
  place = omega (arith, word.section_from);
  within = omega (arith, word.section_from, word.section_to);
}

-- ---- references

is_held : (w g address : ℕ) (x : Section) → x.segment ≡ g → x.addr ≤ address → address + w ≤ x.addr + x.size → holds w g address x ≡ true
is_held w g address x segment from to = grind (arith, nat_tests)

pub reference_stands_in : (i : Img) (rebases : List Location) (r : Reference) → IsReference i rebases r → StandsIn i (reference_location i.sections r) (width_of r.kind)
reference_stands_in i rebases r is = at (position (holds w g r.from) i.sections) refl
  where
    w : ℕ
    w = width_of r.kind

    g : ℕ
    g = r.from_segment

    here : IsIn i.sections is.section
    here = record { number = is.index; found = is.section_is }

    one : holds w g r.from is.section ≡ true
    one = is_held w g r.from is.section is.in_segment is.section_from is.section_to

    at : (o : Option ℕ) → position (holds w g r.from) i.sections ≡ o → StandsIn i (reference_location i.sections r) w
    at None none = absurd (false≢true (sym (position_none (holds w g r.from) i.sections is.section none here) ∙ one))
    at (Some n) found =
        let p = position-Some (holds w g r.from) i.sections n is.section found in
        let x : Section = get_or i.sections n is.section in
        let h : IsHeld w g r.from x = held w g r.from x p.1 in
        let number : unwrap_or (section_around i.sections g r.from w) 0 ≡ n + 1 = ap (λ (o : Option ℕ). unwrap_or (option_map (λ (m : ℕ). m + 1) o) 0) found in
        let counts : 1 ≤ unwrap_or (section_around i.sections g r.from w) 0 = omega (arith, number) in
        let back : n ≡ unwrap_or (section_around i.sections g r.from w) 0 - 1 = omega (arith, number) in
        let there : slice_get i.sections (unwrap_or (section_around i.sections g r.from w) 0 - 1) ≡ Some x =
        ap (λ (m : ℕ). slice_get i.sections m) (sym back) ∙ slice_get-get_or i.sections n is.section p.0 in
        record {
          section = x;
          counts = counts;
          found = there;
          section_is = numbered i.sections (unwrap_or (section_around i.sections g r.from w) 0) x counts there;
          in_segment = h.segment;
          offset = r.from - x.addr;
          place = omega (arith, h.from);
          within = omega (arith, h.from, h.to);
        }

-- ---- each word

pub word_stands : (set : ImageSet) (k : ℕ) (i : Img) (s : StreamLists) (w : Word) → IsReadImage set k i s → IsSound i → IsWordOf (words_of set k) w → StandsIn i w.at (width_of w.kind)
word_stands set k i s w read sound is =
    elim (word_cases set k i s w read.of is) [
      | inl bound ↦
          subst (λ (v : Word). StandsIn i v.at (width_of v.kind)) (sym bound.is) (word_stands_in i bound.bind.at (bound_is_word i s bound.bind read.sound bound.there))
      | inr unbound ↦ elim unbound [
        | inl free ↦ subst (λ (v : Word). StandsIn i v.at (width_of v.kind)) (sym free.is) (word_stands_in i free.place (rebase_is_word i s free.place read.sound free.there))
        | inr other ↦
            subst (λ (v : Word). StandsIn i v.at (width_of v.kind)) (sym other.is)
            (reference_stands_in i s.rebases other.reference (reference_accepted i s other.reference sound read.sound other.there).0)
      ]
    ]

-- ---- sections

abbrev segment_of : Option Inside → ℕ
segment_of None = 0
segment_of (Some p) = p.segment

-- an address is in one section alone
pub one_section : (i : Img) → IsSound i → (j n : ℕ) (u x : Section) → slice_get i.sections j ≡ Some u → slice_get i.sections n ≡ Some x
    → (y : ℕ) → u.addr ≤ y → y < u.addr + u.size → x.addr ≤ y → y < x.addr + x.size → j ≡ n
one_section i sound j n u x first second y low high low' high' =
    let one : IsInside i u = section_inside i j u sound first in
    let two : IsInside i x = section_inside i n x sound second in
    let here = inside_here i.segments u.segment one.segment y (segments_keep_apart i sound) one.segment_is (omega (arith, one.from, low)) (omega (arith, one.to, high)) in
    let there = inside_here i.segments x.segment two.segment y (segments_keep_apart i sound) two.segment_is (omega (arith, two.from, low')) (omega (arith, two.to, high')) in
    let same : u.segment ≡ x.segment = ap segment_of (sym here ∙ there) in
    elim (cases_lt j n) [
      | inl before ↦
          let order : Precedes (get_or i.sections j u) (get_or i.sections n u) = sections_in_order i sound j n u before (slice_get_within i.sections n x second) in
          let p : Precedes u x = subst (λ (s : Section). Precedes s x) (get_or_from_slice_get i.sections j u u first) (subst (λ (s : Section). Precedes (get_or i.sections j u) s) (get_or_from_slice_get i.sections n x u second) order) in
          absurd (omega (arith, p.addresses same, high, low'))
      | inr from ↦ elim (cases_lt n j) [
        | inl after ↦
            let order : Precedes (get_or i.sections n u) (get_or i.sections j u) = sections_in_order i sound n j u after (slice_get_within i.sections j u first) in
            let p : Precedes x u = subst (λ (s : Section). Precedes s u) (get_or_from_slice_get i.sections n x u second) (subst (λ (s : Section). Precedes (get_or i.sections n u) s) (get_or_from_slice_get i.sections j u u first) order) in
            absurd (omega (arith, p.addresses (sym same), high', low))
        | inr is ↦ omega (arith, from, is)
      ]
    ]
