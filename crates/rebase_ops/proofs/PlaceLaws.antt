-- A word at its offset in its segment: the place that is recorded there is the word's, and no rule is broken.
use Rattle.std.proofs.Common.{◌≡◌, ◌≤◌, ◌<◌, ◌+◌, ◌-◌, ◌%◌, ◌^◌, ℕ, Bool, true, false, List, length, get_or, sym, ap, subst, ◌∙◌, arith, if◌then◌else◌, not, ◌&&◌, nat_eq, nat_le, inl, inr, Option, Some, None}
use Rattle.std.specs.Prelude.{option_map, slice_get}
use Rattle.std.specs.List.{AllPairs, position, position_or_len}
use Rattle.std.specs.Option.{option_or, unwrap_or}
use Rattle.std.proofs.lemmas.Bool.{cases_Bool}
use Rattle.std.proofs.lemmas.Bool.Decides.{nat_tests}
use Rattle.std.proofs.lemmas.Grind.{common_steps}
use Rattle.std.proofs.lemmas.List.Sums.{position_or_len_is}
use Rattle.std.proofs.lemmas.Option.{slice_get_within, get_or_from_slice_get}
use Rattle.macho_image.specs.Records.{Img, Seg}
use Rattle.macho_image.specs.declared.section.Section.{Section}
use Rattle.macho_image.specs.declared.place.Location.{Location}
use Rattle.macho_image.specs.declared.places.record.PlaceFault.{PlaceFault}
use Rattle.macho_image.specs.declared.places.record.PlaceFault.TheVariants.{OutsideSegment, NotWritable}
use Rattle.macho_image.specs.Places.{wrap, holds, section_at, segment_fault, section_fault, word_fault, address_in, fault_in, place_fault, location_in, location, Precedes, IsWord}
use Rattle.macho_image.proofs.SectionLaws.{one_holds}
use Rattle.dsc_base.specs.Limits.{record_limit}
use Rattle.rebase_ops.specs.Writing.{offset_from, offset_in}

position_is : (p : Section → Bool) (xs : List Section) (i : ℕ) → position_or_len p xs ≡ i → i < length xs → position p xs ≡ Some i
position_is p xs i e inside = grind (arith, common_steps)

-- the section of a word is the one that is found
around : (image : Img) (l : Location) → AllPairs Precedes image.sections → IsWord image l → section_at image.sections l.segment l.address ≡ Some l.section
around image l order word =
    let xs = image.sections in
    let i = l.section - 1 in
    let x = word.section in
    let inside : l.section - 1 < length image.sections = slice_get_within xs i x word.section_is in
    let here : get_or image.sections (l.section - 1) word.section ≡ word.section = get_or_from_slice_get xs i x x word.section_is in
    let around_it : holds 8 l.segment l.address word.section ≡ true =
    held word.section.segment l.segment word.section.addr word.section.size l.address word.in_segment word.section_from word.section_to in
    let holds_it : holds 8 l.segment l.address (get_or image.sections (l.section - 1) word.section) ≡ true = ap (holds 8 l.segment l.address) here ∙ around_it in
    let first : position_or_len (holds 8 l.segment l.address) image.sections ≡ l.section - 1 =
    position_or_len_is (holds 8 l.segment l.address) xs i x (omega arith) (λ k lt. earlier k lt inside holds_it) (λ _. holds_it) in
    ap (λ (o : Option ℕ). option_map (λ (k : ℕ). k + 1) o) (position_is (holds 8 l.segment l.address) xs i first inside)
    ∙ ap (λ (k : ℕ). Some k) (let some = word.section_counts in omega arith)
  where
    earlier : (k : ℕ) → k < l.section - 1 → l.section - 1 < length image.sections → holds 8 l.segment l.address (get_or image.sections (l.section - 1) word.section) ≡ true
        → holds 8 l.segment l.address (get_or image.sections k word.section) ≡ false
    earlier k lt inside there = elim (cases_Bool (holds 8 l.segment l.address (get_or image.sections k word.section))) [
      | inl also ↦ absurd (let same = one_holds 8 l.segment l.address image.sections (omega arith) order k (l.section - 1) word.section (omega arith) inside also there in omega (arith, same))
      | inr other ↦ other
    ]

    held : (segment g addr size address : ℕ) → segment ≡ g → addr ≤ address → address + 8 ≤ addr + size → (nat_eq segment g && (nat_le addr address && nat_le (address + 8) (addr + size))) ≡ true
    held segment g addr size address same from to = grind (arith, nat_tests)

back : (s : Seg) (address : ℕ) → s.vmaddr ≤ address → address < 2 ^ 64 → address_in s (address - s.vmaddr) ≡ address
back s address from small = let e : s.vmaddr + (address - s.vmaddr) ≡ address = omega arith in ap wrap e ∙ omega arith

pub offset_small : (image : Img) (l : Location) → IsWord image l → l.address < 2 ^ 64 → offset_in image l.segment l.address < 2 ^ 64
unfolding offset_in
offset_small image l word small = subst (λ (o : Option Seg). offset_from o l.address < 2 ^ 64) (sym word.segment_is) (omega arith)

-- two words of one segment are as far apart as their offsets
pub offset_next : (image : Img) (l m : Location) → IsWord image l → m.segment ≡ l.segment → m.address ≡ l.address + 8 → offset_in image m.segment m.address ≡ offset_in image l.segment l.address + 8
unfolding offset_in
offset_next image l m word same next =
    let from = word.from in
    ap (λ (g : ℕ). offset_from (slice_get image.segments g) m.address) same
    ∙ (ap (λ (o : Option Seg). offset_from o m.address) word.segment_is
    ∙ ((let e : m.address - word.segment.vmaddr ≡ l.address - word.segment.vmaddr + 8 = omega arith in e)
    ∙ ap (λ (o : Option Seg). offset_from o l.address + 8) (sym word.segment_is)))

pub located : (image : Img) (l : Location) → AllPairs Precedes image.sections → IsWord image l → l.address < 2 ^ 64 → location image (Some l.segment) (offset_in image l.segment l.address) ≡ l
unfolding location offset_in
located image l order word small =
    let s = word.segment in
    let place = back word.segment l.address word.from small in
    ap (λ (o : Option Seg). location_in image.sections l.segment o (offset_from o l.address)) word.segment_is
    ∙ (ap (λ (a : ℕ). let m : Location = record { segment = l.segment; section = unwrap_or (section_at image.sections l.segment a) 0; address = a } in m) place
    ∙ ap (λ (o : Option ℕ). let m : Location = record { segment = l.segment; section = unwrap_or o 0; address = l.address } in m) (around image l order word))

-- the tests of a record
segment_fine : (image : Img) (l : Location) (word : IsWord image l) → segment_fault word.segment l.address ≡ None
segment_fine image l word = fine word.segment.vmaddr word.segment.vmsize word.segment.initprot l.address word.from word.to word.writable
  where
    fine : (vmaddr vmsize initprot address : ℕ) → vmaddr ≤ address → address + 8 ≤ vmaddr + vmsize → initprot ≡ 3
        → ◌≡◌ {A = Option PlaceFault} (if not (nat_le vmaddr address && nat_le (address + 8) (vmaddr + vmsize)) then Some OutsideSegment else (if not (nat_eq initprot 3) then Some NotWritable else None)) None
    fine vmaddr vmsize initprot address from to writable = grind (arith, nat_tests)

word_fine : (address before : ℕ) → address % 4 ≡ 0 → address % 4096 ≤ 0xFF8 → before < record_limit → word_fault address before ≡ None
word_fine address before aligned in_page few = grind (arith, nat_tests)

pub placed_fine : (image : Img) (l : Location) (before : ℕ) → AllPairs Precedes image.sections → IsWord image l → l.address < 2 ^ 64 → before < record_limit
    → place_fault image (Some l.segment) (offset_in image l.segment l.address) before ≡ None
unfolding place_fault offset_in
placed_fine image l before order word small few =
    let place = back word.segment l.address word.from small in
    ap (λ (o : Option Seg). fault_in image.sections l.segment o (offset_from o l.address) before) word.segment_is
    ∙ (ap (λ (a : ℕ). option_or (segment_fault word.segment a) (option_or (section_fault (section_at image.sections l.segment a)) (word_fault a before))) place
    ∙ (ap (λ (o : Option PlaceFault). option_or o (option_or (section_fault (section_at image.sections l.segment l.address)) (word_fault l.address before))) (segment_fine image l word)
    ∙ (ap (λ (o : Option ℕ). option_or (section_fault o) (word_fault l.address before)) (around image l order word)
    ∙ word_fine l.address before word.aligned word.in_page few)))
