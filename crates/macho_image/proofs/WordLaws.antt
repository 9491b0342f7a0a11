-- What is true of a word that a record names without a fault.
use Rattle.std.proofs.Common.{◌≡◌, ◌≤◌, ◌<◌, ◌+◌, ◌-◌, ◌%◌, ℕ, Bool, true, false, not, List, get_or, refl, sym, ap, ◌∙◌, subst, arith, if◌then◌else◌, nat_le, nat_lt, nat_eq, Option, Some, None}
use Rattle.std.specs.Prelude.{option_map, slice_get}
use Rattle.std.specs.List.{position}
use Rattle.std.specs.Option.{option_or, unwrap_or}
use Rattle.std.proofs.lemmas.Bool.Decides.{nat_tests}
use Rattle.std.proofs.lemmas.List.Quantifiers.{position-Some}
use Rattle.std.proofs.lemmas.Option.{slice_get-get_or}
use Rattle.macho_image.specs.Records.{Img, Seg}
use Rattle.macho_image.specs.declared.section.Section.{Section}
use Rattle.macho_image.specs.declared.place.Location.{Location}
use Rattle.macho_image.specs.declared.places.record.PlaceFault.TheVariants.{OutsideSegment, NotWritable, Misaligned, CrossesPage, TooMany}
use Rattle.macho_image.specs.Places.{lies_in, holds, section_at, segment_fault, section_fault, word_fault, address_in, fault_in, place_fault, location_in, location, IsWord}
use Rattle.dsc_base.specs.Limits.{record_limit}
use Rattle.macho_image.proofs.SectionLaws.{IsHeld, held, no_section}
use Rattle.macho_image.proofs.Unbroken.{or_none}

-- the tests, where none of them fails
pub record IsInside (s : Seg) (address : ℕ) : Type 0 where
  pub writable : s.initprot ≡ 3
  pub from : s.vmaddr ≤ address
  pub to : address + 8 ≤ s.vmaddr + s.vmsize

inside : (s : Seg) (address : ℕ) → segment_fault s address ≡ None → IsInside s address
inside s address none = go (lies_in s address) (nat_eq s.initprot 3) refl refl none
  where
    go : (a b : Bool) → lies_in s address ≡ a → nat_eq s.initprot 3 ≡ b → (if not a then Some OutsideSegment else (if not b then Some NotWritable else None)) ≡ None → IsInside s address
    go true true here can none = record { writable = grind (arith, nat_tests); from = grind (arith, nat_tests); to = grind (arith, nat_tests) }
    go true false here can none = absurd (cc)
    go false b here can none = absurd (cc)

pub record IsGoodWord (address before : ℕ) : Type 0 where
  pub aligned : address % 4 ≡ 0
  pub in_page : address % 4096 ≤ 0xFF8
  pub few : before < record_limit

good_word : (address before : ℕ) → word_fault address before ≡ None → IsGoodWord address before
good_word address before none = go (nat_eq (address % 4) 0) (nat_lt 0xFF8 (address % 4096)) (nat_le record_limit before) refl refl refl none
  where
    go : (a b c : Bool) → nat_eq (address % 4) 0 ≡ a → nat_lt 0xFF8 (address % 4096) ≡ b → nat_le record_limit before ≡ c
        → (if not a then Some Misaligned else (if b then Some CrossesPage else (if c then Some TooMany else None))) ≡ None → IsGoodWord address before
    go true false false e f g none = record { aligned = grind (arith, nat_tests); in_page = grind (arith, nat_tests); few = grind (arith, nat_tests) }
    go true false true e f g none = absurd (cc)
    go true true c e f g none = absurd (cc)
    go false b c e f g none = absurd (cc)

-- the section that was found
pub record HasSection (xs : List Section) (g address number : ℕ) : Type 0 where
  pub section : Section
  pub counts : 1 ≤ number
  pub is : slice_get xs (number - 1) ≡ Some section
  pub holds_it : IsHeld 8 g address section

section_there : (xs : List Section) (g address number : ℕ) → section_at xs g address ≡ Some number → HasSection xs g address number
section_there xs g address number found = go (position (holds 8 g address) xs) refl found
  where
    go : (o : Option ℕ) → position (holds 8 g address) xs ≡ o → option_map (λ (k : ℕ). k + 1) o ≡ Some number → HasSection xs g address number
    go None e found = absurd (cc)
    go (Some k) e found =
        let n : k + 1 ≡ number = cc in
        let back : k ≡ number - 1 = omega arith in
        let p = position-Some (holds 8 g address) xs k no_section e in
        record {
          section = get_or xs k no_section;
          counts = omega arith;
          is = ap (λ (i : ℕ). slice_get xs i) (sym back) ∙ slice_get-get_or xs k no_section p.0;
          holds_it = held 8 g address (get_or xs k no_section) p.1;
        }

-- a record without a fault
pub record IsAccepted (image : Img) (g : Option ℕ) (offset before : ℕ) : Type 0 where
  pub word : IsWord image (location image g offset)
  pub few : before < record_limit

pub accepted_one : (image : Img) (g : Option ℕ) (offset before : ℕ) → place_fault image g offset before ≡ None → IsAccepted image g offset before
unfolding place_fault location
accepted_one image None offset before none = absurd (cc)
accepted_one image (Some n) offset before none = go (slice_get image.segments n) refl none
  where
    put : (s : Seg) (number : ℕ) → slice_get image.segments n ≡ Some s → section_at image.sections n (address_in s offset) ≡ Some number
        → segment_fault s (address_in s offset) ≡ None → word_fault (address_in s offset) before ≡ None → IsAccepted image (Some n) offset before
    put s number there found first last =
        let address = address_in s offset in
        let i = inside s address first in
        let h = section_there image.sections n address number found in
        let w = good_word address before last in
        let l : Location = record { segment = n; section = number; address = address } in
        let r : IsWord image l = record {
          segment = s;
          segment_is = there;
          writable = i.writable;
          from = i.from;
          to = i.to;
          section = h.section;
          section_counts = h.counts;
          section_is = h.is;
          in_segment = h.holds_it.segment;
          section_from = h.holds_it.from;
          section_to = h.holds_it.to;
          aligned = w.aligned;
          in_page = w.in_page;
        } in
        let e : l ≡ location_in image.sections n (slice_get image.segments n) offset =
        ap (λ (o : Option ℕ). let m : Location = record { segment = n; section = unwrap_or o 0; address = address } in m) (sym found)
        ∙ ap (λ (o : Option Seg). location_in image.sections n o offset) (sym there) in
        record { word = subst (λ (m : Location). IsWord image m) e r; few = w.few }

    with_section : (s : Seg) (o : Option ℕ) → slice_get image.segments n ≡ Some s → section_at image.sections n (address_in s offset) ≡ o → section_fault o ≡ None
        → segment_fault s (address_in s offset) ≡ None → word_fault (address_in s offset) before ≡ None → IsAccepted image (Some n) offset before
    with_section s None there found second first last = absurd (cc)
    with_section s (Some number) there found second first last = put s number there found first last

    go : (o : Option Seg) → slice_get image.segments n ≡ o → fault_in image.sections n o offset before ≡ None → IsAccepted image (Some n) offset before
    go None there none = absurd (cc)
    go (Some s) there none =
        let address = address_in s offset in
        let one = or_none (segment_fault s address) (option_or (section_fault (section_at image.sections n address)) (word_fault address before)) none in
        let two = or_none (section_fault (section_at image.sections n address)) (word_fault address before) one.1 in
        with_section s (section_at image.sections n address) there refl two.0 one.0 two.1
