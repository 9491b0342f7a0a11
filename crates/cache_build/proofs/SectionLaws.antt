-- What the rules on an image's header say of its segments and sections as they are loaded: no address is in two segments, and each section lies in its segment.
use Rattle.std.proofs.Common.{◌≡◌, ◌≤◌, ◌<◌, ℕ, zero, suc, ◌+◌, ◌-◌, ◌*◌, ◌/◌, true, false, not, Some, None, List, [], ◌∷◌, map, length, get_or, refl, sym, ap, ◌∙◌, subst, arith, inl, inr}
use Rattle.std.specs.Prelude.{slice_get}
use Rattle.std.specs.List.{AllByRecursion}
use Rattle.std.proofs.lemmas.Bool.{cond-true, and_parts, not-false}
use Rattle.std.proofs.lemmas.Option.{same_Some}
use Rattle.macho_image.specs.Records.{Img, Seg, SegmentLoad, SectionLoad}
use Rattle.macho_image.specs.declared.section.Section.{Section}
use Rattle.macho_image.specs.Macho.{header_size, loads_of, segment_loads, segment_with, section_of, sections_from}
use Rattle.macho_image.specs.Rules.{first_crowded, is_good_text, is_linkedit, is_linkedit_name, is_linkedit_segment, is_text, is_well_shaped, misplaced, misplaced_behind, sections_stand, sections_start, section_stands}
use Rattle.macho_image.specs.Breaks.{unread, IsSound}
use Rattle.macho_image.proofs.Unbroken.{least_none_both, when_true}
use Rattle.macho_edit.proofs.BoolLaws.{bool_cases}
use Rattle.macho_edit.proofs.Grounds.{all_bare, all_room, HasRoom, IsBare}
use Rattle.macho_edit.proofs.KeptSections.{Stands, stands_from}
use Rattle.macho_edit.proofs.KeptSegments.{good_text, IsGoodText}
use Rattle.macho_image.specs.Places.{wrap}
use Rattle.load_model.specs.Loading.{in_memory, segment_cells}
use Rattle.macho_image.proofs.HeaderRules.{all_fail, sound_rules, shape_parts, IsShaped, all_shaped}
use Rattle.macho_image.proofs.SectionLaws.{start_above}
use Rattle.ref_rewrite.proofs.HomeLaws.{one_of_two}

-- a section and the segment that it lies in; in the first segment, behind the header
pub record IsInside (image : Img) (u : Section) : Type 0 where
  pub home : Seg
  pub found : slice_get image.segments u.segment ≡ Some home
  pub above : home.vmaddr ≤ u.addr
  pub inside : u.addr + u.size ≤ home.vmaddr + home.vmsize
  pub other : is_linkedit_segment home ≡ false
  pub behind : u.segment ≡ 0 → home.vmaddr + header_size image.header ≤ u.addr

-- a section of one segment
record StandsIn (s : SegmentLoad) (start k : ℕ) (u : Section) : Type 0 where
  number : u.segment ≡ k
  above : start ≤ u.addr
  inside : u.addr + u.size ≤ s.vmaddr + s.vmsize
  some : 0 < length s.sections

stands_in : (s : SegmentLoad) (start floor k j : ℕ) (u : Section) (xs : List SectionLoad) → length xs ≤ length s.sections → sections_stand s start floor xs ≡ true → slice_get (map (section_of k) xs) j ≡ Some u
    → StandsIn s start k u
unfolding section_of
stands_in s start floor k j u [] le is got = absurd (cc)
stands_in s start floor k zero u (x ∷ xs) le is got =
    let stands : Stands s start floor x = stands_from s start floor x (and_parts (section_stands s start floor x) (sections_stand s start (x.addr + x.size) xs) is).0 in
    subst (λ (v : Section). StandsIn s start k v) (same_Some (section_of k x) u got)
    (record { number = refl; above = stands.above; inside = stands.inside; some = omega (arith, le) })
stands_in s start floor k (suc j) u (x ∷ xs) le is got =
    stands_in s start (x.addr + x.size) k j u xs (omega (arith, le)) (and_parts (section_stands s start floor x) (sections_stand s start (x.addr + x.size) xs) is).1 got

-- the command of a section's segment
record IsLoaded (size k : ℕ) (ls : List SegmentLoad) (u : Section) : Type 0 where
  home : SegmentLoad
  place : ℕ
  found : slice_get ls place ≡ Some home
  stands : StandsIn home (sections_start size home) (k + place) u

is_loaded : (size k : ℕ) (ls : List SegmentLoad) (j : ℕ) (u : Section) → AllByRecursion (λ (s : SegmentLoad). not (sections_stand s (sections_start size s) 0 s.sections) ≡ false) ls
    → slice_get (sections_from k ls) j ≡ Some u → IsLoaded size k ls u
is_loaded size k [] j u stand got = absurd (cc)
is_loaded size k (l ∷ ls) j u stand got = elim (one_of_two (map (section_of k) l.sections) (sections_from (k + 1) ls) j u got) [
  | inl here ↦ record {
    home = l;
    place = 0;
    found = refl;
    stands = subst (λ (n : ℕ). StandsIn l (sections_start size l) n u) (omega arith)
        (stands_in l (sections_start size l) 0 k j u l.sections (omega arith) (not-false (sections_stand l (sections_start size l) 0 l.sections) stand.0) here);
  }
  | inr later ↦
      let rest : IsLoaded size (k + 1) ls u = is_loaded size (k + 1) ls later.0 u stand.1 later.1 in
      record {
        home = rest.home;
        place = suc rest.place;
        found = rest.found;
        stands = subst (λ (n : ℕ). StandsIn rest.home (sections_start size rest.home) n u) (omega arith) rest.stands;
      }
]

all_at : (P : SegmentLoad → Type 0) (ls : List SegmentLoad) (g : ℕ) (l : SegmentLoad) → AllByRecursion P ls → slice_get ls g ≡ Some l → P l
all_at P [] g l all got = absurd (cc)
all_at P (k ∷ ls) zero l all got = subst P (same_Some k l got) all.0
all_at P (k ∷ ls) (suc g) l all got = all_at P ls g l all.1 got

-- the segment of a command
segment_at : (ss : List Seg) (ls : List SegmentLoad) (g : ℕ) (l : SegmentLoad) → map unread ss ≡ map (segment_with []) ls → slice_get ls g ≡ Some l → (s : Seg) × (slice_get ss g ≡ Some s) × (unread s ≡ segment_with [] l)
segment_at ss [] g l same got = absurd (cc)
segment_at [] (k ∷ ls) g l same got = absurd (cc)
segment_at (s ∷ ss) (k ∷ ls) zero l same got =
    let here : unread s ≡ segment_with [] k = cc in
    (s, refl, here ∙ ap (segment_with []) (same_Some k l got))
segment_at (s ∷ ss) (k ∷ ls) (suc g) l same got =
    let later : map unread ss ≡ map (segment_with []) ls = cc in
    segment_at ss ls g l later got

-- a segment with sections isn't `__LINKEDIT`
other_of_sections : (l : SegmentLoad) → IsShaped l → HasRoom l → IsBare l → 0 < length l.sections → is_linkedit l ≡ false
other_of_sections l shaped room bare some = elim (bool_cases (is_linkedit l)) [
  | inl other ↦ other
  | inr is ↦
      let none : l.nsects ≡ 0 = bare is in
      let size : l.size ≡ 72 + 80 * l.nsects = shaped.size in
      let many : length l.sections ≡ (l.size - 72) / 80 = room in
      absurd (omega arith)
]

first_text : (size : ℕ) (ls : List SegmentLoad) (l : SegmentLoad) → misplaced size ls ≡ None → slice_get ls 0 ≡ Some l → is_text l ≡ true
first_text size [] l none got = absurd (cc)
first_text size (k ∷ ls) l none got =
    let good : IsGoodText size k = good_text size k (when_true (is_good_text size k) k.at (misplaced_behind ls) none).0 in
    subst (λ (s : SegmentLoad). is_text s ≡ true) (same_Some k l got) good.named

-- an image's section lies in its segment, which isn't `__LINKEDIT`
pub section_inside : (image : Img) → IsSound image → (j : ℕ) (u : Section) → slice_get image.sections j ≡ Some u → IsInside image u
section_inside image sound j u got =
    let ls : List SegmentLoad = segment_loads (loads_of image.header) in
    let size : ℕ = header_size image.header in
    let rules = sound_rules image sound in
    let parts = shape_parts size ls rules.segments in
    let stand = all_fail (λ s. not (sections_stand s (sections_start size s) 0 s.sections)) ls (least_none_both _ (first_crowded 0 ls) rules.sections).0 in
    let found : IsLoaded size 0 ls u = is_loaded size 0 ls j u stand (ap (λ (xs : List Section). slice_get xs j) (sym sound.sections) ∙ got) in
    let stands : StandsIn found.home (sections_start size found.home) (0 + found.place) u = found.stands in
    let shaped : AllByRecursion IsShaped ls = all_shaped ls (all_fail (λ s. not (is_well_shaped s)) ls parts.1) in
    let home = segment_at image.segments ls found.place found.home sound.segments found.found in
    let address : home.0.vmaddr ≡ found.home.vmaddr = ap (λ (x : Seg). x.vmaddr) home.2 in
    let long : home.0.vmsize ≡ found.home.vmsize = ap (λ (x : Seg). x.vmsize) home.2 in
    let number : u.segment ≡ found.place = omega (arith, stands.number) in
    let start : found.home.vmaddr ≤ sections_start size found.home = start_above size found.home in
    let other : is_linkedit found.home ≡ false =
    other_of_sections found.home (all_at IsShaped ls found.place found.home shaped found.found) (all_at HasRoom ls found.place found.home (all_room (loads_of image.header)) found.found)
    (all_at IsBare ls found.place found.home (all_bare size ls parts.3) found.found) stands.some in
    record {
      home = home.0;
      found = ap (λ (n : ℕ). slice_get image.segments n) number ∙ home.1;
      above = omega (arith, stands.above, start, address);
      inside = omega (arith, stands.inside, address, long);
      other = ap (λ (x : Seg). is_linkedit_name x.name) home.2 ∙ other;
      behind = λ first.
          let none : found.place ≡ 0 = omega (arith, number, first) in
          let text : is_text found.home ≡ true = first_text size ls found.home parts.3 (ap (λ (n : ℕ). slice_get ls n) (sym none) ∙ found.found) in
          let begin : sections_start size found.home ≡ found.home.vmaddr + size = cond-true (is_text found.home) (found.home.vmaddr + size) found.home.vmaddr text in
          omega (arith, begin, stands.above, address);
    }

-- a byte of a section, by how far it lies above the start of its segment, as the segments are loaded at a slide; in the first segment, behind the header
pub record IsLoadedByte (image : Img) (slide offset : ℕ) (u : Section) : Type 0 where
  pub home : Seg
  pub found : slice_get image.segments u.segment ≡ Some home
  pub above : home.vmaddr ≤ u.addr
  pub distance : ℕ
  pub far : distance ≡ u.addr - home.vmaddr + offset
  pub within : distance < home.vmsize
  pub other : is_linkedit_segment home ≡ false
  pub behind : u.segment ≡ 0 → length image.header ≤ distance
  pub there : segment_cells slide image.segments (wrap (u.addr + offset + slide)) ≡ Some (get_or (in_memory home) distance 0)
