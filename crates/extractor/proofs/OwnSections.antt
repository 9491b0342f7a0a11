-- The sections of the image that a file has are those of the cached one.
use Rattle.std.proofs.Common.{◌≡◌, ◌<◌, ◌⊎◌, ℕ, zero, suc, ◌+◌, ◌-◌, Bool, true, false, not, Option, Some, None, List, [], ◌∷◌, ◌++◌, map, length, get_or, refl, sym, ap, ap₂, ◌∙◌, subst, arith, inl, inr, if◌then◌else◌, nat_lt}
use Rattle.std.specs.Prelude.{slice_get}
use Rattle.std.specs.List.{AllByRecursion}
use Rattle.std.proofs.lemmas.Bool.{cases_Bool}
use Rattle.std.proofs.lemmas.Option.{slice_get_within, get_or_from_slice_get}
use Rattle.std.proofs.lemmas.List.{get_or-map}
use Rattle.dsc_base.specs.Refusals.{least}
use Rattle.macho_image.specs.Records.{Seg, Img, SegmentLoad, SectionLoad}
use Rattle.macho_image.specs.Macho.{header_size, loads_of, segment_loads, segment_with, section_of, sections_from}
use Rattle.macho_image.specs.Breaks.{IsSound, unread}
use Rattle.macho_image.specs.Rules.{is_linkedit_segment, is_linkedit, is_well_shaped, first_segment, first_crossing, misplaced}
use Rattle.macho_image.specs.declared.section.Section.{Section}
use Rattle.macho_image.specs.declared.place.Location.{Location}
use Rattle.macho_image.proofs.SoundSegments.{segment_shape}
use Rattle.macho_image.proofs.Unbroken.{least_none_both}
use Rattle.macho_edit.specs.declared.segment.SegmentPlace.{SegmentPlace}
use Rattle.macho_edit.specs.MovedImage.{followed, standalone_image}
use Rattle.macho_edit.specs.Placed.{places_of}
use Rattle.macho_edit.proofs.Grounds.{HasRoom, all_room, IsBare, all_bare}
use Rattle.macho_image.proofs.HeaderRules.{IsShaped, all_fail, all_shaped}
use Rattle.macho_edit.proofs.PlaceLaws.{place_other, length-places_of, places_of-at}
use Rattle.split_info.proofs.SoundSections.{section_inside}
use Rattle.extractor.specs.ExtractOf.{moves_from, spots_of}
use Rattle.extractor.proofs.AlikeLaws.{AreLike}
use Rattle.extractor.proofs.BodyLaws.{length-moves}
use Rattle.extractor.proofs.OwnSegments.{own_segment, writable_other}
use Rattle.extractor.proofs.OwnStreams.{own_image}
use Rattle.extractor.proofs.PlacedLaws.{move_at}

-- ---- the command of a section's segment

pub one_of_two : (us vs : List Section) (j : ℕ) (u : Section) → slice_get (us ++ vs) j ≡ Some u → (slice_get us j ≡ Some u) ⊎ ((n : ℕ) × (slice_get vs n ≡ Some u))
one_of_two [] vs j u got = inr (j, got)
one_of_two (v ∷ us) vs zero u got = inl got
one_of_two (v ∷ us) vs (suc j) u got = one_of_two us vs j u got

of_one : (k j : ℕ) (u : Section) (xs : List SectionLoad) → slice_get (map (section_of k) xs) j ≡ Some u → (u.segment ≡ k) × (0 < length xs)
unfolding section_of
of_one k j u [] got = absurd (cc)
of_one k zero u (x ∷ xs) got = let e : section_of k x ≡ u = cc in (sym (ap (λ (v : Section). v.segment) e), omega arith)
of_one k (suc j) u (x ∷ xs) got = let rest = of_one k j u xs got in (rest.0, omega arith)

record IsHome (k : ℕ) (ls : List SegmentLoad) (u : Section) : Type 0 where
  load : SegmentLoad
  place : ℕ
  there : slice_get ls place ≡ Some load
  number : u.segment ≡ k + place
  some : 0 < length load.sections

home_in : (k : ℕ) (ls : List SegmentLoad) (j : ℕ) (u : Section) → slice_get (sections_from k ls) j ≡ Some u → IsHome k ls u
home_in k [] j u got = absurd (cc)
home_in k (l ∷ ls) j u got = elim (one_of_two (map (section_of k) l.sections) (sections_from (k + 1) ls) j u got) [
  | inl here ↦
      let own = of_one k j u l.sections here in
      let number = own.0 in
      record { load = l; place = 0; there = refl; number = omega (arith, number); some = own.1 }
  | inr later ↦
      let rest = home_in (k + 1) ls later.0 u later.1 in
      record { load = rest.load; place = suc rest.place; there = rest.there; number = omega (arith, rest.number); some = rest.some }
]

load_at : (P : SegmentLoad → Type 0) (ls : List SegmentLoad) (n : ℕ) (l : SegmentLoad) → AllByRecursion P ls → slice_get ls n ≡ Some l → P l
load_at P [] n l all got = absurd (cc)
load_at P (m ∷ ms) zero l all got = let e : m ≡ l = cc in subst P e all.0
load_at P (m ∷ ms) (suc n) l all got = load_at P ms n l all.1 got

same_name : (ss : List Seg) (ls : List SegmentLoad) (g : ℕ) (s : Seg) (l : SegmentLoad) → map unread ss ≡ map (segment_with []) ls → slice_get ss g ≡ Some s → slice_get ls g ≡ Some l → is_linkedit_segment s ≡ is_linkedit l
same_name [] ls g s l same got at = absurd (cc)
same_name (t ∷ ts) [] g s l same got at = absurd (cc)
same_name (t ∷ ts) (m ∷ ms) zero s l same got at =
    let here : unread t ≡ segment_with [] m = cc in
    let a : t ≡ s = cc in
    let b : m ≡ l = cc in
    ap (λ (u : Seg). is_linkedit_segment u) (sym a) ∙ (ap (λ (u : Seg). is_linkedit_segment u) here ∙ ap (λ (n : SegmentLoad). is_linkedit n) b)
same_name (t ∷ ts) (m ∷ ms) (suc g) s l same got at =
    let later : map unread ts ≡ map (segment_with []) ms = cc in
    same_name ts ms g s l later got at

unless_few : (b : Bool) (at : ℕ) (o : Option ℕ) → (if b then Some at else o) ≡ None → o ≡ None
unless_few true at o e = absurd (cc)
unless_few false at o e = e

-- a section's segment isn't `__LINKEDIT`, which has none
pub section_other : (i : Img) (j : ℕ) (u : Section) (s : Seg) → IsSound i → slice_get i.sections j ≡ Some u → slice_get i.segments u.segment ≡ Some s → is_linkedit_segment s ≡ false
section_other i j u s sound got at =
    let ls : List SegmentLoad = segment_loads (loads_of i.header) in
    let size : ℕ = header_size i.header in
    let home = home_in 0 ls j u (ap (λ (xs : List Section). slice_get xs j) (sym sound.sections) ∙ got) in
    let one = unless_few (nat_lt (length ls) 2) 0 (least (first_segment (λ l. not (is_well_shaped l)) ls) (least (first_crossing [] ls) (misplaced size ls))) (segment_shape i sound) in
    let two = least_none_both (first_segment (λ l. not (is_well_shaped l)) ls) (least (first_crossing [] ls) (misplaced size ls)) one in
    let three = least_none_both (first_crossing [] ls) (misplaced size ls) two.1 in
    let shaped = load_at IsShaped ls home.place home.load (all_shaped ls (all_fail (λ l. not (is_well_shaped l)) ls two.0)) home.there in
    let room = load_at HasRoom ls home.place home.load (all_room (loads_of i.header)) home.there in
    let bare = load_at IsBare ls home.place home.load (all_bare size ls three.1) home.there in
    let number : home.place ≡ u.segment = omega (arith, home.number) in
    let here : slice_get i.segments home.place ≡ Some s = ap (λ (n : ℕ). slice_get i.segments n) number ∙ at in
    same_name i.segments ls home.place s home.load sound.segments here home.there
    ∙ elim (cases_Bool (is_linkedit home.load)) [
      | inl is ↦ let none = bare is in absurd (omega (arith, none, shaped.size, room, home.some))
      | inr other ↦ other
    ]

-- ---- each stays

map_same : (f : Section → Section) (xs : List Section) → ((j : ℕ) (x : Section) → slice_get xs j ≡ Some x → f x ≡ x) → map f xs ≡ xs
map_same f [] same = refl
map_same f (x ∷ xs) same = ap₂ (λ (y : Section) (ys : List Section). y ∷ ys) (same 0 x refl) (map_same f xs (λ j y got. same (suc j) y got))

abbrev no_place : SegmentPlace
no_place = record { address = 0; file = 0; vmsize = 0; filesize = 0 }

stays : (k : ℕ) (i : Img) (words : List Location) (j : ℕ) (u : Section) → IsSound i → slice_get i.sections j ≡ Some u → followed i.segments (places_of (spots_of k i words) (moves_from 0 i.segments) i.segments) u ≡ u
stays k i words j u sound got =
    let moves = moves_from 0 i.segments in
    let spots = spots_of k i words in
    let inside = section_inside i j u sound got in
    let s = inside.segment in
    let within : u.segment < length i.segments = slice_get_within i.segments u.segment s inside.segment_is in
    let many = length-moves 0 i.segments in
    let places : length (places_of (spots_of k i words) (moves_from 0 i.segments) i.segments) ≡ length i.segments = length-places_of spots moves i.segments many in
    let own : get_or i.segments u.segment inside.segment ≡ inside.segment = get_or_from_slice_get i.segments u.segment s s inside.segment_is in
    let other : is_linkedit_segment (get_or i.segments u.segment inside.segment) ≡ false = ap (λ (t : Seg). is_linkedit_segment t) own ∙ section_other i j u s sound got inside.segment_is in
    let m = get_or moves u.segment (record { address = 0; file = 0 }) in
    let goes : get_or (map (λ p. p.address) (places_of (spots_of k i words) (moves_from 0 i.segments) i.segments)) u.segment 0 ≡ inside.segment.vmaddr =
    get_or-map (λ (p : SegmentPlace). p.address) (places_of spots moves i.segments) u.segment no_place 0 (omega (arith, within, places))
    ∙ (ap (λ (p : SegmentPlace). p.address) (places_of-at spots moves i.segments u.segment no_place (record { address = 0; file = 0 }) s (omega (arith, within, many)) within
    ∙ place_other spots m (get_or i.segments u.segment s).name (get_or i.segments u.segment s).vmsize other)
    ∙ (move_at 0 i.segments u.segment (record { address = 0; file = 0 }) s within ∙ ap (λ (t : Seg). t.vmaddr) own)) in
    let was : get_or (map (λ t. t.vmaddr) i.segments) u.segment 0 ≡ inside.segment.vmaddr =
    get_or-map (λ (t : Seg). t.vmaddr) i.segments u.segment s 0 within ∙ ap (λ (t : Seg). t.vmaddr) own in
    let same : get_or (map (λ p. p.address) (places_of (spots_of k i words) (moves_from 0 i.segments) i.segments)) u.segment 0 + (u.addr - get_or (map (λ t. t.vmaddr) i.segments) u.segment 0) ≡ u.addr = omega (arith, goes, was, inside.from) in
    ap (λ (a : ℕ). let v : Section = record u { addr = a } in v) same

pub own_sections : (k : ℕ) (i : Img) (words : List Location) → IsSound i → (own_image k i words).sections ≡ i.sections
unfolding own_image standalone_image
own_sections k i words sound =
    map_same (followed i.segments (places_of (spots_of k i words) (moves_from 0 i.segments) i.segments)) i.sections (λ j u got. stays k i words j u sound got)

-- ---- so the images are alike

pub own_like : (k : ℕ) (i : Img) (words : List Location) → IsSound i → AreLike i (own_image k i words)
own_like k i words sound = record {
  sections = own_sections k i words sound;
  segments = λ g s got writable.
      let is = own_segment k g i words s got (writable_other i g s sound got writable) in
      (is.own, (is.there, is.like));
}
