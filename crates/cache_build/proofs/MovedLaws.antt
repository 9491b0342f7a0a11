-- The image whose segments are moved has the shape of the image, and each section stands as far from the start of its segment.
use Rattle.std.proofs.Common.{◌≡◌, ◌≤◌, ◌<◌, ℕ, zero, suc, ◌+◌, ◌-◌, false, Option, Some, List, [], ◌∷◌, map, length, get_or, refl, sym, ap, ap₂, ◌∙◌, arith}
use Rattle.std.specs.Prelude.{option_map, slice_get}
use Rattle.std.proofs.lemmas.Option.{same_Some, slice_get_within, get_or_from_slice_get, slice_get-map}
use Rattle.macho_image.specs.Records.{Img, Seg}
use Rattle.macho_image.specs.declared.place.Moved.{Moved}
use Rattle.macho_image.specs.declared.section.Section.{Section}
use Rattle.macho_image.specs.Rules.{is_linkedit_segment}
use Rattle.macho_image.specs.Breaks.{IsSound}
use Rattle.macho_edit.specs.declared.segment.SegmentPlace.{SegmentPlace}
use Rattle.macho_edit.specs.declared.spots.LinkSpots.{LinkSpots}
use Rattle.macho_edit.specs.Placed.{places_of}
use Rattle.macho_edit.specs.MovedImage.{seated_all, followed, moved_image}
use Rattle.macho_edit.proofs.PlaceLaws.{place_other, length-places_of}
use Rattle.macho_image.specs.Places.{above}
use Rattle.macho_image.specs.Segments.{start_of}
use Rattle.load_model.specs.Corresponds.{shape_of}
use Rattle.load_model.proofs.LoadingLaws.{IsLow, low_at}
use Rattle.load_model.proofs.ShapeLaws.{AreKept, AreSectionsKept, shape_kept}
use Rattle.cache_build.proofs.SectionLaws.{section_inside, IsInside}
use Rattle.load_model.proofs.SoundApart.{sound_apart}

-- where the segments start, and where they go, by their numbers
abbrev starts_in : List Seg → ℕ → ℕ
starts_in ss g = get_or (map (λ (s : Seg). s.vmaddr) ss) g 0

abbrev addresses_in : List SegmentPlace → ℕ → ℕ
addresses_in ps g = get_or (map (λ (p : SegmentPlace). p.address) ps) g 0

kept_from : (starts moved : ℕ → ℕ) (g : ℕ) (spots : LinkSpots) (moves : List Moved) (ss : List Seg) (b : List ℕ) → length moves ≡ length ss
    → ((i : ℕ) → starts (g + i) ≡ starts_in ss i) → ((i : ℕ) → moved (g + i) ≡ addresses_in (places_of spots moves ss) i)
    → AreKept starts moved g ss (seated_all b (places_of spots moves ss) ss)
kept_from starts moved g spots [] [] b long from to = tt
kept_from starts moved g spots [] (s ∷ ss) b long from to = absurd (omega arith)
kept_from starts moved g spots (m ∷ ms) [] b long from to = absurd (omega arith)
kept_from starts moved g spots (m ∷ ms) (s ∷ ss) b long from to = (
  refl,
  λ other. (ap (λ (p : SegmentPlace). p.vmsize) (place_other spots m s.name s.vmsize other), refl),
  ap starts (omega arith) ∙ from 0,
  ap moved (omega arith) ∙ to 0,
  kept_from starts moved (g + 1) spots ms ss b (omega arith)
      (λ i. ap starts (omega arith) ∙ from (suc i))
      (λ i. ap moved (omega arith) ∙ to (suc i)),
)

-- a section stands low, above the start of its segment, before and behind the move
record StandsLow (starts moved : ℕ → ℕ) (u : Section) : Type 0 where
  above : starts u.segment ≤ u.addr
  low : u.addr ≤ 0x8000_0000_0000
  moved_low : moved u.segment + (u.addr - starts u.segment) ≤ 0x8000_0000_0000

same_distance : (a c x : ℕ) → a ≤ x → x ≤ 0x8000_0000_0000 → c + (x - a) ≤ 0x8000_0000_0000 → above c (c + (x - a)) ≡ above a x
unfolding above
same_distance a c x high low moved = omega arith

sections_kept : (segments : List Seg) (ps : List SegmentPlace) (us : List Section) → ((j : ℕ) (u : Section) → slice_get us j ≡ Some u → StandsLow (starts_in segments) (addresses_in ps) u)
    → AreSectionsKept (starts_in segments) (addresses_in ps) us (map (followed segments ps) us)
sections_kept segments ps [] stand = tt
sections_kept segments ps (u ∷ us) stand =
    let here : StandsLow (starts_in segments) (addresses_in ps) u = stand 0 u refl in (
      refl,
      refl,
      refl,
      same_distance (starts_in segments u.segment) (addresses_in ps u.segment) u.addr here.above here.low here.moved_low,
      sections_kept segments ps us (λ j v got. stand (suc j) v got),
    )

starts_is : (ss : List Seg) (g : ℕ) (s : Seg) → slice_get ss g ≡ Some s → starts_in ss g ≡ s.vmaddr
starts_is [] g s got = absurd (cc)
starts_is (t ∷ ss) zero s got = ap (λ (x : Seg). x.vmaddr) (same_Some t s got)
starts_is (t ∷ ss) (suc g) s got = starts_is ss g s got

moved_is : (spots : LinkSpots) (moves : List Moved) (ss : List Seg) (g : ℕ) (m : Moved) (s : Seg) → slice_get moves g ≡ Some m → slice_get ss g ≡ Some s → is_linkedit_segment s ≡ false
    → addresses_in (places_of spots moves ss) g ≡ m.address
moved_is spots [] ss g m s to from other = absurd (cc)
moved_is spots (n ∷ ns) [] g m s to from other = absurd (cc)
moved_is spots (n ∷ ns) (t ∷ ts) zero m s to from other =
    let same : t ≡ s = same_Some t s from in
    ap (λ (p : SegmentPlace). p.address) (place_other spots n t.name t.vmsize (ap (λ (x : Seg). is_linkedit_segment x) same ∙ other)) ∙ ap (λ (x : Moved). x.address) (same_Some n m to)
moved_is spots (n ∷ ns) (t ∷ ts) (suc g) m s to from other = moved_is spots ns ts g m s to from other

-- there is a move for each segment
pub move_of : (moves : List Moved) (ss : List Seg) (g : ℕ) (s : Seg) → length moves ≡ length ss → slice_get ss g ≡ Some s → (m : Moved) × (slice_get moves g ≡ Some m)
move_of [] [] g s long got = absurd (cc)
move_of [] (t ∷ ss) g s long got = absurd (omega arith)
move_of (m ∷ ms) [] g s long got = absurd (cc)
move_of (m ∷ ms) (t ∷ ss) zero s long got = (m, refl)
move_of (m ∷ ms) (t ∷ ss) (suc g) s long got = move_of ms ss g s (omega arith) got

-- each segment but `__LINKEDIT` ends below 2 ^ 47 where it goes
abbrev pub GoLow : List Moved → List Seg → Type 0
GoLow moves ss = (g : ℕ) (m : Moved) (s : Seg) → g < length moves → is_linkedit_segment (get_or ss g s) ≡ false → (get_or moves g m).address + (get_or ss g s).vmsize ≤ 0x800000000000

stands_low : (image : Img) (moves : List Moved) (spots : LinkSpots) → IsSound image → length moves ≡ length image.segments → GoLow moves image.segments
    → (j : ℕ) (u : Section) → slice_get image.sections j ≡ Some u → StandsLow (starts_in image.segments) (addresses_in (places_of spots moves image.segments)) u
stands_low image moves spots sound long low j u got =
    let is : IsInside image u = section_inside image sound j u got in
    let move = move_of moves image.segments u.segment is.home long is.found in
    let begin : starts_in image.segments u.segment ≡ is.home.vmaddr = starts_is image.segments u.segment is.home is.found in
    let to : addresses_in (places_of spots moves image.segments) u.segment ≡ move.0.address = moved_is spots moves image.segments u.segment move.0 is.home move.1 is.found is.other in
    let own : IsLow is.home = low_at u.segment is.home image.segments (sound_apart image sound) is.found in
    let end : is.home.vmaddr + is.home.vmsize ≤ 0x800000000000 = own.low in
    let segment : get_or image.segments u.segment is.home ≡ is.home = get_or_from_slice_get image.segments u.segment is.home is.home is.found in
    let place : get_or moves u.segment move.0 ≡ move.0 = get_or_from_slice_get moves u.segment move.0 move.0 move.1 in
    let below : u.segment < length moves = slice_get_within moves u.segment move.0 move.1 in
    let moved_end : (get_or moves u.segment move.0).address + (get_or image.segments u.segment is.home).vmsize ≤ 0x800000000000 =
    low u.segment move.0 is.home below (ap (λ (x : Seg). is_linkedit_segment x) segment ∙ is.other) in
    let a : (get_or moves u.segment move.0).address ≡ move.0.address = ap (λ (x : Moved). x.address) place in
    let c : (get_or image.segments u.segment is.home).vmsize ≡ is.home.vmsize = ap (λ (x : Seg). x.vmsize) segment in
    let high : is.home.vmaddr ≤ u.addr = is.above in
    let inside : u.addr + u.size ≤ is.home.vmaddr + is.home.vmsize = is.inside in
    let moved_sum : move.0.address + is.home.vmsize ≤ 0x800000000000 = omega (arith, moved_end, a, c) in
    record {
      above = omega (arith, begin, high);
      low = omega (arith, inside, end);
      moved_low = omega (arith, begin, to, high, inside, moved_sum);
    }

-- the moved image has the shape of the image
pub moved_shape : (image : Img) (moves : List Moved) (spots : LinkSpots) (b : List ℕ) → IsSound image → length moves ≡ length image.segments → GoLow moves image.segments
    → shape_of (moved_image image moves spots b) ≡ shape_of image
unfolding moved_image
moved_shape image moves spots b sound long low =
    shape_kept (starts_in image.segments) (addresses_in (places_of spots moves image.segments)) image (moved_image image moves spots b)
    (kept_from (starts_in image.segments) (addresses_in (places_of spots moves image.segments)) 0 spots moves image.segments b long
    (λ i. ap (starts_in image.segments) (omega arith)) (λ i. ap (addresses_in (places_of spots moves image.segments)) (omega arith)))
    (sections_kept image.segments (places_of spots moves image.segments) image.sections (stands_low image moves spots sound long low))

-- a section of the image is moved
pub moved_section : (image : Img) (moves : List Moved) (spots : LinkSpots) (b : List ℕ) (j : ℕ) (u : Section) → slice_get image.sections j ≡ Some u
    → slice_get (moved_image image moves spots b).sections j ≡ Some (followed image.segments (places_of spots moves image.segments) u)
unfolding moved_image
moved_section image moves spots b j u from =
    slice_get-map (followed image.segments (places_of spots moves image.segments)) image.sections j
    ∙ ap (λ (o : Option Section). option_map (followed image.segments (places_of spots moves image.segments)) o) from

-- a section of the moved image, by the section of the image, its segment and the move of that
pub record IsMovedSection (u v : Section) (s : Seg) (m : Moved) : Type 0 where
  pub addr : v.addr ≡ m.address + (u.addr - s.vmaddr)
  pub size : v.size ≡ u.size
  pub segment : v.segment ≡ u.segment

pub moved_section_at : (image : Img) (moves : List Moved) (spots : LinkSpots) (b : List ℕ) → IsSound image → (j : ℕ) (u v : Section) (s : Seg) (m : Moved)
    → slice_get image.sections j ≡ Some u → slice_get (moved_image image moves spots b).sections j ≡ Some v → slice_get image.segments u.segment ≡ Some s → slice_get moves u.segment ≡ Some m
    → IsMovedSection u v s m
moved_section_at image moves spots b sound j u v s m from to home move =
    let is : IsInside image u = section_inside image sound j u from in
    let same : is.home ≡ s = same_Some is.home s (sym is.found ∙ home) in
    let other : is_linkedit_segment s ≡ false = sym (ap (λ (x : Seg). is_linkedit_segment x) same) ∙ is.other in
    let begin : starts_in image.segments u.segment ≡ s.vmaddr = starts_is image.segments u.segment s home in
    let goes : addresses_in (places_of spots moves image.segments) u.segment ≡ m.address = moved_is spots moves image.segments u.segment m s move home other in
    let here : followed image.segments (places_of spots moves image.segments) u ≡ v =
    same_Some (followed image.segments (places_of spots moves image.segments) u) v (sym (moved_section image moves spots b j u from) ∙ to) in
    record {
      addr = sym (ap (λ (x : Section). x.addr) here) ∙ ap₂ (λ (a c : ℕ). a + (u.addr - c)) goes begin;
      size = sym (ap (λ (x : Section). x.size) here);
      segment = sym (ap (λ (x : Section). x.segment) here);
    }

-- where a segment of the moved image starts
seated_start : (b : List ℕ) (ps : List SegmentPlace) (ss : List Seg) (g : ℕ) (t : Seg) → length ps ≡ length ss → slice_get ss g ≡ Some t → start_of (slice_get (seated_all b ps ss) g) ≡ addresses_in ps g
seated_start b [] [] g t long got = absurd (cc)
seated_start b [] (s ∷ ss) g t long got = absurd (omega arith)
seated_start b (p ∷ ps) [] g t long got = absurd (cc)
seated_start b (p ∷ ps) (s ∷ ss) zero t long got = refl
seated_start b (p ∷ ps) (s ∷ ss) (suc g) t long got = seated_start b ps ss g t (omega arith) got

pub moved_start : (image : Img) (moves : List Moved) (spots : LinkSpots) (b : List ℕ) (g : ℕ) (m : Moved) (t : Seg) → length moves ≡ length image.segments → slice_get moves g ≡ Some m → slice_get image.segments g ≡ Some t → is_linkedit_segment t ≡ false
    → start_of (slice_get (moved_image image moves spots b).segments g) ≡ m.address
unfolding moved_image
moved_start image moves spots b g m t long move got other =
    seated_start b (places_of spots moves image.segments) image.segments g t (length-places_of spots moves image.segments long) got
    ∙ moved_is spots moves image.segments g m t move got other
