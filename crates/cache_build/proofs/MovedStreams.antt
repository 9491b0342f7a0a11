-- An image of a set that can be built is read of the cache with the binds of its file, where their words go: its streams break no rule there.
use Rattle.std.proofs.Common.{◌≡◌, ◌≤◌, ◌<◌, ℕ, zero, suc, ◌+◌, ◌-◌, ◌%◌, ◌&&◌, Bool, true, false, not, Option, Some, List, [], ◌∷◌, length, map, get_or, refl, sym, ap, ap₂, ◌∙◌, subst, arith, inl, inr, if◌then◌else◌, nat_eq, nat_le}
use Rattle.std.specs.Prelude.{option_map, slice_get, position}
use Rattle.std.specs.List.{AllByRecursion}
use Rattle.std.proofs.lemmas.Bool.{cases_Bool, eqb-true}
use Rattle.std.proofs.lemmas.Bool.Decides.{nat_tests}
use Rattle.std.proofs.lemmas.Option.{same_Some, slice_get_within, get_or_from_slice_get}
use Rattle.macho_image.specs.Records.{Img, Seg, SegmentLoad}
use Rattle.macho_image.specs.Macho.{header_size, loads_of, segment_loads}
use Rattle.macho_image.specs.Rules.{is_linkedit_segment, is_well_shaped}
use Rattle.macho_image.specs.Breaks.{IsSound}
use Rattle.macho_image.specs.Places.{holds, section_at}
use Rattle.macho_image.specs.declared.section.Section.{Section}
use Rattle.macho_image.specs.declared.place.Moved.{Moved}
use Rattle.macho_edit.specs.MovedImage.{seated, seated_all, followed, moved_image}
use Rattle.macho_edit.specs.Placed.{places_of}
use Rattle.macho_edit.specs.Segments.{place_for}
use Rattle.macho_edit.specs.declared.segment.SegmentPlace.{SegmentPlace}
use Rattle.macho_edit.specs.declared.spots.LinkSpots.{LinkSpots}
use Rattle.macho_edit.proofs.PlaceLaws.{place_other}
use Rattle.cache_layout.proofs.SoundLaws.{load-of}
use Rattle.dep_closure.proofs.PositionLaws.{position-cons}
use Rattle.cache_build.proofs.MovedLaws.{move_of}
use Rattle.cache_build.proofs.MovedTargets.{IsMoved}
use Rattle.cache_build.proofs.MovedWords.{HaveGone}
use Rattle.cache_build.proofs.Protections.{writable_owned}
use Rattle.cache_build.proofs.SectionLaws.{IsInside, section_inside}
use Rattle.macho_image.proofs.HeaderRules.{all_fail, sound_rules, shape_parts, IsShaped, all_shaped}

-- ---- a segment

shaped_at : (ls : List SegmentLoad) (g : ℕ) (l : SegmentLoad) → AllByRecursion IsShaped ls → g < length ls → l ≡ get_or ls g l → IsShaped l
shaped_at [] g l all lt is = absurd (omega (arith, lt))
shaped_at (k ∷ ls) zero l all lt is = subst IsShaped (sym is) all.0
shaped_at (k ∷ ls) (suc g) l all lt is = shaped_at ls g l all.1 (omega (arith, lt)) is

-- it starts on a page, and ends below 2 ^ 47
record StartsWell (s : Seg) : Type 0 where
  page : s.vmaddr % 4096 ≡ 0
  low : s.vmaddr + s.vmsize ≤ 0x800000000000

starts_well : (image : Img) → IsSound image → (g : ℕ) (s : Seg) → slice_get image.segments g ≡ Some s → StartsWell s
starts_well image sound g s found =
    let ls : List SegmentLoad = segment_loads (loads_of image.header) in
    let lt : g < length image.segments = slice_get_within image.segments g s found in
    let is : s ≡ get_or image.segments g s = sym (get_or_from_slice_get image.segments g s s found) in
    let command = load-of image.segments ls sound.segments g s lt is in
    let parts = shape_parts (header_size image.header) ls (sound_rules image sound).segments in
    let shaped : IsShaped command.0 = shaped_at ls g command.0 (all_shaped ls (all_fail (λ l. not (is_well_shaped l)) ls parts.1)) command.1 command.2 in
    let address : s.vmaddr ≡ command.0.vmaddr = ap (λ (t : Seg). t.vmaddr) command.3 in
    let size : s.vmsize ≡ command.0.vmsize = ap (λ (t : Seg). t.vmsize) command.3 in
    let page : command.0.vmaddr % 4096 ≡ 0 = shaped.aligned in
    let low : command.0.vmaddr + command.0.vmsize ≤ 0x800000000000 = shaped.low in
    record { page = omega (arith, address, page); low = omega (arith, address, size, low) }

-- where it goes
record IsSeatOf (b : List ℕ) (s : Seg) (m : Moved) (t : Seg) : Type 0 where
  address : t.vmaddr ≡ m.address
  size : t.vmsize ≡ s.vmsize
  protection : t.initprot ≡ s.initprot

seat_there : (b : List ℕ) (spots : LinkSpots) (moves : List Moved) (ss : List Seg) (g : ℕ) (m : Moved) (s : Seg) → slice_get moves g ≡ Some m → slice_get ss g ≡ Some s → is_linkedit_segment s ≡ false
    → (t : Seg) × (slice_get (seated_all b (places_of spots moves ss) ss) g ≡ Some t) × IsSeatOf b s m t
seat_there b spots [] ss g m s to from other = absurd (cc)
seat_there b spots (n ∷ ns) [] g m s to from other = absurd (cc)
seat_there b spots (n ∷ ns) (t ∷ ts) zero m s to from other =
    let same : t ≡ s = same_Some t s from in
    let place = place_other spots n t.name t.vmsize (ap (λ (x : Seg). is_linkedit_segment x) same ∙ other) in (
      seated b (place_for spots n t.name t.vmsize) t,
      refl,
      record {
        address = ap (λ (p : SegmentPlace). p.address) place ∙ ap (λ (x : Moved). x.address) (same_Some n m to);
        size = ap (λ (p : SegmentPlace). p.vmsize) place ∙ ap (λ (x : Seg). x.vmsize) same;
        protection = ap (λ (x : Seg). x.initprot) same;
      },
    )
seat_there b spots (n ∷ ns) (t ∷ ts) (suc g) m s to from other = seat_there b spots ns ts g m s to from other

-- ---- the sections of a segment

-- a test of sections as they are, and one of what they become
same_position : (p q : Section → Bool) (f : Section → Section) (us : List Section) → ((j : ℕ) (u : Section) → slice_get us j ≡ Some u → p (f u) ≡ q u) → position p (map f us) ≡ position q us
same_position p q f [] same = refl
same_position p q f (u ∷ us) same =
    position-cons p (f u) (map f us)
    ∙ (ap₂ (λ (b : Bool) (o : Option ℕ). if b then Some 0 else option_map (λ (k : ℕ). k + 1) o) (same 0 u refl) (same_position p q f us (λ j v found. same (suc j) v found))
    ∙ sym (position-cons q u us))

starts_in : List Seg → ℕ → ℕ
starts_in ss g = get_or (map (λ (s : Seg). s.vmaddr) ss) g 0

starts_is : (ss : List Seg) (g : ℕ) (s : Seg) → slice_get ss g ≡ Some s → get_or (map (λ (t : Seg). t.vmaddr) ss) g 0 ≡ s.vmaddr
starts_is [] g s got = absurd (cc)
starts_is (t ∷ ss) zero s got = ap (λ (x : Seg). x.vmaddr) (same_Some t s got)
starts_is (t ∷ ss) (suc g) s got = starts_is ss g s got

goes_to : (spots : LinkSpots) (moves : List Moved) (ss : List Seg) (g : ℕ) (m : Moved) (s : Seg) → slice_get moves g ≡ Some m → slice_get ss g ≡ Some s → is_linkedit_segment s ≡ false
    → get_or (map (λ (p : SegmentPlace). p.address) (places_of spots moves ss)) g 0 ≡ m.address
goes_to spots [] ss g m s to from other = absurd (cc)
goes_to spots (n ∷ ns) [] g m s to from other = absurd (cc)
goes_to spots (n ∷ ns) (t ∷ ts) zero m s to from other =
    let same : t ≡ s = same_Some t s from in
    ap (λ (p : SegmentPlace). p.address) (place_other spots n t.name t.vmsize (ap (λ (x : Seg). is_linkedit_segment x) same ∙ other)) ∙ ap (λ (x : Moved). x.address) (same_Some n m to)
goes_to spots (n ∷ ns) (t ∷ ts) (suc g) m s to from other = goes_to spots ns ts g m s to from other

-- a section holds a word as far from the start of its segment
holds_same : (g h v w x y size d : ℕ) → v ≤ x → y ≡ w + (x - v) → (nat_eq h g && (nat_le y (w + d) && nat_le (w + d + 8) (y + size))) ≡ (nat_eq h g && (nat_le x (v + d) && nat_le (v + d + 8) (x + size)))
holds_same g h v w x y size d low goes =
    let first : nat_le y (w + d) ≡ nat_le x (v + d) = same_le y (w + d) x (v + d) (λ le. omega (arith, goes, low, le)) (λ le. omega (arith, goes, low, le)) in
    let second : nat_le (w + d + 8) (y + size) ≡ nat_le (v + d + 8) (x + size) = same_le (w + d + 8) (y + size) (v + d + 8) (x + size) (λ le. omega (arith, goes, low, le)) (λ le. omega (arith, goes, low, le)) in
    ap₂ (λ (a b : Bool). nat_eq h g && (a && b)) first second
  where
    same_le : (a b c e : ℕ) → (a ≤ b → c ≤ e) → (c ≤ e → a ≤ b) → nat_le a b ≡ nat_le c e
    same_le a b c e to from = elim (cases_Bool (nat_le a b)) [
      | inl is ↦ let le : a ≤ b = grind (arith, nat_tests) in let other : c ≤ e = to le in is ∙ sym (let t : nat_le c e ≡ true = grind (arith, nat_tests) in t)
      | inr is_not ↦ elim (cases_Bool (nat_le c e)) [
        | inl is ↦ let le : c ≤ e = grind (arith, nat_tests) in let other : a ≤ b = from le in absurd (let t : nat_le a b ≡ true = grind (arith, nat_tests) in clash (nat_le a b) t is_not)
        | inr neither ↦ is_not ∙ sym neither
      ]
    ]
      where
        clash : (t : Bool) → t ≡ true → t ≡ false → ⊥
        clash true is is_not = absurd (cc)
        clash false is is_not = absurd (cc)

not_held : (g h a b x y : ℕ) → nat_eq h g ≡ false → (nat_eq h g && (nat_le x a && nat_le (a + 8) y)) ≡ false
not_held g h a b x y other = ap (λ (t : Bool). t && (nat_le x a && nat_le (a + 8) y)) other

sections_go : (image : Img) (moves : List Moved) (spots : LinkSpots) (b : List ℕ) → IsMoved image moves spots b → (g : ℕ) (m : Moved) (s : Seg) → slice_get moves g ≡ Some m → slice_get image.segments g ≡ Some s → is_linkedit_segment s ≡ false
    → (d : ℕ) → section_at (moved_image image moves spots b).sections g (m.address + d) ≡ section_at image.sections g (s.vmaddr + d)
unfolding moved_image
sections_go image moves spots b is g m s to from other d =
    ap (λ (o : Option ℕ). option_map (λ (k : ℕ). k + 1) o)
    (same_position (holds 8 g (m.address + d)) (holds 8 g (s.vmaddr + d)) (followed image.segments (places_of spots moves image.segments)) image.sections each)
  where
    each : (j : ℕ) (u : Section) → slice_get image.sections j ≡ Some u → holds 8 g (m.address + d) (followed image.segments (places_of spots moves image.segments) u) ≡ holds 8 g (s.vmaddr + d) u
    each j u found = elim (cases_Bool (nat_eq u.segment g)) [
      | inl own ↦
          let number : u.segment ≡ g = eqb-true u.segment g own in
          let inside : IsInside image u = section_inside image is.sound j u found in
          let home : inside.home ≡ s = same_Some inside.home s (sym inside.found ∙ (ap (λ (n : ℕ). slice_get image.segments n) number ∙ from)) in
          let above : s.vmaddr ≤ u.addr = subst (λ (x : Seg). x.vmaddr ≤ u.addr) home inside.above in
          let start : get_or (map (λ (t : Seg). t.vmaddr) image.segments) u.segment 0 ≡ s.vmaddr = ap (λ (n : ℕ). get_or (map (λ (t : Seg). t.vmaddr) image.segments) n 0) number ∙ starts_is image.segments g s from in
          let end : get_or (map (λ (p : SegmentPlace). p.address) (places_of spots moves image.segments)) u.segment 0 ≡ m.address =
          ap (λ (n : ℕ). get_or (map (λ (p : SegmentPlace). p.address) (places_of spots moves image.segments)) n 0) number ∙ goes_to spots moves image.segments g m s to from other in
          holds_same g u.segment s.vmaddr m.address u.addr (followed image.segments (places_of spots moves image.segments) u).addr u.size d above (ap₂ (λ (x y : ℕ). x + (u.addr - y)) end start)
      | inr another ↦
          not_held g u.segment (m.address + d) 0 (followed image.segments (places_of spots moves image.segments) u).addr ((followed image.segments (places_of spots moves image.segments) u).addr + u.size) another
          ∙ sym (not_held g u.segment (s.vmaddr + d) 0 u.addr (u.addr + u.size) another)
    ]

-- ---- all writable segments, where each goes to a page

pub have_gone : (image : Img) (moves : List Moved) (spots : LinkSpots) (b : List ℕ) → IsMoved image moves spots b
    → ((g : ℕ) (m : Moved) (s : Seg) → slice_get moves g ≡ Some m → slice_get image.segments g ≡ Some s → is_linkedit_segment s ≡ false → m.address % 4096 ≡ 0) → HaveGone image (moved_image image moves spots b)
unfolding moved_image
have_gone image moves spots b is pages g s found writable =
    let lt : g < length image.segments = slice_get_within image.segments g s found in
    let own : s ≡ get_or image.segments g s = sym (get_or_from_slice_get image.segments g s s found) in
    let other : is_linkedit_segment s ≡ false = writable_owned image is.sound g s lt own writable in
    let move = move_of moves image.segments g s is.one_each found in
    let m : Moved = move.0 in
    let seat = seat_there b spots moves image.segments g m s move.1 found other in
    let well : StartsWell s = starts_well image is.sound g s found in
    let page : m.address % 4096 ≡ 0 = pages g m s move.1 found other in
    let at : get_or moves g m ≡ m = get_or_from_slice_get moves g m m move.1 in
    let same : get_or image.segments g s ≡ s = sym own in
    let end : (get_or moves g m).address + (get_or image.segments g s).vmsize ≤ 0x800000000000 = is.low g m s (slice_get_within moves g m move.1) (ap (λ (x : Seg). is_linkedit_segment x) same ∙ other) in
    let address : seat.0.vmaddr ≡ m.address = seat.2.address in
    let here : (get_or moves g m).address ≡ m.address = ap (λ (x : Moved). x.address) at in
    let size : (get_or image.segments g s).vmsize ≡ s.vmsize = ap (λ (x : Seg). x.vmsize) same in
    record {
      seat = seat.0;
      seat_is = seat.1;
      size = seat.2.size;
      writable = seat.2.protection ∙ writable;
      page = well.page;
      seat_page = omega (arith, address, page);
      low = well.low;
      seat_low = omega (arith, address, here, size, end);
      sections = λ d within. ap (λ (a : ℕ). section_at (map (followed image.segments (places_of spots moves image.segments)) image.sections) g (a + d)) address ∙ sections_go image moves spots b is g m s move.1 found other d;
    }
