-- Words of an image whose segments stand elsewhere, each with its sections: what a record names there.
use Rattle.std.proofs.Common.{◌≡◌, ◌≤◌, ◌<◌, ◌+◌, ◌-◌, ◌%◌, ℕ, max, Bool, true, false, not, ◌&&◌, List, refl, sym, ap, ◌∙◌, arith, if◌then◌else◌, nat_le, nat_lt, nat_eq, inl, inr, Option, Some, None}
use Rattle.std.specs.Prelude.{slice_get}
use Rattle.std.specs.Option.{option_or, unwrap_or}
use Rattle.std.proofs.lemmas.Bool.{cases_Bool}
use Rattle.std.proofs.lemmas.Bool.Decides.{nat_tests}
use Rattle.std.proofs.lemmas.Option.{same_Some}
use Rattle.macho_image.specs.Records.{Img, Seg}
use Rattle.macho_image.specs.declared.section.Section.{Section}
use Rattle.macho_image.specs.declared.place.Location.{Location}
use Rattle.macho_image.specs.declared.places.record.PlaceFault.TheVariants.{OutsideSegment, NotWritable, Misaligned, CrossesPage, TooMany}
use Rattle.macho_image.specs.declared.places.segment_index.Inside.{Inside}
use Rattle.macho_image.specs.Index.{AreApart}
use Rattle.macho_image.specs.Places.{wrap, lies_in, section_at, segment_fault, section_fault, word_fault, address_in, fault_in, place_fault, location_in, location, IsWord}
use Rattle.macho_image.specs.Segments.{start_of}
use Rattle.dsc_base.specs.Limits.{record_limit}
use Rattle.macho_image.proofs.SegmentLaws.{inside_here}
use Rattle.macho_image.proofs.Unbroken.{or_none}
use Rattle.cache_build.proofs.WordEdits.{same_or_not}
use Rattle.cache_build.proofs.FarWords.{AreFar}

-- a writable segment s of number g stands elsewhere, by whole pages, and so do its sections
pub record HasGone (image moved : Img) (g : ℕ) (s : Seg) : Type 0 where
  pub seat : Seg
  pub seat_is : slice_get moved.segments g ≡ Some seat
  pub size : seat.vmsize ≡ s.vmsize
  pub writable : seat.initprot ≡ 3
  pub page : s.vmaddr % 4096 ≡ 0
  pub seat_page : seat.vmaddr % 4096 ≡ 0
  pub low : s.vmaddr + s.vmsize ≤ 0x800000000000
  pub seat_low : seat.vmaddr + s.vmsize ≤ 0x800000000000
  pub sections : (d : ℕ) → d + 8 ≤ s.vmsize → section_at moved.sections g (seat.vmaddr + d) ≡ section_at image.sections g (s.vmaddr + d)

abbrev pub HaveGone : Img → Img → Type 0
HaveGone image moved = (g : ℕ) (s : Seg) → slice_get image.segments g ≡ Some s → s.initprot ≡ 3 → HasGone image moved g s

-- a word as far from the start of its segment
abbrev pub gone : Img → Img → Location → Location
gone image moved l =
    record { segment = l.segment; section = l.section; address = start_of (slice_get moved.segments l.segment) + (l.address - start_of (slice_get image.segments l.segment)) }

-- ---- one record

-- what is known where a word lies in a segment and a section of it
record Tried (s : Seg) (sections : List Section) (g address before : ℕ) : Type 0 where
  from : s.vmaddr ≤ address
  to : address + 8 ≤ s.vmaddr + s.vmsize
  writable : s.initprot ≡ 3
  number : ℕ
  section : section_at sections g address ≡ Some number
  aligned : nat_eq (address % 4) 0 ≡ true
  in_page : nat_lt 0xFF8 (address % 4096) ≡ false
  few : nat_le record_limit before ≡ false

tried : (s : Seg) (sections : List Section) (g address before : ℕ)
    → option_or (segment_fault s address) (option_or (section_fault (section_at sections g address)) (word_fault address before)) ≡ None → Tried s sections g address before
tried s sections g address before none =
    let first = or_none (segment_fault s address) (option_or (section_fault (section_at sections g address)) (word_fault address before)) none in
    let rest = or_none (section_fault (section_at sections g address)) (word_fault address before) first.1 in
    go (lies_in s address) (nat_eq s.initprot 3) (section_at sections g address) (nat_eq (address % 4) 0) (nat_lt 0xFF8 (address % 4096)) (nat_le record_limit before) refl refl refl refl refl refl first.0 rest.0 rest.1
  where
    go : (a b : Bool) (o : Option ℕ) (x y z : Bool) → lies_in s address ≡ a → nat_eq s.initprot 3 ≡ b → section_at sections g address ≡ o → nat_eq (address % 4) 0 ≡ x → nat_lt 0xFF8 (address % 4096) ≡ y → nat_le record_limit before ≡ z
        → (if not a then Some OutsideSegment else (if not b then Some NotWritable else None)) ≡ None → section_fault o ≡ None
        → (if not x then Some Misaligned else (if y then Some CrossesPage else (if z then Some TooMany else None))) ≡ None → Tried s sections g address before
    go true true (Some number) true false false here can found aligned page few one two three =
        record { from = grind (arith, nat_tests); to = grind (arith, nat_tests); writable = grind (arith, nat_tests); number = number; section = found; aligned = aligned; in_page = page; few = few }
    go false b o x y z here can found aligned page few one two three = absurd (cc)
    go true false o x y z here can found aligned page few one two three = absurd (cc)
    go true true None x y z here can found aligned page few one two three = absurd (cc)
    go true true (Some number) false y z here can found aligned page few one two three = absurd (cc)
    go true true (Some number) true true z here can found aligned page few one two three = absurd (cc)
    go true true (Some number) true false true here can found aligned page few one two three = absurd (cc)

passes : (s : Seg) (sections : List Section) (g address before : ℕ) → Tried s sections g address before
    → option_or (segment_fault s address) (option_or (section_fault (section_at sections g address)) (word_fault address before)) ≡ None
passes s sections g address before is =
    let lies : lies_in s address ≡ true = let a = is.from in let b = is.to in grind (arith, nat_tests) in
    let can : nat_eq s.initprot 3 ≡ true = let a = is.writable in grind (arith, nat_tests) in
    λ i. option_or (if not (lies i) then Some OutsideSegment else (if not (can i) then Some NotWritable else None))
    (option_or (section_fault (is.section i)) (if not (is.aligned i) then Some Misaligned else (if is.in_page i then Some CrossesPage else (if is.few i then Some TooMany else None))))

-- an offset leads as far into the segment where it goes
same_distance : (v w offset size : ℕ) → v + size ≤ 0x800000000000 → w + size ≤ 0x800000000000 → v ≤ wrap (v + offset) → wrap (v + offset) + 8 ≤ v + size → wrap (w + offset) ≡ w + (wrap (v + offset) - v)
same_distance v w offset size low high from to = omega arith

-- where a record goes
record Goes (image moved : Img) (g : Option ℕ) (offset before : ℕ) : Type 0 where
  none : place_fault moved g offset before ≡ None
  place : location moved g offset ≡ gone image moved (location image g offset)

pub word_goes : (image moved : Img) → HaveGone image moved → (g : Option ℕ) (offset before : ℕ) → place_fault image g offset before ≡ None
    → (place_fault moved g offset before ≡ None) × (location moved g offset ≡ gone image moved (location image g offset))
unfolding place_fault location
word_goes image moved all None offset before none = absurd (cc)
word_goes image moved all (Some g) offset before none = go (slice_get image.segments g) refl none
  where
    there : (s : Seg) → slice_get image.segments g ≡ Some s → (t : Tried s image.sections g (address_in s offset) before) → (gone_to : HasGone image moved g s)
        → Tried gone_to.seat moved.sections g (address_in gone_to.seat offset) before
    there s found t to =
        let size : to.seat.vmsize ≡ s.vmsize = to.size in
        let from : s.vmaddr ≤ address_in s offset = t.from in
        let end : address_in s offset + 8 ≤ s.vmaddr + s.vmsize = t.to in
        let low : s.vmaddr + s.vmsize ≤ 0x800000000000 = to.low in
        let high : to.seat.vmaddr + s.vmsize ≤ 0x800000000000 = to.seat_low in
        let d : ℕ = address_in s offset - s.vmaddr in
        let at : address_in to.seat offset ≡ to.seat.vmaddr + d = same_distance s.vmaddr to.seat.vmaddr offset s.vmsize low high from end in
        let back : s.vmaddr + d ≡ address_in s offset = omega (arith, from) in
        let page : s.vmaddr % 4096 ≡ 0 = to.page in
        let seat_page : to.seat.vmaddr % 4096 ≡ 0 = to.seat_page in
        let four : (address_in to.seat offset) % 4 ≡ (address_in s offset) % 4 = omega (arith, at, back, page, seat_page) in
        let thousands : (address_in to.seat offset) % 4096 ≡ (address_in s offset) % 4096 = omega (arith, at, back, page, seat_page) in
        record {
          from = omega (arith, at);
          to = omega (arith, at, back, end, size);
          writable = to.writable;
          number = t.number;
          section = ap (λ (x : ℕ). section_at moved.sections g x) at ∙ (to.sections d (omega (arith, back, end)) ∙ (ap (λ (x : ℕ). section_at image.sections g x) back ∙ t.section));
          aligned = ap (λ (n : ℕ). nat_eq n 0) four ∙ t.aligned;
          in_page = ap (λ (n : ℕ). nat_lt 0xFF8 n) thousands ∙ t.in_page;
          few = t.few;
        }

    put : (s : Seg) → slice_get image.segments g ≡ Some s → (t : Tried s image.sections g (address_in s offset) before) → (to : HasGone image moved g s)
        → (u : Tried to.seat moved.sections g (address_in to.seat offset) before)
        → location_in moved.sections g (slice_get moved.segments g) offset ≡ gone image moved (location_in image.sections g (slice_get image.segments g) offset)
    put s found t to u =
        let from : s.vmaddr ≤ address_in s offset = t.from in
        let end : address_in s offset + 8 ≤ s.vmaddr + s.vmsize = t.to in
        let at : address_in to.seat offset ≡ to.seat.vmaddr + (address_in s offset - s.vmaddr) = same_distance s.vmaddr to.seat.vmaddr offset s.vmsize to.low to.seat_low from end in
        let one : start_of (slice_get image.segments g) ≡ s.vmaddr = ap start_of found in
        let two : start_of (slice_get moved.segments g) ≡ to.seat.vmaddr = ap start_of to.seat_is in
        let same : address_in to.seat offset ≡ start_of (slice_get moved.segments g) + (address_in s offset - start_of (slice_get image.segments g)) = omega (arith, at, one, two) in
        let here : location_in image.sections g (slice_get image.segments g) offset ≡ record { segment = g; section = t.number; address = address_in s offset } =
        ap (λ (o : Option Seg). location_in image.sections g o offset) found ∙ ap (λ (o : Option ℕ). let l : Location = record { segment = g; section = unwrap_or o 0; address = address_in s offset } in l) t.section in
        let goes : location_in moved.sections g (slice_get moved.segments g) offset ≡ record { segment = g; section = u.number; address = address_in to.seat offset } =
        ap (λ (o : Option Seg). location_in moved.sections g o offset) to.seat_is ∙ ap (λ (o : Option ℕ). let l : Location = record { segment = g; section = unwrap_or o 0; address = address_in to.seat offset } in l) u.section in
        let number : u.number ≡ t.number = same_Some u.number t.number (sym u.section ∙ (there s found t to).section) in
        goes
        ∙ ((λ i. let l : Location = record { segment = g; section = number i; address = same i } in l)
        ∙ sym (ap (gone image moved) here))

    go : (o : Option Seg) → slice_get image.segments g ≡ o → fault_in image.sections g o offset before ≡ None
        → (fault_in moved.sections g (slice_get moved.segments g) offset before ≡ None) × (location_in moved.sections g (slice_get moved.segments g) offset ≡ gone image moved (location_in image.sections g (slice_get image.segments g) offset))
    go None found none = absurd (cc)
    go (Some s) found none =
        let t = tried s image.sections g (address_in s offset) before none in
        let to = all g s found t.writable in
        let u = there s found t to in (
          ap (λ (o : Option Seg). fault_in moved.sections g o offset before) to.seat_is ∙ passes to.seat moved.sections g (address_in to.seat offset) before u,
          put s found t to u,
        )

-- ---- two words

-- words of one segment are as far from each other, and those of two are in segments that share no address
pub far_gone : (image moved : Img) → HaveGone image moved → AreApart moved.segments → (l m : Location) → IsWord image l → IsWord image m → AreFar l m → AreFar (gone image moved l) (gone image moved m)
far_gone image moved all apart l m first second far = elim (same_or_not l.segment m.segment) [
  | inl same ↦ together same
  | inr other ↦ separate other
]
  where
    seat_of : (k : Location) → (w : IsWord image k) → HasGone image moved k.segment w.segment
    seat_of k w = all k.segment w.segment w.segment_is w.writable

    -- where a word goes
    at : (k : Location) → (w : IsWord image k) → (gone image moved k).address ≡ (seat_of k w).seat.vmaddr + (k.address - w.segment.vmaddr)
    at k w =
        let to = seat_of k w in
        let one : start_of (slice_get image.segments k.segment) ≡ w.segment.vmaddr = ap start_of w.segment_is in
        let two : start_of (slice_get moved.segments k.segment) ≡ to.seat.vmaddr = ap start_of to.seat_is in
        omega (arith, one, two)

    together : l.segment ≡ m.segment → AreFar (gone image moved l) (gone image moved m)
    together same =
        let own : first.segment ≡ second.segment = same_Some first.segment second.segment (sym first.segment_is ∙ (ap (λ (g : ℕ). slice_get image.segments g) same ∙ second.segment_is)) in
        let start : first.segment.vmaddr ≡ second.segment.vmaddr = ap (λ (s : Seg). s.vmaddr) own in
        let a = first.from in
        let b = second.from in
        let here : start_of (slice_get moved.segments l.segment) ≡ start_of (slice_get moved.segments m.segment) = ap (λ (g : ℕ). start_of (slice_get moved.segments g)) same in
        let one : start_of (slice_get image.segments l.segment) ≡ first.segment.vmaddr = ap start_of first.segment_is in
        let two : start_of (slice_get image.segments m.segment) ≡ second.segment.vmaddr = ap start_of second.segment_is in
        shifted l.address m.address first.segment.vmaddr (start_of (slice_get moved.segments l.segment)) (gone image moved l).address (gone image moved m).address
        a (omega (arith, b, start)) (omega (arith, one)) (omega (arith, here, two, start)) far
      where
        shifted : (x y v w x' y' : ℕ) → v ≤ x → v ≤ y → x' ≡ w + (x - v) → y' ≡ w + (y - v) → (nat_lt x (y + 8) && nat_lt y (x + 8)) ≡ false → (nat_lt x' (y' + 8) && nat_lt y' (x' + 8)) ≡ false
        shifted x y v w x' y' low low' here there far = grind (arith, nat_tests)

    separate : (l.segment ≡ m.segment → ⊥) → AreFar (gone image moved l) (gone image moved m)
    separate other = apart_case (seat_of l first) (seat_of m second) (at l first) (at m second)
      where
        apart_case : (s : HasGone image moved l.segment first.segment) (t : HasGone image moved m.segment second.segment) → (gone image moved l).address ≡ s.seat.vmaddr + (l.address - first.segment.vmaddr)
            → (gone image moved m).address ≡ t.seat.vmaddr + (m.address - second.segment.vmaddr) → AreFar (gone image moved l) (gone image moved m)
        apart_case s t here there =
            let a = first.from in
            let b = first.to in
            let c = second.from in
            let d = second.to in
            let e : s.seat.vmsize ≡ first.segment.vmsize = s.size in
            let f : t.seat.vmsize ≡ second.segment.vmsize = t.size in
            let x : ℕ = (gone image moved l).address in
            let y : ℕ = (gone image moved m).address in
            elim (cases_Bool (nat_lt x (y + 8) && nat_lt y (x + 8))) [
              | inl near ↦
                  let low : x < y + 8 = grind (arith, nat_tests) in
                  let high : y < x + 8 = grind (arith, nat_tests) in
                  let both : ℕ = max x y in
                  let one = inside_here moved.segments l.segment s.seat both apart s.seat_is (omega (arith, here, a)) (omega (arith, here, a, b, e, low, high)) in
                  let two = inside_here moved.segments m.segment t.seat both apart t.seat_is (omega (arith, there, c)) (omega (arith, there, c, d, f, low, high)) in
                  absurd (other (ap (λ (i : Inside). i.segment) (same_Some _ _ (sym one ∙ two))))
              | inr is_not ↦ is_not
            ]
