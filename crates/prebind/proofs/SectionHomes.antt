-- No section of an image that was read lies in `__LINKEDIT`: the command of that segment, the last one, has none.
use Rattle.std.proofs.Common.{◌≡◌, ◌<◌, ◌⊎◌, ℕ, zero, suc, ◌+◌, ◌-◌, ◌/◌, true, false, not, ◌&&◌, nat_eq, List, [], ◌∷◌, ◌++◌, length, map, get_or, refl, sym, ap, ◌∙◌, subst, arith, inl, inr, Some, None}
use Rattle.std.specs.Prelude.{filter, slice_get}
use Rattle.std.specs.List.{AllByRecursion}
use Rattle.std.proofs.lemmas.Bool.{eqb-true, and_parts, or_parts, cases_Bool, false≢true}
use Rattle.std.proofs.lemmas.List.Elements.{All-map}
use Rattle.std.proofs.lemmas.Option.{same_Some, slice_get_within, get_or_from_slice_get}
use Rattle.macho_image.specs.Records.{Seg, Img, Load, SegmentLoad, SectionLoad}
use Rattle.macho_image.specs.declared.section.Section.{Section}
use Rattle.macho_image.specs.Macho.{header_size, loads_of, number_of, is_segment, segment_load, segment_loads, segment_with, section_of, sections_from}
use Rattle.macho_image.specs.Rules.{is_well_shaped, is_linkedit, is_linkedit_segment, is_text, is_good_text, is_good_linkedit, has_reserved_name, misplaced_behind, misplaced}
use Rattle.macho_image.specs.Breaks.{unread, IsSound}
use Rattle.macho_image.proofs.HeaderRules.{IsShaped, shape_parts, all_fail, all_shaped, text_no_linkedit}
use Rattle.macho_image.proofs.SectionLaws.{sections_room}
use Rattle.macho_image.proofs.SoundSegments.{segment_shape}
use Rattle.macho_image.proofs.Unbroken.{when_true, when_false}

-- ---- `__LINKEDIT` has no sections

bare_behind : (ls : List SegmentLoad) → misplaced_behind ls ≡ None → (n : ℕ) (l : SegmentLoad) → slice_get ls n ≡ Some l → is_linkedit l ≡ true → l.nsects ≡ 0
bare_behind [] none n l got named = absurd (cc)
bare_behind (s ∷ []) none zero l got named =
    let good = and_parts (is_linkedit s) (nat_eq s.initprot 1 && nat_eq s.nsects 0) (when_true (is_good_linkedit s) s.at None none).0 in
    ap (λ (x : SegmentLoad). x.nsects) (sym (same_Some s l got)) ∙ eqb-true s.nsects 0 (and_parts (nat_eq s.initprot 1) (nat_eq s.nsects 0) good.1).1
bare_behind (s ∷ []) none (suc n) l got named = absurd (cc)
bare_behind (s ∷ (t ∷ ss)) none zero l got named =
    let other = or_parts (is_text s) (is_linkedit s) (when_false (has_reserved_name s) s.at (misplaced_behind (t ∷ ss)) none).0 in
    absurd (false≢true (sym other.1 ∙ (ap is_linkedit (same_Some s l got) ∙ named)))
bare_behind (s ∷ (t ∷ ss)) none (suc n) l got named = bare_behind (t ∷ ss) (when_false (has_reserved_name s) s.at (misplaced_behind (t ∷ ss)) none).1 n l got named

bare : (size : ℕ) (ls : List SegmentLoad) → misplaced size ls ≡ None → (n : ℕ) (l : SegmentLoad) → slice_get ls n ≡ Some l → is_linkedit l ≡ true → l.nsects ≡ 0
bare size [] none n l got named = absurd (cc)
bare size (s ∷ ss) none zero l got named =
    let text = when_true (is_good_text size s) s.at (misplaced_behind ss) none in
    absurd (false≢true (sym (text_no_linkedit size s text.0) ∙ (ap is_linkedit (same_Some s l got) ∙ named)))
bare size (s ∷ ss) none (suc n) l got named = bare_behind ss (when_true (is_good_text size s) s.at (misplaced_behind ss) none).1 n l got named

-- ---- a section comes from its segment's command

room_at : (header : List ℕ) (n : ℕ) (l : SegmentLoad) → slice_get (segment_loads (loads_of header)) n ≡ Some l → length l.sections ≡ (l.size - 72) / 80
room_at header n l got =
    let P : SegmentLoad → Type 0 = λ s. length s.sections ≡ (s.size - 72) / 80 in
    let ls : List Load = filter (λ (x : Load). is_segment (number_of x.bytes)) (loads_of header) in
    let lt : n < length (segment_loads (loads_of header)) = slice_get_within (segment_loads (loads_of header)) n l got in
    subst P (get_or_from_slice_get (segment_loads (loads_of header)) n l l got) (All-map P segment_load ls (λ i d inside. sections_room (get_or ls i d)) n l lt)

-- the command of a section's segment
record IsFrom (k : ℕ) (ls : List SegmentLoad) (u : Section) : Type 0 where
  load : SegmentLoad
  index : ℕ
  found : slice_get ls index ≡ Some load
  number : u.segment ≡ k + index
  some : 0 < length load.sections

in_load : (k j : ℕ) (u : Section) (xs : List SectionLoad) → slice_get (map (section_of k) xs) j ≡ Some u → (u.segment ≡ k) × (0 < length xs)
unfolding section_of
in_load k j u [] got = absurd (cc)
in_load k zero u (x ∷ xs) got = (ap (λ (v : Section). v.segment) (sym (same_Some (section_of k x) u got)), omega arith)
in_load k (suc j) u (x ∷ xs) got = ((in_load k j u xs got).0, omega arith)

pub one_of_two : (us vs : List Section) (j : ℕ) (u : Section) → slice_get (us ++ vs) j ≡ Some u → (slice_get us j ≡ Some u) ⊎ ((i : ℕ) × (slice_get vs i ≡ Some u))
one_of_two [] vs j u got = inr (j, got)
one_of_two (v ∷ us) vs zero u got = inl got
one_of_two (v ∷ us) vs (suc j) u got = one_of_two us vs j u got

is_from : (k : ℕ) (ls : List SegmentLoad) (j : ℕ) (u : Section) → slice_get (sections_from k ls) j ≡ Some u → IsFrom k ls u
is_from k [] j u got = absurd (cc)
is_from k (l ∷ ls) j u got = elim (one_of_two (map (section_of k) l.sections) (sections_from (k + 1) ls) j u got) [
  | inl here ↦
      let own = in_load k j u l.sections here in
      record { load = l; index = 0; found = refl; number = omega (arith, own.0); some = own.1 }
  | inr later ↦
      let rest : IsFrom (k + 1) ls u = is_from (k + 1) ls later.0 u later.1 in
      record { load = rest.load; index = suc rest.index; found = rest.found; number = omega (arith, rest.number); some = rest.some }
]

-- ---- so its segment is another

pub command_at : (P : SegmentLoad → Type 0) (ls : List SegmentLoad) (n : ℕ) (l : SegmentLoad) → AllByRecursion P ls → slice_get ls n ≡ Some l → P l
command_at P [] n l all got = absurd (cc)
command_at P (m ∷ ms) zero l all got = subst P (same_Some m l got) all.0
command_at P (m ∷ ms) (suc n) l all got = command_at P ms n l all.1 got

named_alike : (ss : List Seg) (ls : List SegmentLoad) → map unread ss ≡ map (segment_with []) ls → (n : ℕ) (s : Seg) (l : SegmentLoad) → slice_get ss n ≡ Some s → slice_get ls n ≡ Some l → is_linkedit_segment s ≡ is_linkedit l
named_alike [] ls same n s l got load = absurd (cc)
named_alike (t ∷ ss) [] same n s l got load = absurd (cc)
named_alike (t ∷ ss) (m ∷ ls) same zero s l got load =
    let here : unread t ≡ segment_with [] m = cc in
    ap is_linkedit_segment (sym (same_Some t s got)) ∙ (ap (λ (u : Seg). is_linkedit_segment u) here ∙ ap is_linkedit (same_Some m l load))
named_alike (t ∷ ss) (m ∷ ls) same (suc n) s l got load =
    let later : map unread ss ≡ map (segment_with []) ls = cc in
    named_alike ss ls later n s l got load

pub section_owned : (image : Img) → IsSound image → (j : ℕ) (u : Section) (s : Seg) → slice_get image.sections j ≡ Some u → slice_get image.segments u.segment ≡ Some s → is_linkedit_segment s ≡ false
section_owned image sound j u s got home =
    let ls : List SegmentLoad = segment_loads (loads_of image.header) in
    let size : ℕ = header_size image.header in
    let parts = shape_parts size ls (segment_shape image sound) in
    let from : IsFrom 0 ls u = is_from 0 ls j u (ap (λ (xs : List Section). slice_get xs j) (sym sound.sections) ∙ got) in
    let number : u.segment ≡ from.index = omega (arith, from.number) in
    let at : slice_get image.segments from.index ≡ Some s = ap (λ (n : ℕ). slice_get image.segments n) (sym number) ∙ home in
    let same : is_linkedit_segment s ≡ is_linkedit from.load = named_alike image.segments ls sound.segments from.index s from.load at from.found in
    elim (cases_Bool (is_linkedit from.load)) [
      | inl linkedit ↦
          let none : from.load.nsects ≡ 0 = bare size ls parts.3 from.index from.load from.found linkedit in
          let shaped : IsShaped from.load = command_at IsShaped ls from.index from.load (all_shaped ls (all_fail (λ l. not (is_well_shaped l)) ls parts.1)) from.found in
          let room : length from.load.sections ≡ (from.load.size - 72) / 80 = room_at image.header from.index from.load from.found in
          absurd (omega (arith, none, shaped.size, room, from.some))
      | inr other ↦ same ∙ other
    ]
