-- `__LINKEDIT` is the last segment of an image, and no section lies in it.
use Rattle.std.proofs.Common.{◌≡◌, ◌≤◌, ◌<◌, ◌⊎◌, ℕ, zero, suc, ◌+◌, ◌-◌, ◌*◌, ◌/◌, ◌%◌, Bool, true, false, not, ◌&&◌, ◌||◌, nat_eq, nat_le, nat_lt, Option, Some, None, List, [], ◌∷◌, ◌++◌, length, map, drop, get_or, refl, sym, ap, ◌∙◌, subst, arith, if◌then◌else◌, inl, inr}
use Rattle.std.specs.Prelude.{find, filter, slice_get, codes, option_map}
use Rattle.std.specs.Cmp.Lexicographic.{same_text}
use Rattle.std.proofs.lemmas.Bool.{eqb-true, and_parts, cases_Bool, false≢true}
use Rattle.std.proofs.lemmas.Bool.Decides.{nat_tests}
use Rattle.std.proofs.lemmas.List.Elements.{All-map}
use Rattle.std.proofs.lemmas.Option.{same_Some, slice_get_within, get_or_from_slice_get}
use Rattle.dsc_base.specs.Refusals.{least}
use Rattle.macho_image.specs.Records.{Seg, Img, Load, SegmentLoad, SectionLoad}
use Rattle.macho_image.specs.declared.section.Section.{Section}
use Rattle.macho_image.specs.Macho.{header_size, loads_of, number_of, is_segment, segment_load, segment_loads, segment_with, sections_in, section_of, sections_from}
use Rattle.macho_image.specs.Rules.{is_well_shaped, is_linkedit, is_linkedit_name, is_linkedit_segment, is_text, is_text_name, is_good_text, is_good_linkedit, has_reserved_name, misplaced_behind, misplaced, first_segment, first_crossing}
use Rattle.macho_image.specs.Breaks.{unread, IsSound}
use Rattle.macho_image.proofs.SoundSegments.{segment_shape}
use Rattle.macho_image.proofs.Unbroken.{least_none_both}

-- segments of which the last one, and no other, is `__LINKEDIT`
abbrev pub EndInLinkedit : List Seg → Type 0
EndInLinkedit [] = ⊥
EndInLinkedit (s ∷ []) = is_linkedit_segment s ≡ true
EndInLinkedit (s ∷ (t ∷ ss)) = (is_linkedit_segment s ≡ false) × EndInLinkedit (t ∷ ss)

-- ---- what the rules on segments say

wanted : (b : Bool) (at : ℕ) (o : Option ℕ) → (if b then o else Some at) ≡ None → (b ≡ true) × (o ≡ None)
wanted true at o none = (refl, none)
wanted false at o none = absurd (cc)

refused : (b : Bool) (at : ℕ) (o : Option ℕ) → (if b then Some at else o) ≡ None → (b ≡ false) × (o ≡ None)
refused true at o none = absurd (cc)
refused false at o none = (refl, none)

or_false : (a b : Bool) → a || b ≡ false → b ≡ false
or_false true b is = absurd (cc)
or_false false b is = is

pub text_is_other : (name : List ℕ) → is_text_name name ≡ true → is_linkedit_name name ≡ false
text_is_other name named = ap is_linkedit_name (same_text name (codes "__TEXT" ++ (0 ∷ 0 ∷ 0 ∷ 0 ∷ 0 ∷ 0 ∷ 0 ∷ 0 ∷ 0 ∷ 0 ∷ [])) (sym named))

record KeepsShape (size : ℕ) (ls : List SegmentLoad) : Type 0 where
  some : nat_lt (length ls) 2 ≡ false
  shaped : first_segment (λ s. not (is_well_shaped s)) ls ≡ None
  placed : misplaced size ls ≡ None

keeps_shape : (image : Img) → IsSound image → KeepsShape (header_size image.header) (segment_loads (loads_of image.header))
keeps_shape image sound =
    let ls : List SegmentLoad = segment_loads (loads_of image.header) in
    let size : ℕ = header_size image.header in
    let one = refused (nat_lt (length ls) 2) 0 (least (first_segment (λ s. not (is_well_shaped s)) ls) (least (first_crossing [] ls) (misplaced size ls))) (segment_shape image sound) in
    let two = least_none_both (first_segment (λ s. not (is_well_shaped s)) ls) (least (first_crossing [] ls) (misplaced size ls)) one.1 in
    record { some = one.0; shaped = two.0; placed = (least_none_both (first_crossing [] ls) (misplaced size ls) two.1).1 }

-- ---- the last segment

same_name : (s : Seg) (l : SegmentLoad) → unread s ≡ segment_with [] l → is_linkedit_segment s ≡ is_linkedit l
same_name s l same = ap (λ (t : Seg). is_linkedit_name t.name) same

ends_behind : (ss : List Seg) (ls : List SegmentLoad) → map unread ss ≡ map (segment_with []) ls → 1 ≤ length ls → misplaced_behind ls ≡ None → EndInLinkedit ss
ends_behind ss [] same some none = absurd (omega (arith, some))
ends_behind [] (l ∷ ls) same some none = absurd (cc)
ends_behind (s ∷ []) (l ∷ []) same some none =
    let here : unread s ≡ segment_with [] l = cc in
    same_name s l here ∙ (and_parts (is_linkedit l) (nat_eq l.initprot 1 && nat_eq l.nsects 0) (wanted (is_good_linkedit l) l.at None none).0).0
ends_behind (s ∷ []) (l ∷ (m ∷ ls)) same some none = absurd (cc)
ends_behind (s ∷ (t ∷ ss)) (l ∷ []) same some none = absurd (cc)
ends_behind (s ∷ (t ∷ ss)) (l ∷ (m ∷ ls)) same some none =
    let here : unread s ≡ segment_with [] l = cc in
    let later : map unread (t ∷ ss) ≡ map (segment_with []) (m ∷ ls) = cc in
    let parts = refused (has_reserved_name l) l.at (misplaced_behind (m ∷ ls)) none in
    (same_name s l here ∙ or_false (is_text l) (is_linkedit l) parts.0, ends_behind (t ∷ ss) (m ∷ ls) later (omega arith) parts.1)

good_text : (size : ℕ) (l : SegmentLoad) → is_good_text size l ≡ true → is_linkedit l ≡ false
good_text size l good = text_is_other l.name (and_parts (is_text l) (nat_eq l.initprot 5 && nat_le size l.filesize) good).0

ends : (size : ℕ) (ss : List Seg) (ls : List SegmentLoad) → map unread ss ≡ map (segment_with []) ls → 2 ≤ length ls → misplaced size ls ≡ None → EndInLinkedit ss
ends size ss [] same some none = absurd (omega (arith, some))
ends size ss (l ∷ []) same some none = absurd (omega (arith, some))
ends size [] (l ∷ (m ∷ ls)) same some none = absurd (cc)
ends size (s ∷ []) (l ∷ (m ∷ ls)) same some none = absurd (cc)
ends size (s ∷ (t ∷ ss)) (l ∷ (m ∷ ls)) same some none =
    let here : unread s ≡ segment_with [] l = cc in
    let later : map unread (t ∷ ss) ≡ map (segment_with []) (m ∷ ls) = cc in
    let parts = wanted (is_good_text size l) l.at (misplaced_behind (m ∷ ls)) none in
    (same_name s l here ∙ good_text size l parts.0, ends_behind (t ∷ ss) (m ∷ ls) later (omega arith) parts.1)

pub ends_in_linkedit : (image : Img) → IsSound image → EndInLinkedit image.segments
ends_in_linkedit image sound =
    let ls : List SegmentLoad = segment_loads (loads_of image.header) in
    let keeps : KeepsShape (header_size image.header) ls = keeps_shape image sound in
    let few : nat_lt (length ls) 2 ≡ false = keeps.some in
    let some : 2 ≤ length ls = grind (arith, nat_tests) in
    ends (header_size image.header) image.segments ls sound.segments some keeps.placed

-- ---- it has no sections

bare_behind : (ls : List SegmentLoad) → misplaced_behind ls ≡ None → (n : ℕ) (l : SegmentLoad) → slice_get ls n ≡ Some l → is_linkedit l ≡ true → l.nsects ≡ 0
bare_behind [] none n l got named = absurd (cc)
bare_behind (s ∷ []) none zero l got named =
    let same : s ≡ l = same_Some s l got in
    let good = and_parts (is_linkedit s) (nat_eq s.initprot 1 && nat_eq s.nsects 0) (wanted (is_good_linkedit s) s.at None none).0 in
    ap (λ (x : SegmentLoad). x.nsects) (sym same) ∙ eqb-true s.nsects 0 (and_parts (nat_eq s.initprot 1) (nat_eq s.nsects 0) good.1).1
bare_behind (s ∷ []) none (suc n) l got named = absurd (cc)
bare_behind (s ∷ (t ∷ ss)) none zero l got named =
    let same : s ≡ l = same_Some s l got in
    let parts = refused (has_reserved_name s) s.at (misplaced_behind (t ∷ ss)) none in
    absurd (false≢true (sym (or_false (is_text s) (is_linkedit s) parts.0) ∙ (ap is_linkedit same ∙ named)))
bare_behind (s ∷ (t ∷ ss)) none (suc n) l got named = bare_behind (t ∷ ss) (refused (has_reserved_name s) s.at (misplaced_behind (t ∷ ss)) none).1 n l got named

bare : (size : ℕ) (ls : List SegmentLoad) → misplaced size ls ≡ None → (n : ℕ) (l : SegmentLoad) → slice_get ls n ≡ Some l → is_linkedit l ≡ true → l.nsects ≡ 0
bare size [] none n l got named = absurd (cc)
bare size (s ∷ ss) none zero l got named =
    let same : s ≡ l = same_Some s l got in
    absurd (false≢true (sym (good_text size s (wanted (is_good_text size s) s.at (misplaced_behind ss) none).0) ∙ (ap is_linkedit same ∙ named)))
bare size (s ∷ ss) none (suc n) l got named = bare_behind ss (wanted (is_good_text size s) s.at (misplaced_behind ss) none).1 n l got named

shaped_at : (ls : List SegmentLoad) → first_segment (λ s. not (is_well_shaped s)) ls ≡ None → (n : ℕ) (l : SegmentLoad) → slice_get ls n ≡ Some l → is_well_shaped l ≡ true
shaped_at [] none n l got = absurd (cc)
shaped_at (s ∷ ss) none n l got = at (is_well_shaped s) refl n got none (λ m later found. shaped_at ss later m l found)
  where
    at : (b : Bool) → is_well_shaped s ≡ b → (n : ℕ) → slice_get (s ∷ ss) n ≡ Some l → option_map (λ (t : SegmentLoad). t.at) (if not b then Some s else find (λ t. not (is_well_shaped t)) ss) ≡ None
        → ((m : ℕ) → first_segment (λ t. not (is_well_shaped t)) ss ≡ None → slice_get ss m ≡ Some l → is_well_shaped l ≡ true) → is_well_shaped l ≡ true
    at true is zero got none later = ap is_well_shaped (sym (same_Some s l got)) ∙ is
    at true is (suc n) got none later = later n none got
    at false is n got none later = absurd (cc)

length-sections_in : (n : ℕ) (bytes : List ℕ) → length (sections_in n bytes) ≡ n
length-sections_in zero bytes = refl
length-sections_in (suc n) bytes = ap suc (length-sections_in n (drop 80 bytes))

room_here : (l : Load) → length (segment_load l).sections ≡ ((segment_load l).size - 72) / 80
unfolding segment_load
room_here l = length-sections_in ((length l.bytes - 72) / 80) (drop 72 l.bytes)

room_at : (header : List ℕ) (n : ℕ) (l : SegmentLoad) → slice_get (segment_loads (loads_of header)) n ≡ Some l → length l.sections ≡ (l.size - 72) / 80
room_at header n l got =
    let P : SegmentLoad → Type 0 = λ s. length s.sections ≡ (s.size - 72) / 80 in
    let ls : List Load = filter (λ (x : Load). is_segment (number_of x.bytes)) (loads_of header) in
    let lt : n < length (segment_loads (loads_of header)) = slice_get_within (segment_loads (loads_of header)) n l got in
    subst P (get_or_from_slice_get (segment_loads (loads_of header)) n l l got) (All-map P segment_load ls (λ i d inside. room_here (get_or ls i d)) n l lt)

-- the command of a section's segment
record IsFrom (k : ℕ) (ls : List SegmentLoad) (u : Section) : Type 0 where
  load : SegmentLoad
  index : ℕ
  found : slice_get ls index ≡ Some load
  number : u.segment ≡ k + index
  some : 0 < length load.sections

in_load : (k j : ℕ) (u : Section) (xs : List SectionLoad) → slice_get (map (section_of k) xs) j ≡ Some u → (u.segment ≡ k) × (0 < length xs)
unfolding section_of
in_load k j u [] got = absurd (cc)
in_load k zero u (x ∷ xs) got = (ap (λ (v : Section). v.segment) (sym (same_Some (section_of k x) u got)), omega arith)
in_load k (suc j) u (x ∷ xs) got = ((in_load k j u xs got).0, omega arith)

one_of_two : (us vs : List Section) (j : ℕ) (u : Section) → slice_get (us ++ vs) j ≡ Some u → (slice_get us j ≡ Some u) ⊎ ((i : ℕ) × (slice_get vs i ≡ Some u))
one_of_two [] vs j u got = inr (j, got)
one_of_two (v ∷ us) vs zero u got = inl got
one_of_two (v ∷ us) vs (suc j) u got = one_of_two us vs j u got

is_from : (k : ℕ) (ls : List SegmentLoad) (j : ℕ) (u : Section) → slice_get (sections_from k ls) j ≡ Some u → IsFrom k ls u
is_from k [] j u got = absurd (cc)
is_from k (l ∷ ls) j u got = elim (one_of_two (map (section_of k) l.sections) (sections_from (k + 1) ls) j u got) [
  | inl here ↦
      let own = in_load k j u l.sections here in
      record { load = l; index = 0; found = refl; number = omega (arith, own.0); some = own.1 }
  | inr later ↦
      let rest : IsFrom (k + 1) ls u = is_from (k + 1) ls later.0 u later.1 in
      record { load = rest.load; index = suc rest.index; found = rest.found; number = omega (arith, rest.number); some = rest.some }
]

named_alike : (ss : List Seg) (ls : List SegmentLoad) → map unread ss ≡ map (segment_with []) ls → (n : ℕ) (s : Seg) (l : SegmentLoad) → slice_get ss n ≡ Some s → slice_get ls n ≡ Some l → is_linkedit_segment s ≡ is_linkedit l
named_alike [] ls same n s l got load = absurd (cc)
named_alike (t ∷ ss) [] same n s l got load = absurd (cc)
named_alike (t ∷ ss) (m ∷ ls) same zero s l got load =
    let here : unread t ≡ segment_with [] m = cc in
    ap is_linkedit_segment (sym (same_Some t s got)) ∙ (same_name t m here ∙ ap is_linkedit (same_Some m l load))
named_alike (t ∷ ss) (m ∷ ls) same (suc n) s l got load =
    let later : map unread ss ≡ map (segment_with []) ls = cc in
    named_alike ss ls later n s l got load

pub section_besides : (image : Img) → IsSound image → (j : ℕ) (u : Section) (s : Seg) → slice_get image.sections j ≡ Some u → slice_get image.segments u.segment ≡ Some s → is_linkedit_segment s ≡ false
section_besides image sound j u s got home =
    let ls : List SegmentLoad = segment_loads (loads_of image.header) in
    let keeps : KeepsShape (header_size image.header) ls = keeps_shape image sound in
    let from : IsFrom 0 ls u = is_from 0 ls j u (ap (λ (xs : List Section). slice_get xs j) (sym sound.sections) ∙ got) in
    let number : u.segment ≡ from.index = omega (arith, from.number) in
    let at : slice_get image.segments from.index ≡ Some s = ap (λ (n : ℕ). slice_get image.segments n) (sym number) ∙ home in
    let same : is_linkedit_segment s ≡ is_linkedit from.load = named_alike image.segments ls sound.segments from.index s from.load at from.found in
    elim (cases_Bool (is_linkedit from.load)) [
      | inl linkedit ↦
          let none : from.load.nsects ≡ 0 = bare (header_size image.header) ls keeps.placed from.index from.load from.found linkedit in
          let shaped : is_well_shaped from.load ≡ true = shaped_at ls keeps.shaped from.index from.load from.found in
          let sized = and_parts (nat_eq from.load.size (72 + 80 * from.load.nsects)) (nat_eq (from.load.vmaddr % 4096) 0 && (nat_le from.load.filesize from.load.vmsize && nat_le (from.load.vmaddr + from.load.vmsize) 0x8000_0000_0000)) shaped in
          let size : from.load.size ≡ 72 + 80 * from.load.nsects = eqb-true from.load.size (72 + 80 * from.load.nsects) sized.0 in
          absurd (omega (arith, none, size, room_at image.header from.index from.load from.found, from.some))
      | inr other ↦ same ∙ other
    ]
