-- What is known of the commands and segments of a sound image whose header is placed.
use Rattle.std.proofs.Common.{◌≡◌, ◌≤◌, ◌<◌, inl, inr, ℕ, zero, suc, ◌+◌, ◌-◌, ◌*◌, ◌/◌, ◌^◌, Bool, true, false, not, ◌&&◌, nat_eq, nat_lt, if◌then◌else◌, None, List, [], ◌∷◌, map, length, get_or, refl, sym, ap, ap₂, ◌∙◌, subst, arith}
use Rattle.std.specs.List.{AllByRecursion}
use Rattle.std.proofs.lemmas.Bool.{cond-true, cond-false, eqb-true, and_parts, or_parts, ltb-false}
use Rattle.std.proofs.lemmas.Bool.Decides.{nat_tests}
use Rattle.dsc_base.specs.Numbers.{number_at}
use Rattle.macho_image.specs.declared.form.Form.{Form}
use Rattle.macho_image.specs.declared.form.Form.TheVariants.{Standalone, Cached}
use Rattle.macho_image.specs.declared.place.Moved.{Moved}
use Rattle.macho_image.specs.Records.{Img, Seg, Load, SegmentLoad}
use Rattle.macho_image.specs.Macho.{number_of, is_segment, loads_from, loads_of, header_size, segment_load, segment_loads, segment_with}
use Rattle.macho_image.specs.Rules.{first_segment, first_crossing, says_cached, is_well_shaped, misplaced, misplaced_behind, is_good_text, is_good_linkedit, has_reserved_name, is_linkedit, is_linkedit_name, is_linkedit_segment, is_text}
use Rattle.dsc_base.specs.Refusals.{least}
use Rattle.macho_image.specs.Breaks.{form_of, unread, IsSound}
use Rattle.macho_image.proofs.CommandLaws.{IsWholeCommand}
use Rattle.macho_image.proofs.Unbroken.{least_none_both, when_false, when_true}
use Rattle.macho_edit.specs.declared.segment.SegmentPlace.{SegmentPlace}
use Rattle.macho_edit.specs.declared.spots.LinkSpots.{LinkSpots}
use Rattle.macho_edit.specs.Segments.{place_for}
use Rattle.macho_edit.specs.Cached.{in_cache, flags_in}
use Rattle.macho_edit.specs.Placed.{places_of, IsSeated, AreApart}
use Rattle.macho_edit.proofs.PlaceLaws.{place_other, place_linkedit}
use Rattle.macho_edit.proofs.BoolLaws.{bool_cases, clash}
use Rattle.macho_edit.proofs.MovedSegments.{FitsPlace, IsSegmentBytes}
use Rattle.macho_edit.proofs.MovedCommands.{IsGoodCommand, load_places, segments_yes, segments_no}
use Rattle.macho_edit.proofs.KeptSections.{IsWholeMove}
use Rattle.macho_edit.proofs.KeptSegments.{AreSeated, AllApart, StartsAt, LinkeditAt, text_other, IsGoodText, good_text}
use Rattle.macho_image.proofs.HeaderRules.{sound_rules, IsShaped}
use Rattle.macho_image.proofs.SectionLaws.{sections_room}
use Rattle.macho_image.proofs.SoundSegments.{loads_length}

-- the places of segments are those of their commands
pub places_from : (spots : LinkSpots) (moves : List Moved) (segs : List Seg) (ss : List SegmentLoad) → map unread segs ≡ map (segment_with []) ss → places_of spots moves segs ≡ load_places spots moves ss
places_from spots [] segs ss same = refl
places_from spots (m ∷ ms) [] [] same = refl
places_from spots (m ∷ ms) [] (s ∷ ss) same = absurd (cc)
places_from spots (m ∷ ms) (g ∷ gs) [] same = absurd (cc)
places_from spots (m ∷ ms) (g ∷ gs) (s ∷ ss) same =
    let here : unread g ≡ segment_with [] s = cc in
    let later : map unread gs ≡ map (segment_with []) ss = cc in
    ap₂ (λ (p : SegmentPlace) (ps : List SegmentPlace). p ∷ ps) (ap (λ (x : Seg). place_for spots m x.name x.vmsize) here) (places_from spots ms gs ss later)

-- a well-shaped segment is its 72 bytes and whole sections
segment_bytes : (l : Load) → IsShaped (segment_load l) → IsSegmentBytes l.bytes
unfolding segment_load
segment_bytes l shaped =
    let size : length l.bytes ≡ 72 + 80 * number_at 4 l.bytes 64 = shaped.size in
    record { front = omega arith; whole = omega arith }

pub commands_good : (at : ℕ) (cs : List (List ℕ)) → AllByRecursion IsWholeCommand cs → AllByRecursion IsShaped (segment_loads (loads_from at cs)) → AllByRecursion IsGoodCommand cs
commands_good at [] whole shaped = tt
commands_good at (c ∷ cs) whole shaped =
    let l : Load = record { at = at; bytes = c } in
    elim (bool_cases (is_segment (number_of c))) [
      | inl other ↦
          let rest : AllByRecursion IsShaped (segment_loads (loads_from (at + length c) cs)) = subst (λ (ss : List SegmentLoad). AllByRecursion IsShaped ss) (segments_no l (loads_from (at + length c) cs) other) shaped in
          (record { whole = whole.0; segment = λ is. absurd (clash (is_segment (number_of c)) is other) }, commands_good (at + length c) cs whole.1 rest)
      | inr is ↦
          let all : AllByRecursion IsShaped (segment_load l ∷ segment_loads (loads_from (at + length c) cs)) = subst (λ (ss : List SegmentLoad). AllByRecursion IsShaped ss) (segments_yes l (loads_from (at + length c) cs) is) shaped in
          (record { whole = whole.0; segment = λ _. segment_bytes l all.0 }, commands_good (at + length c) cs whole.1 all.1)
    ]

-- a segment's sections are as many as its command has room for
abbrev pub HasRoom : SegmentLoad → Type 0
HasRoom s = length s.sections ≡ (s.size - 72) / 80

pub all_room : (ls : List Load) → AllByRecursion HasRoom (segment_loads ls)
all_room [] = tt
all_room (l ∷ ls) = elim (bool_cases (is_segment (number_of l.bytes))) [
  | inl other ↦ subst (λ (ss : List SegmentLoad). AllByRecursion HasRoom ss) (sym (segments_no l ls other)) (all_room ls)
  | inr is ↦ subst (λ (ss : List SegmentLoad). AllByRecursion HasRoom ss) (sym (segments_yes l ls is)) (sections_room l, all_room ls)
]

-- `__LINKEDIT` has no sections
abbrev pub IsBare : SegmentLoad → Type 0
IsBare s = is_linkedit s ≡ true → s.nsects ≡ 0

bare_behind : (ss : List SegmentLoad) → misplaced_behind ss ≡ None → AllByRecursion IsBare ss
bare_behind [] none = tt
bare_behind (s ∷ []) none =
    let good : is_good_linkedit s ≡ true = (when_true (is_good_linkedit s) s.at None none).0 in
    let one = and_parts (is_linkedit s) (nat_eq s.initprot 1 && nat_eq s.nsects 0) good in
    let two = and_parts (nat_eq s.initprot 1) (nat_eq s.nsects 0) one.1 in
    (λ _. eqb-true s.nsects 0 two.1, tt)
bare_behind (s ∷ t ∷ ss) none =
    let parts = when_false (has_reserved_name s) s.at (misplaced_behind (t ∷ ss)) none in
    (λ linkedit. absurd (clash (is_linkedit s) linkedit (or_parts (is_text s) (is_linkedit s) parts.0).1), bare_behind (t ∷ ss) parts.1)

pub all_bare : (size : ℕ) (ss : List SegmentLoad) → misplaced size ss ≡ None → AllByRecursion IsBare ss
all_bare size [] none = tt
all_bare size (s ∷ ss) none =
    let parts = when_true (is_good_text size s) s.at (misplaced_behind ss) none in
    let good : IsGoodText size s = good_text size s parts.0 in
    (λ linkedit. absurd (clash (is_linkedit s) linkedit (text_other s.name good.named)), bare_behind ss parts.1)

-- each moved segment other than `__LINKEDIT` ends below 2 ^ 32
abbrev pub LowLoads : List Moved → List SegmentLoad → Type 0
LowLoads [] ss = Unit {0}
LowLoads (m ∷ ms) [] = Unit {0}
LowLoads (m ∷ ms) (s ∷ ss) = (is_linkedit s ≡ false → m.file + s.vmsize < 2 ^ 32) × LowLoads ms ss

pub low_loads : (moves : List Moved) (segs : List Seg) (ss : List SegmentLoad) → map unread segs ≡ map (segment_with []) ss
    → ((k : ℕ) (m : Moved) (s : Seg) → k < length moves → is_linkedit_segment (get_or segs k s) ≡ false → (get_or moves k m).file + (get_or segs k s).vmsize < 2 ^ 32) → LowLoads moves ss
low_loads [] segs ss same low = tt
low_loads (m ∷ ms) [] [] same low = tt
low_loads (m ∷ ms) [] (s ∷ ss) same low = absurd (cc)
low_loads (m ∷ ms) (g ∷ gs) [] same low = absurd (cc)
low_loads (m ∷ ms) (g ∷ gs) (s ∷ ss) same low =
    let here : unread g ≡ segment_with [] s = cc in
    let later : map unread gs ≡ map (segment_with []) ss = cc in
    let size : g.vmsize ≡ s.vmsize = ap (λ (x : Seg). x.vmsize) here in (
      λ other. omega (arith, low 0 m g (omega arith) (ap (λ (x : Seg). is_linkedit_name x.name) here ∙ other), size),
      low_loads ms gs ss later (λ k n t lt. low (suc k) n t (omega arith)),
    )

whole_move : (spots : LinkSpots) (m : Moved) (s : SegmentLoad) → (is_linkedit s ≡ false → m.file + s.vmsize < 2 ^ 32) → is_linkedit s ≡ false → IsWholeMove (place_for spots m s.name s.vmsize) s
whole_move spots m s low other =
    subst (λ (p : SegmentPlace). IsWholeMove p s) (sym (place_other spots m s.name s.vmsize other)) (record { sized = refl; filled = refl; room = low other })

pub are_seated : (n : ℕ) (spots : LinkSpots) (moves : List Moved) (ss : List SegmentLoad) → AllByRecursion (IsSeated n) (load_places spots moves ss) → AllByRecursion IsShaped ss → AllByRecursion HasRoom ss
    → AllByRecursion IsBare ss → LowLoads moves ss → AreSeated n (load_places spots moves ss) ss
are_seated n spots [] ss seated shaped room bare low = tt
are_seated n spots (m ∷ ms) [] seated shaped room bare low = tt
are_seated n spots (m ∷ ms) (s ∷ ss) seated shaped room bare low = (
  record { seated = seated.0; shaped = shaped.0; room = room.0; whole = whole_move spots m s low.0; bare = bare.0 },
  are_seated n spots ms ss seated.1 shaped.1 room.1 bare.1 low.1,
)

file_fits : (spots : LinkSpots) (m : Moved) (s : SegmentLoad) → spots.linkedit.file < 2 ^ 64 → (is_linkedit s ≡ false → m.file + s.vmsize < 2 ^ 32) → (place_for spots m s.name s.vmsize).file < 2 ^ 64
file_fits spots m s file low = elim (bool_cases (is_linkedit s)) [
  | inl other ↦ omega (arith, low other, ap (λ (p : SegmentPlace). p.file) (place_other spots m s.name s.vmsize other))
  | inr this ↦ omega (arith, file, ap (λ (p : SegmentPlace). p.file) (place_linkedit spots m s.name s.vmsize this))
]

pub all_fit : (n : ℕ) (spots : LinkSpots) (moves : List Moved) (ss : List SegmentLoad) → spots.linkedit.file < 2 ^ 64 → LowLoads moves ss → AllByRecursion (IsSeated n) (load_places spots moves ss) → AllByRecursion FitsPlace (load_places spots moves ss)
all_fit n spots [] ss file low seated = tt
all_fit n spots (m ∷ ms) [] file low seated = tt
all_fit n spots (m ∷ ms) (s ∷ ss) file low seated =
    let p : SegmentPlace = place_for spots m s.name s.vmsize in
    let here : IsSeated n p = seated.0 in
    let a : p.address + p.vmsize ≤ 0x8000_0000_0000 = here.low in
    let b : p.filesize ≤ p.vmsize = here.filled in
    let c : p.file < 2 ^ 64 = file_fits spots m s file low.0 in
    (record { address = omega arith; vmsize = omega arith; file = c; filesize = omega arith }, all_fit n spots ms ss file low.1 seated.1)

row_apart : (p : SegmentPlace) (ps : List SegmentPlace) → ((j : ℕ) (d : SegmentPlace) → j < length ps → AreApart p (get_or ps j d)) → AllByRecursion (AreApart p) ps
row_apart p [] apart = tt
row_apart p (q ∷ ps) apart = (apart 0 q (omega arith), row_apart p ps (λ j d lt. apart (suc j) d (omega arith)))

pub all_apart : (ps : List SegmentPlace) → ((i j : ℕ) (d : SegmentPlace) → i < j → j < length ps → AreApart (get_or ps i d) (get_or ps j d)) → AllApart ps
all_apart [] apart = tt
all_apart (p ∷ ps) apart = (row_apart p ps (λ j d lt. apart 0 (suc j) d (omega arith) (omega arith)), all_apart ps (λ i j d lt within. apart (suc i) (suc j) d (omega arith) (omega arith)))

pub linkedit_at : (spots : LinkSpots) (moves : List Moved) (ss : List SegmentLoad) → LinkeditAt spots.linkedit.file spots.filesize (load_places spots moves ss) ss
linkedit_at spots [] ss = tt
linkedit_at spots (m ∷ ms) [] = tt
linkedit_at spots (m ∷ ms) (s ∷ ss) = (
  λ linkedit.
      let is = place_linkedit spots m s.name s.vmsize linkedit in
      (ap (λ (p : SegmentPlace). p.file) is, ap (λ (p : SegmentPlace). p.filesize) is),
  linkedit_at spots ms ss,
)

-- the first segment is the text segment, which has the header, and begins where the header stands
pub first_text : (size h : ℕ) (spots : LinkSpots) (moves : List Moved) (ss : List SegmentLoad) → length moves ≡ length ss → 2 ≤ length ss → misplaced size ss ≡ None → AllByRecursion IsShaped ss → LowLoads moves ss
    → get_or (map (λ (m : Moved). m.file) moves) 0 h ≡ h → StartsAt h (load_places spots moves ss) × (size < 2 ^ 32)
first_text size h spots [] [] len many none shaped low first = absurd (omega arith)
first_text size h spots [] (s ∷ ss) len many none shaped low first = absurd (omega arith)
first_text size h spots (m ∷ ms) [] len many none shaped low first = absurd (omega arith)
first_text size h spots (m ∷ ms) (s ∷ ss) len many none shaped low first =
    let parts = when_true (is_good_text size s) s.at (misplaced_behind ss) none in
    let good : IsGoodText size s = good_text size s parts.0 in
    let other : is_linkedit s ≡ false = text_other s.name good.named in
    let below : m.file + s.vmsize < 2 ^ 32 = low.0 other in
    let filled : s.filesize ≤ s.vmsize = shaped.0.filled in
    let holds : size ≤ s.filesize = good.holds in
    (ap (λ (p : SegmentPlace). p.file) (place_other spots m s.name s.vmsize other) ∙ first, omega arith)

-- the flags of a file of its own
flags_clear : (header : List ℕ) → form_of header ≡ Standalone → says_cached (number_at 4 header 24) ≡ false
flags_clear header told = clear (says_cached (number_at 4 header 24)) told
  where
    clear : (b : Bool) → if◌then◌else◌ {A = Form} b Cached Standalone ≡ Standalone → b ≡ false
    clear true e = absurd (cc)
    clear false e = refl

pub flags_set : (flags : ℕ) → says_cached flags ≡ false → (in_cache flags ≡ flags + 0x8000_0000) × (flags < 0x8000_0000)
flags_set flags clear = (cond-false (says_cached flags) flags (flags + 0x8000_0000) clear, grind (arith, nat_tests))

pub standalone_flags : (header : List ℕ) → form_of header ≡ Standalone → number_at 4 header 24 < 2 ^ 32
standalone_flags header told = let set = flags_set (number_at 4 header 24) (flags_clear header told) in omega (arith, set.1)

-- the flag of the cache is one of 32 bits
pub cache_flags_fit : (flags : ℕ) → flags < 2 ^ 32 → in_cache flags < 2 ^ 32
cache_flags_fit flags fits = elim (bool_cases (says_cached flags)) [
  | inl clear ↦ let set = flags_set flags clear in omega (arith, set.0, set.1)
  | inr set ↦ omega (arith, fits, cond-true (says_cached flags) flags (flags + 0x8000_0000) set)
]

pub form_flags_fit : (form : Form) (flags : ℕ) → flags < 2 ^ 32 → flags_in form flags < 2 ^ 32
form_flags_fit Cached flags fits = cache_flags_fit flags fits
form_flags_fit Standalone flags fits = elim (bool_cases (says_cached flags)) [
  | inl clear ↦ omega (arith, fits, cond-false (says_cached flags) (flags - 0x8000_0000) flags clear)
  | inr set ↦ omega (arith, fits, cond-true (says_cached flags) (flags - 0x8000_0000) flags set)
]

-- behind the first segment, the last one is `__LINKEDIT`, and no other is
abbrev LinkeditLast : List SegmentLoad → ℕ → SegmentLoad → Type 0
LinkeditLast ss k s = (k + 1 ≡ length ss → is_linkedit (get_or ss k s) ≡ true) × (k + 1 < length ss → is_linkedit (get_or ss k s) ≡ false)

linkedit_behind : (ss : List SegmentLoad) → misplaced_behind ss ≡ None → (k : ℕ) (s : SegmentLoad) → k < length ss → LinkeditLast ss k s
linkedit_behind [] none k s lt = absurd (omega arith)
linkedit_behind (t ∷ []) none zero s lt = (
  λ _. (and_parts (is_linkedit t) (nat_eq t.initprot 1 && nat_eq t.nsects 0) (when_true (is_good_linkedit t) t.at None none).0).0,
  λ more. absurd (omega arith),
)
linkedit_behind (t ∷ []) none (suc k) s lt = absurd (omega arith)
linkedit_behind (t ∷ u ∷ ss) none zero s lt =
    let parts = when_false (has_reserved_name t) t.at (misplaced_behind (u ∷ ss)) none in
    (λ last. absurd (omega arith), λ _. (or_parts (is_text t) (is_linkedit t) parts.0).1)
linkedit_behind (t ∷ u ∷ ss) none (suc k) s lt =
    let parts = when_false (has_reserved_name t) t.at (misplaced_behind (u ∷ ss)) none in
    let later : LinkeditLast (u ∷ ss) k s = linkedit_behind (u ∷ ss) parts.1 k s (omega arith) in
    (λ last. later.0 (omega arith), λ more. later.1 (omega arith))

linkedit_load : (size : ℕ) (ss : List SegmentLoad) → 2 ≤ length ss → misplaced size ss ≡ None → (k : ℕ) (s : SegmentLoad) → k < length ss → LinkeditLast ss k s
linkedit_load size [] many none k s lt = absurd (omega arith)
linkedit_load size (t ∷ ss) many none zero s lt =
    let parts = when_true (is_good_text size t) t.at (misplaced_behind ss) none in
    let good : IsGoodText size t = good_text size t parts.0 in
    (λ last. absurd (omega arith), λ _. text_other t.name good.named)
linkedit_load size (t ∷ ss) many none (suc k) s lt =
    let parts = when_true (is_good_text size t) t.at (misplaced_behind ss) none in
    let later : LinkeditLast ss k s = linkedit_behind ss parts.1 k s (omega arith) in
    (λ last. later.0 (omega arith), λ more. later.1 (omega arith))

-- the name of a segment, by its command
same_name_at : (segs : List Seg) (ss : List SegmentLoad) (k : ℕ) (g : Seg) (s : SegmentLoad) → map unread segs ≡ map (segment_with []) ss → k < length segs → (get_or segs k g).name ≡ (get_or ss k s).name
same_name_at [] ss k g s same lt = absurd (omega arith)
same_name_at (g ∷ gs) [] k h s same lt = absurd (cc)
same_name_at (g ∷ gs) (t ∷ ts) zero h s same lt =
    let here : unread g ≡ segment_with [] t = cc in
    ap (λ (x : Seg). x.name) here
same_name_at (g ∷ gs) (t ∷ ts) (suc k) h s same lt =
    let later : map unread gs ≡ map (segment_with []) ts = cc in
    same_name_at gs ts k h s later (omega arith)

-- the last segment of a sound image is `__LINKEDIT`, and no other is
pub linkedit_last : (image : Img) → IsSound image → (k : ℕ) (g : Seg) → k < length image.segments
    → (k + 1 ≡ length image.segments → is_linkedit_segment (get_or image.segments k g) ≡ true) × (k + 1 < length image.segments → is_linkedit_segment (get_or image.segments k g) ≡ false)
linkedit_last image sound k g lt =
    let header : List ℕ = image.header in
    let ss : List SegmentLoad = segment_loads (loads_of header) in
    let rules = sound_rules image sound in
    let len : length image.segments ≡ length ss = loads_length image.segments ss sound.segments in
    let many = when_false (nat_lt (length ss) 2) 0 (least (first_segment (λ s. not (is_well_shaped s)) ss) (least (first_crossing [] ss) (misplaced (header_size header) ss))) rules.segments in
    let parts = least_none_both (first_segment (λ s. not (is_well_shaped s)) ss) (least (first_crossing [] ss) (misplaced (header_size header) ss)) many.1 in
    let rest = least_none_both (first_crossing [] ss) (misplaced (header_size header) ss) parts.1 in
    let load : SegmentLoad = record { at = 0; size = 0; name = []; vmaddr = 0; vmsize = 0; fileoff = 0; filesize = 0; maxprot = 0; initprot = 0; nsects = 0; flags = 0; sections = [] } in
    let last : LinkeditLast ss k load = linkedit_load (header_size header) ss (ltb-false (length ss) 2 many.0) rest.1 k load (omega arith) in
    let named : (get_or image.segments k g).name ≡ (get_or ss k load).name = same_name_at image.segments ss k g load sound.segments lt in
    (λ final. ap is_linkedit_name named ∙ last.0 (omega arith), λ more. ap is_linkedit_name named ∙ last.1 (omega arith))
