-- Segments of a cache's images: where those lie that are placed, and which one is the first that isn't.
use Rattle.std.proofs.Common.{◌≡◌, ◌≤◌, ◌<◌, ℕ, zero, suc, ◌+◌, ◌-◌, ◌*◌, ◌/◌, ◌%◌, Bool, true, false, not, ◌&&◌, ◌||◌, nat_eq, nat_le, nat_lt, Option, Some, None, List, [], ◌∷◌, ◌++◌, map, take, length, get_or, refl, sym, ap, ap₂, ◌∙◌, subst, inl, inr, arith}
use Rattle.std.specs.Prelude.{position, find, option_map, if◌then◌else◌}
use Rattle.std.specs.List.{list_any, AllByRecursion}
use Rattle.std.proofs.lemmas.Bool.{leb-true, and_parts, or_cases, cases_Bool, false≢true}
use Rattle.std.proofs.lemmas.Bool.Decides.{nat_tests}
use Rattle.std.proofs.lemmas.Grind.{flat_map-append}
use Rattle.std.proofs.lemmas.List.{take_more, append-nil}
use Rattle.dsc_base.specs.Region.{region_start}
use Rattle.dsc_base.specs.Refusals.{least}
use Rattle.dsc_base.specs.declared.finding_kind.FindingKind.TheVariants.{SegmentOutside}
use Rattle.macho_image.specs.Records.{Seg, Img, SegmentLoad}
use Rattle.macho_image.specs.Macho.{header_size, loads_of, segment_loads, segment_with}
use Rattle.macho_image.specs.Rules.{is_linkedit_segment, is_well_shaped, first_segment, first_crossing, misplaced}
use Rattle.macho_image.specs.Breaks.{IsSound, unread}
use Rattle.macho_image.proofs.SoundSegments.{segment_shape}
use Rattle.dep_closure.proofs.PositionLaws.{position-cons}
use Rattle.cache_header.specs.declared.head.Mapping.{Mapping}
use Rattle.cache_header.specs.Findings.{finding}
use Rattle.load_model.specs.Mapped.{three_mappings}
use Rattle.cache_check.specs.Shape.{are_three}
use Rattle.cache_check.specs.Images.{is_within, is_placed, shares, is_misplaced, segments_of, segment_finding}
use Rattle.cache_check.specs.Steps.Pages.{is_marked, is_taken, AreMarked, AreAligned}
use Rattle.cache_check.proofs.ShapeLaws.{AreThree, three_are}
use Rattle.cache_check.proofs.MarkLaws.{marks_tell}

-- ---- a segment that is placed

record InFile (size : ℕ) (s : Seg) : Type 0 where
  pub low : region_start ≤ s.vmaddr
  pub high : s.vmaddr + s.vmsize ≤ region_start + size

within_is : (s : Seg) (m : Mapping) (size : ℕ) → is_within s m ≡ true → region_start ≤ m.address → m.address + m.size ≤ region_start + size → InFile size s
within_is s m size is low high =
    let one = and_parts (nat_eq m.init_prot s.initprot) (nat_le m.address s.vmaddr && (nat_le (s.vmaddr + s.vmsize) (m.address + m.size) && nat_eq s.fileoff (m.file + (s.vmaddr - m.address)))) is in
    let two = and_parts (nat_le m.address s.vmaddr) (nat_le (s.vmaddr + s.vmsize) (m.address + m.size) && nat_eq s.fileoff (m.file + (s.vmaddr - m.address))) one.1 in
    let three = and_parts (nat_le (s.vmaddr + s.vmsize) (m.address + m.size)) (nat_eq s.fileoff (m.file + (s.vmaddr - m.address))) two.1 in
    let above : m.address ≤ s.vmaddr = leb-true m.address s.vmaddr two.0 in
    let below : s.vmaddr + s.vmsize ≤ m.address + m.size = leb-true (s.vmaddr + s.vmsize) (m.address + m.size) three.0 in
    record { low = omega (arith, low, above); high = omega (arith, below, high) }

placed_in : (size : ℕ) (mappings : List Mapping) (s : Seg) → are_three size mappings ≡ true → is_placed mappings s ≡ true → InFile size s
unfolding is_placed
placed_in size mappings s mapped placed =
    let three : AreThree size mappings = three_are size mappings mapped in
    let parts = and_parts (list_any (is_within s) mappings) (nat_eq s.filesize s.vmsize) placed in
    let a : ℕ = three.text in
    let b : ℕ = three.writable in
    let c : ℕ = three.linkedit in
    let one : Mapping = record { address = region_start; size = a; file = 0; max_prot = 5; init_prot = 5 } in
    let two : Mapping = record { address = region_start + a; size = b; file = a; max_prot = 3; init_prot = 3 } in
    let last : Mapping = record { address = region_start + (a + b); size = c; file = a + b; max_prot = 1; init_prot = 1 } in
    let there : list_any (is_within s) (three_mappings three.text three.writable three.linkedit) ≡ true = subst (λ (ms : List Mapping). list_any (is_within s) ms ≡ true) three.are parts.0 in
    elim (or_cases (is_within s one) (is_within s two || (is_within s last || false)) there) [
      | inl first ↦ within_is s one size first (omega arith) (omega (arith, three.long))
      | inr later ↦ elim (or_cases (is_within s two) (is_within s last || false) later) [
        | inl second ↦ within_is s two size second (omega arith) (omega (arith, three.long))
        | inr end ↦ elim (or_cases (is_within s last) false end) [
          | inl third ↦ within_is s last size third (omega arith) (omega (arith, three.long))
          | inr none ↦ absurd (false≢true none)
        ]
      ]
    ]

-- ---- the first segment that isn't

taken_is : (size : ℕ) (mappings : List Mapping) (marks : List Bool) (earlier : List Seg) (s : Seg) → are_three size mappings ≡ true → size ≤ 4096 * length marks → AreMarked marks earlier → AreAligned earlier → s.vmaddr % 4096 ≡ 0
    → is_taken mappings marks s ≡ is_misplaced mappings earlier s
unfolding is_taken is_misplaced
taken_is size mappings marks earlier s mapped room are aligned own =
    ap (λ (b : Bool). not (is_linkedit_segment s) && b) (elim (cases_Bool (is_placed mappings s)) [
      | inl placed ↦
          let file : InFile size s = placed_in size mappings s mapped placed in
          ap (λ (b : Bool). not (is_placed mappings s) || b) (marks_tell marks earlier s are aligned own file.low (omega (arith, file.high, room)))
      | inr other ↦ ap (λ (b : Bool). not b || is_marked marks s) other ∙ sym (ap (λ (b : Bool). not b || list_any (shares s) earlier) other)
    ])

same_position : (p q : Seg → Bool) (ss : List Seg) → AllByRecursion (λ (s : Seg). p s ≡ q s) ss → position p ss ≡ position q ss
same_position p q [] same = refl
same_position p q (s ∷ ss) same =
    position-cons p s ss
    ∙ (ap₂ (λ (b : Bool) (o : Option ℕ). if b then Some 0 else option_map (λ (k : ℕ). k + 1) o) same.0 (same_position p q ss same.1) ∙ sym (position-cons q s ss))

all_taken : (size : ℕ) (mappings : List Mapping) (marks : List Bool) (earlier ss : List Seg) → are_three size mappings ≡ true → size ≤ 4096 * length marks → AreMarked marks earlier → AreAligned earlier → AreAligned ss
    → AllByRecursion (λ (s : Seg). is_taken mappings marks s ≡ is_misplaced mappings earlier s) ss
all_taken size mappings marks earlier [] mapped room are aligned own = tt
all_taken size mappings marks earlier (s ∷ ss) mapped room are aligned own =
    (taken_is size mappings marks earlier s mapped room are aligned own.0, all_taken size mappings marks earlier ss mapped room are aligned own.1)

pub first_taken_is : (size : ℕ) (mappings : List Mapping) (marks : List Bool) (images : List Img) (k : ℕ) (i : Img) (o : Option ℕ) → are_three size mappings ≡ true → size ≤ 4096 * length marks → AreMarked marks (segments_of (take k images))
    → AreAligned (segments_of (take k images)) → AreAligned i.segments → o ≡ position (is_taken mappings marks) i.segments → segment_finding mappings images k i ≡ option_map (λ (g : ℕ). finding SegmentOutside k g) o
unfolding segment_finding
first_taken_is size mappings marks images k i o mapped room are aligned own is =
    ap (λ (p : Option ℕ). option_map (λ (g : ℕ). finding SegmentOutside k g) p)
    (sym (is ∙ same_position (is_taken mappings marks) (is_misplaced mappings (segments_of (take k images))) i.segments (all_taken size mappings marks (segments_of (take k images)) i.segments mapped room are aligned own)))

-- ---- the segments of the images so far

pub segments_more : (images : List Img) (n : ℕ) (i : Img) → n < length images → i ≡ get_or images n i → segments_of (take (n + 1) images) ≡ segments_of (take n images) ++ i.segments
segments_more images n i lt at =
    ap (λ (is : List Img). segments_of is) (take_more images n i lt ∙ ap (λ (j : Img). take n images ++ j ∷ []) (sym at))
    ∙ (flat_map-append (λ (j : Img). j.segments) (take n images) (i ∷ []) ∙ ap (λ (l : List Seg). segments_of (take n images) ++ l) (append-nil i.segments))

pub aligned_append : (xs ys : List Seg) → AreAligned xs → AreAligned ys → AreAligned (xs ++ ys)
aligned_append [] ys own rest = rest
aligned_append (x ∷ xs) ys own rest = (own.0, aligned_append xs ys own.1 rest)

pub whole_pages : (size : ℕ) (mappings : List Mapping) → are_three size mappings ≡ true → size ≤ 4096 * (size / 4096)
whole_pages size mappings mapped =
    let three : AreThree size mappings = three_are size mappings mapped in
    let whole : (three.text + (three.writable + three.linkedit)) % 4096 ≡ 0 = omega (arith, three.text_pages, three.pages, three.linkedit_pages) in
    let same : size % 4096 ≡ 0 = subst (λ (n : ℕ). n % 4096 ≡ 0) three.long whole in
    omega (arith, same)

-- ---- each segment of an image begins a page

aligned_segment : (s : Seg) (l : SegmentLoad) → unread s ≡ segment_with [] l → is_well_shaped l ≡ true → s.vmaddr % 4096 ≡ 0
aligned_segment s l here shaped =
    let a : s.vmaddr ≡ l.vmaddr = ap (λ (x : Seg). x.vmaddr) here in
    let whole : l.vmaddr % 4096 ≡ 0 = grind (arith, nat_tests) in
    ap (λ (n : ℕ). n % 4096) a ∙ whole

first_none : (l : SegmentLoad) (ls : List SegmentLoad) → first_segment (λ s. not (is_well_shaped s)) (l ∷ ls) ≡ None → (is_well_shaped l ≡ true) × (first_segment (λ s. not (is_well_shaped s)) ls ≡ None)
first_none l ls none =
    elim (cases_Bool (is_well_shaped l)) [
      | inl shaped ↦ (shaped, sym (turned true shaped) ∙ none)
      | inr misshapen ↦ absurd (some_none l.at (sym (turned false misshapen) ∙ none))
    ]
  where
    turned : (b : Bool) → is_well_shaped l ≡ b → first_segment (λ s. not (is_well_shaped s)) (l ∷ ls) ≡ (if not b then Some l.at else first_segment (λ s. not (is_well_shaped s)) ls)
    turned b e = ap (λ (c : Bool). option_map (λ (t : SegmentLoad). t.at) (if not c then Some l else find (λ t. not (is_well_shaped t)) ls)) e ∙ shown b
      where
        shown : (b : Bool) → option_map (λ (t : SegmentLoad). t.at) (if not b then Some l else find (λ t. not (is_well_shaped t)) ls) ≡ (if not b then Some l.at else first_segment (λ s. not (is_well_shaped s)) ls)
        shown true = refl
        shown false = refl

    some_none : (k : ℕ) → ◌≡◌ {A = Option ℕ} (Some k) None → ⊥
    some_none k e = cc

all_aligned : (ss : List Seg) (ls : List SegmentLoad) → map unread ss ≡ map (segment_with []) ls → first_segment (λ s. not (is_well_shaped s)) ls ≡ None → AreAligned ss
all_aligned [] ls same none = tt
all_aligned (s ∷ ss) [] same none = absurd (cc)
all_aligned (s ∷ ss) (l ∷ ls) same none =
    let here : unread s ≡ segment_with [] l = cc in
    let later : map unread ss ≡ map (segment_with []) ls = cc in
    let parts = first_none l ls none in
    (aligned_segment s l here parts.0, all_aligned ss ls later parts.1)

pub segments_aligned : (image : Img) → IsSound image → AreAligned image.segments
segments_aligned image sound =
    let ls = segment_loads (loads_of image.header) in
    all_aligned image.segments ls sound.segments (shaped (nat_lt (length ls) 2) 0 (first_segment (λ s. not (is_well_shaped s)) ls) (least (first_crossing [] ls) (misplaced (header_size image.header) ls)) (segment_shape image sound))
  where
    left_none : (a b : Option ℕ) → least a b ≡ None → a ≡ None
    left_none None b none = refl
    left_none (Some n) None none = absurd (cc)
    left_none (Some n) (Some m) none = absurd (cc)

    shaped : (few : Bool) (k : ℕ) (a b : Option ℕ) → (if few then Some k else least a b) ≡ None → a ≡ None
    shaped true k a b none = absurd (cc)
    shaped false k a b none = left_none a b none

pub aligned_at : (ss : List Seg) (n : ℕ) (s : Seg) → AreAligned ss → n < length ss → s ≡ get_or ss n s → s.vmaddr % 4096 ≡ 0
aligned_at [] n s aligned lt is = absurd (omega arith)
aligned_at (t ∷ ss) zero s aligned lt is = ap (λ (x : Seg). x.vmaddr % 4096) is ∙ aligned.0
aligned_at (t ∷ ss) (suc n) s aligned lt is = aligned_at ss n s aligned.1 (omega (arith, lt)) is
