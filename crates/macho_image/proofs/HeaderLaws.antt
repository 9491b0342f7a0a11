-- The header of an image: it stands at the start of the first segment, which is named `__TEXT`.
use Rattle.std.proofs.Common.{◌≡◌, ℕ, Bool, true, false, not, List, [], ◌∷◌, map, refl, sym, ap, ◌∙◌, arith, nat_eq, nat_lt, if◌then◌else◌, length, Some, None}
use Rattle.std.specs.Prelude.{find, slice_get}
use Rattle.std.specs.List.{position}
use Rattle.std.proofs.lemmas.Bool.{and_parts, cond-true, eqb-true}
use Rattle.std.proofs.lemmas.Grind.{common_steps}
use Rattle.macho_image.specs.Records.{Img, Seg, SegmentLoad}
use Rattle.macho_image.specs.Macho.{header_size, loads_of, segment_loads, segment_with}
use Rattle.macho_image.specs.Rules.{first_segment, is_text, is_text_name, is_good_text, is_well_shaped, first_crossing, misplaced, misplaced_behind, starts_elsewhere}
use Rattle.macho_image.specs.Segments.{is_text_segment, start_of, header_address}
use Rattle.macho_image.specs.Breaks.{form_of, unread, IsSound}
use Rattle.macho_image.specs.declared.form.Form.TheVariants.{Standalone}
use Rattle.dsc_base.specs.Refusals.{least}
use Rattle.macho_image.proofs.Unbroken.{when_true}
use Rattle.macho_image.proofs.HeaderRules.{shape_parts}
use Rattle.macho_image.proofs.SoundSegments.{segment_shape}

-- the segment in front, with those behind it, where none is in a wrong place
first_text : (size : ℕ) (s : Seg) (l : SegmentLoad) (ls : List SegmentLoad) → unread s ≡ segment_with [] l → misplaced size (l ∷ ls) ≡ None → is_text_segment s ≡ true
unfolding is_text_segment
first_text size s l ls here none =
    let good = when_true (is_good_text size l) l.at (misplaced_behind ls) none in
    ap (λ (t : Seg). is_text_name t.name) here ∙ (and_parts (is_text l) _ good.0).0

first_of_all : (size : ℕ) (ss : List Seg) (ls : List SegmentLoad) (s : Seg) → map unread ss ≡ map (segment_with []) ls → misplaced size ls ≡ None → slice_get ss 0 ≡ Some s → is_text_segment s ≡ true
first_of_all size [] ls s same none there = absurd (cc)
first_of_all size (t ∷ ts) [] s same none there = absurd (cc)
first_of_all size (t ∷ ts) (l ∷ ls) s same none there =
    let here : unread t ≡ segment_with [] l = cc in
    let e : t ≡ s = cc in
    ap is_text_segment (sym e) ∙ first_text size t l ls here none

-- of an image the first segment is the one named `__TEXT`
pub first_is_text : (image : Img) → IsSound image → (s : Seg) → slice_get image.segments 0 ≡ Some s → is_text_segment s ≡ true
first_is_text image sound s there =
    let ls = segment_loads (loads_of image.header) in
    let size = header_size image.header in
    first_of_all size image.segments ls s sound.segments
    (shape_parts size ls (segment_shape image sound)).3 there

-- there is a first one
pub some_segment : (image : Img) → IsSound image → (s : Seg) × (slice_get image.segments 0 ≡ Some s)
some_segment image sound =
    let ls = segment_loads (loads_of image.header) in
    go image.segments ls sound.segments (segment_shape image sound)
  where
    go : (ss : List Seg) (ls : List SegmentLoad) → map unread ss ≡ map (segment_with []) ls
        → (if nat_lt (length ls) 2 then Some 0 else least (first_segment (λ t. not (is_well_shaped t)) ls) (least (first_crossing [] ls) (misplaced (header_size image.header) ls))) ≡ None
        → (s : Seg) × (slice_get ss 0 ≡ Some s)
    go [] [] same none = absurd (cc)
    go [] (l ∷ ls) same none = absurd (cc)
    go (s ∷ ss) ls same none = (s, refl)

in_front : (p : Seg → Bool) (t : Seg) (ts : List Seg) → p t ≡ true → position p (t ∷ ts) ≡ Some 0
in_front p t ts here = grind (arith, common_steps)

pub text_position : (image : Img) → IsSound image → position is_text_segment image.segments ≡ Some 0
text_position image sound =
    let first = some_segment image sound in
    go image.segments first.0 first.1 (first_is_text image sound first.0 first.1)
  where
    go : (ss : List Seg) (s : Seg) → slice_get ss 0 ≡ Some s → is_text_segment s ≡ true → position is_text_segment ss ≡ Some 0
    go [] s there named = absurd (cc)
    go (t ∷ ts) s there named =
        let e : t ≡ s = cc in
        let here : is_text_segment t ≡ true = ap is_text_segment e ∙ named in
        in_front is_text_segment t ts here

pub header_first : (image : Img) → IsSound image → header_address image.segments ≡ start_of (slice_get image.segments 0)
unfolding header_address
header_first image sound =
    let first = some_segment image sound in
    go image.segments first.0 first.1 (first_is_text image sound first.0 first.1)
  where
    go : (ss : List Seg) (s : Seg) → slice_get ss 0 ≡ Some s → is_text_segment s ≡ true → start_of (find is_text_segment ss) ≡ start_of (slice_get ss 0)
    go [] s there named = absurd (cc)
    go (t ∷ ts) s there named =
        let e : t ≡ s = cc in
        let here : is_text_segment t ≡ true = ap is_text_segment e ∙ named in
        ap start_of (cond-true (is_text_segment t) (Some t) (find is_text_segment ts) here)

-- a file of its own begins with its first segment
pub first_offset : (image : Img) → IsSound image → form_of image.header ≡ Standalone → (s : Seg) → slice_get image.segments 0 ≡ Some s → s.fileoff ≡ 0
first_offset image sound own s there = go image.segments (segment_loads (loads_of image.header)) sound.segments (sound.begins own) there
  where
    go : (ss : List Seg) (ls : List SegmentLoad) → map unread ss ≡ map (segment_with []) ls → starts_elsewhere 0 ls ≡ None → slice_get ss 0 ≡ Some s → s.fileoff ≡ 0
    go [] ls same none there = absurd (cc)
    go (t ∷ ts) [] same none there = absurd (cc)
    go (t ∷ ts) (l ∷ ls) same none there =
        let here : unread t ≡ segment_with [] l = cc in
        let e : t ≡ s = cc in
        ap (λ (u : Seg). u.fileoff) (sym e) ∙ (ap (λ (u : Seg). u.fileoff) here ∙ at_front (nat_eq l.fileoff 0) refl none)
      where
        at_front : (b : Bool) → nat_eq l.fileoff 0 ≡ b → (if b then None else Some l.at) ≡ None → l.fileoff ≡ 0
        at_front true is none = eqb-true l.fileoff 0 is
        at_front false is none = absurd (cc)
