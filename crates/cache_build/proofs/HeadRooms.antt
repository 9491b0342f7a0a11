-- The head of a set of images ends before its segments begin, whatever stands behind them.
use Rattle.std.proofs.Common.{◌≡◌, ◌≤◌, ◌<◌, ℕ, zero, suc, ◌+◌, ◌-◌, ◌^◌, Option, None, List, [], ◌∷◌, length, map, get_or, All, refl, sym, ap, ◌∙◌, subst, arith, inl, inr}
use Rattle.std.specs.List.{sum_by, enumerate_from}
use Rattle.std.proofs.lemmas.Bool.{cases_lt, cases_Bool}
use Rattle.std.proofs.lemmas.List.{get_or_default, get_or_past}
use Rattle.std.proofs.lemmas.List.Sums.{sum_by-cons}
use Rattle.macho_image.specs.Records.{Seg, Img}
use Rattle.macho_image.specs.Rules.{is_linkedit_segment}
use Rattle.macho_image.specs.declared.place.Moved.{Moved}
use Rattle.cache_header.specs.Records.{Entry}
use Rattle.cache_header.specs.Spelling.{head_bytes, path_room, IsWritable}
use Rattle.cache_header.specs.Widths.{FitsMapping, FitsEntry, FitsHead}
use Rattle.cache_header.proofs.Back.{length-head}
use Rattle.cache_header.proofs.IdentifierLaws.{identifier_length}
use Rattle.cache_layout.specs.declared.mapping.Mapping.{Mapping}
use Rattle.cache_layout.specs.Places.{numbered, path_size, head_size, move_of}
use Rattle.cache_layout.specs.Layouts.{Laid, layout_of, layout_break}
use Rattle.cache_layout.specs.Apart.{IsSegment, AreInTurn, move_at}
use Rattle.cache_layout.proofs.NumberedLaws.{numbered-get, length-numbered}
use Rattle.cache_layout.proofs.PlaceLaws.{unmapped, move_at-is, place_of, length-moves-of, are_in_turn, are_within}
use Rattle.cache_layout.proofs.RoomLaws.{paged-covers}
use Rattle.load_model.specs.Mapped.{three_mappings}
use Rattle.cache_build.specs.declared.frame.Frame.{Frame}
use Rattle.cache_build.specs.Fits.{Fits}
use Rattle.cache_build.specs.Head.{entry_of, head_of}
use Rattle.cache_build.proofs.FitsLaws.{no_segment}
use Rattle.cache_build.proofs.HeadLaws.{no_image, writable_head}

-- images with a layout, of which a head can tell
pub record CanTell (is : List Img) : Type 0 where
  pub none : layout_break is ≡ None
  pub few : length is ≤ 4096
  pub fits : All Fits is
  pub identified : All (λ (i : Img). length i.uuid ≡ 16) is

-- where the frame behind their segments ends
pub record IsLowFrame (is : List Img) (frame : Frame) : Type 0 where
  pub slide_at : frame.slide_at ≤ 0x20000000
  pub slide_size : frame.slide_size ≤ 0x20000000
  pub within : (layout_of is).writable.at + (layout_of is).writable.len ≤ frame.span
  pub span : frame.span ≤ 0x20000000

-- ---- its numbers fit

three_fit : (a b c : ℕ) → a ≤ 0x20000000 → b ≤ 0x20000000 → c ≤ 0x20000000 → All FitsMapping (three_mappings a b c)
three_fit a b c small_a small_b small_c zero d lt = record { address = omega arith; size = omega (arith, small_a); file = omega arith; max_prot = omega arith; init_prot = omega arith }
three_fit a b c small_a small_b small_c (suc zero) d lt = record { address = omega (arith, small_a); size = omega (arith, small_b); file = omega (arith, small_a); max_prot = omega arith; init_prot = omega arith }
three_fit a b c small_a small_b small_c (suc (suc zero)) d lt = record { address = omega (arith, small_a, small_b); size = omega (arith, small_c); file = omega (arith, small_a, small_b); max_prot = omega arith; init_prot = omega arith }
three_fit a b c small_a small_b small_c (suc (suc (suc k))) d lt = absurd (omega arith)

abbrev nowhere : Moved
nowhere = record { address = 0; file = 0 }

segment_low : (is : List Img) (k g : ℕ) (i : Img) (s : Seg) → layout_break is ≡ None → IsSegment is k g i s → (move_at (layout_of is) k g).address < 2 ^ 64
segment_low is k g i s none there = elim (cases_Bool (is_linkedit_segment s)) [
  | inl linkedit ↦
      let own : move_at (layout_of is) k g ≡ nowhere = move_at-is is k g i s there ∙ ap (λ (o : Option Mapping). move_of o (place_of is k g i)) (unmapped s linkedit) in
      omega (arith, ap (λ (m : Moved). m.address) own)
  | inr owned ↦
      let own = are_within is none k g i s there owned in
      omega (arith, own.2.address, own.2.end, own.2.span)
]

-- the first segment of an image goes to an address, or to none
first_low : (is : List Img) (k : ℕ) (i : Img) → layout_break is ≡ None → k < length is → i ≡ get_or is k i → (move_at (layout_of is) k 0).address < 2 ^ 64
first_low is k i none lt at = elim (cases_lt 0 (length i.segments)) [
  | inl some ↦
      segment_low is k 0 i (get_or i.segments 0 no_segment) none
      (record { image_in = lt; image_is = at; segment_in = some; segment_is = get_or_default i.segments 0 no_segment (get_or i.segments 0 no_segment) some })
  | inr past ↦
      let empty : length (get_or (layout_of is).moves k []) ≤ 0 = omega (arith, length-moves-of is k i lt at, past) in
      let own : move_at (layout_of is) k 0 ≡ nowhere = get_or_past (get_or (layout_of is).moves k []) 0 nowhere empty in
      omega (arith, ap (λ (m : Moved). m.address) own)
]

entries_fit : (is : List Img) → CanTell is → All FitsEntry (numbered (entry_of (layout_of is)) is)
entries_fit is tell k d lt =
    let l : Laid = layout_of is in
    let within : k < length is = omega (arith, lt, length-numbered (entry_of l) is) in
    let i : Img = get_or is k no_image in
    let at : i ≡ get_or is k i = get_or_default is k no_image i within in
    subst FitsEntry (sym (numbered-get (entry_of l) is k i d within at))
    (record { address = first_low is k i tell.none within at; uuid = tell.identified k no_image within; text_size = (tell.fits k no_image within).text })

pub head_fits : (is : List Img) (frame : Frame) → CanTell is → IsLowFrame is frame → FitsHead (head_of (layout_of is) frame is)
unfolding head_of
head_fits is frame tell low =
    let l : Laid = layout_of is in
    record {
      mappings = three_fit l.writable.at l.writable.len (frame.span - (l.writable.at + l.writable.len)) (omega (arith, low.within, low.span)) (omega (arith, low.within, low.span)) (omega (arith, low.span));
      images = entries_fit is tell;
      slide_at = omega (arith, low.slide_at);
      slide_len = omega (arith, low.slide_size);
      uuid = identifier_length (map (λ (i : Img). i.uuid) is);
      max_slide = omega arith;
    }

pub head_writable : (is : List Img) (frame : Frame) → CanTell is → IsWritable (head_of (layout_of is) frame is)
unfolding head_of
head_writable is frame tell =
    let l : Laid = layout_of is in
    writable_head l is (head_of l frame is) l.writable.at l.writable.len (frame.span - (l.writable.at + l.writable.len)) tell.few tell.fits refl refl

-- ---- its length

sum_paths : (l : Laid) (n : ℕ) (is : List Img) → sum_by path_room (map (λ (p : ℕ × Img). entry_of l p.0 p.1) (enumerate_from n is)) ≡ sum_by path_size is
sum_paths l n [] = refl
sum_paths l n (i ∷ is) =
    sum_by-cons path_room (entry_of l n i) (map (λ (p : ℕ × Img). entry_of l p.0 p.1) (enumerate_from (n + 1) is))
    ∙ (ap (λ (m : ℕ). length i.install_name + 1 + m) (sum_paths l (n + 1) is) ∙ sym (sum_by-cons path_size i is))

pub entries_are : (l : Laid) (frame : Frame) (is : List Img) → (head_of l frame is).images ≡ numbered (entry_of l) is
unfolding head_of
entries_are l frame is = refl

-- it ends in the pages that the layout leaves for it
pub head_room : (is : List Img) (frame : Frame) → CanTell is → IsLowFrame is frame → length (head_bytes (head_of (layout_of is) frame is)) ≤ (layout_of is).text.at
head_room is frame tell low =
    let l : Laid = layout_of is in
    let turn : AreInTurn is (layout_of is) = are_in_turn is tell.none in
    let long : length (head_of l frame is).images ≡ length is = ap (λ (es : List Entry). length es) (entries_are l frame is) ∙ length-numbered (entry_of l) is in
    let paths : sum_by path_room (head_of l frame is).images ≡ sum_by path_size is = ap (λ (es : List Entry). sum_by path_room es) (entries_are l frame is) ∙ sum_paths l 0 is in
    omega (arith, length-head (head_of l frame is) (head_writable is frame tell) (head_fits is frame tell low), long, paths, turn.text, paged-covers (head_size is))
