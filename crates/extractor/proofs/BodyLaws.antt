-- The segments of an image in a file of its own: where they stand, and that the header is in the first one.
use Rattle.std.proofs.Common.{◌≡◌, ◌≤◌, ◌<◌, ℕ, zero, suc, ◌+◌, ◌-◌, ◌%◌, Bool, true, false, not, ◌&&◌, nat_eq, nat_le, nat_lt, Option, Some, None, List, [], ◌∷◌, ◌++◌, map, filter, length, get_or, replicate, refl, sym, ap, ◌∙◌, subst, arith, inl, inr, if◌then◌else◌, length-append}
use Rattle.std.specs.Prelude.{codes}
use Rattle.std.specs.List.{All, AllByRecursion, flat_map}
use Rattle.std.specs.Cmp.Lexicographic.{same_text}
use Rattle.std.proofs.lemmas.Bool.{cases_lt, leb-true, and_parts, false≢true}
use Rattle.std.proofs.lemmas.List.{length-replicate}
use Rattle.std.proofs.lemmas.List.Elements.{recursion_from_All}
use Rattle.dsc_base.specs.Limits.{span_limit}
use Rattle.dsc_base.specs.Region.{region_start, paged}
use Rattle.dsc_base.specs.Refusals.{least}
use Rattle.macho_image.specs.Records.{Seg, Img, SegmentLoad}
use Rattle.macho_image.specs.declared.place.Moved.{Moved}
use Rattle.macho_image.specs.Macho.{header_size, loads_of, segment_loads, segment_with}
use Rattle.macho_image.specs.Rules.{is_linkedit_segment, is_linkedit_name, is_text, is_linkedit, is_good_text, is_well_shaped, first_segment, first_crossing, misplaced_behind, misplaced}
use Rattle.macho_image.specs.Breaks.{IsSound, unread}
use Rattle.macho_image.proofs.SoundSegments.{segment_shape, segments_keep_apart, segments_low}
use Rattle.macho_image.proofs.Unbroken.{least_none_both}
use Rattle.macho_edit.specs.Conditions.{EndLow}
use Rattle.prebind.specs.Bodies.{body_of}
use Rattle.prebind.proofs.LinkeditLaws.{ends_in_linkedit}
use Rattle.cache_check.proofs.PlacedLaws.{segments_aligned}
use Rattle.extractor.specs.ExtractOf.{moves_from, bodies_of, whole_pages, page_bytes, body_bytes}
use Rattle.extractor.specs.Files.{IsPlaced, all_pages}
use Rattle.extractor.proofs.RoomLaws.{IsIn, pages_fit, apart_left, aligned_left}

-- ---- whole pages

pub paged_whole : (n : ℕ) → paged n % 4096 ≡ 0
unfolding paged
paged_whole n = omega arith

pub paged_behind : (at n : ℕ) → at % 4096 ≡ 0 → paged (at + n) ≡ at + paged n
unfolding paged
paged_behind at n whole = omega (arith, whole)

pub paged_covers : (n : ℕ) → n ≤ paged n
unfolding paged
paged_covers n = omega arith

pub length-whole_pages : (bytes : List ℕ) → length (whole_pages bytes) ≡ paged (length bytes)
length-whole_pages bytes =
    let zeros = paged (length bytes) - length bytes in
    omega (arith, length-append bytes (replicate zeros 0), length-replicate {A = ℕ} zeros 0, paged_covers (length bytes))

pub length-pages : (ss : List Seg) → length (flat_map page_bytes ss) % 4096 ≡ 0
length-pages [] = refl
length-pages (s ∷ ss) =
    let long = length-append (page_bytes s) (flat_map page_bytes ss) in
    omega (arith, long, length-whole_pages s.bytes, paged_whole (length s.bytes), length-pages ss)

pub pages_long : (ss : List Seg) → AllByRecursion (λ (s : Seg). length s.bytes ≡ s.vmsize) ss → length (flat_map page_bytes ss) ≡ all_pages ss
unfolding all_pages
pages_long [] filled = refl
pages_long (s ∷ ss) filled =
    let one : paged (length s.bytes) ≡ paged s.vmsize = ap (λ (n : ℕ). paged n) filled.0 in
    omega (arith, length-append (page_bytes s) (flat_map page_bytes ss), length-whole_pages s.bytes, one, pages_long ss filled.1)

-- ---- room for them

low_in : (ss : List Seg) → AllByRecursion (λ (s : Seg). s.vmaddr + s.vmsize ≤ 0x8000_0000_0000) ss → AllByRecursion (IsIn 0 0x8_0000_0000) ss
low_in [] low = tt
low_in (s ∷ ss) low = (record { low = omega arith; high = omega (arith, low.0) }, low_in ss low.1)

-- the pages of all segments of an image
pub pages_low : (i : Img) → IsSound i → all_pages i.segments ≤ 0x8000_0000_0000
pages_low i sound =
    let fits = pages_fit 0 0x8_0000_0000 i.segments refl (segments_keep_apart i sound) (segments_aligned i sound) (low_in i.segments (segments_low i sound)) in
    omega (arith, fits)

placed_in : (ss : List Seg) → AllByRecursion IsPlaced ss → AllByRecursion (IsIn region_start 0x20000) ss
placed_in [] placed = tt
placed_in (s ∷ ss) placed = (record { low = placed.0.low; high = omega (arith, placed.0.high) }, placed_in ss placed.1)

-- and of those other than `__LINKEDIT`, which lie in the shared region
pub bodies_fit : (i : Img) → IsSound i → All IsPlaced (bodies_of i) → all_pages (bodies_of i) ≤ span_limit
bodies_fit i sound placed =
    let body = λ (s : Seg). not (is_linkedit_segment s) in
    let fits = pages_fit region_start 0x20000 (bodies_of i) refl (apart_left body i.segments (segments_keep_apart i sound)) (aligned_left body i.segments (segments_aligned i sound)) (placed_in (bodies_of i) (recursion_from_All IsPlaced (bodies_of i) placed)) in
    omega (arith, fits)

-- ---- their bytes

filled_left : (p : Seg → Bool) (ss : List Seg) → map (λ s. length s.bytes) ss ≡ map (λ s. s.filesize) ss → AllByRecursion IsPlaced (filter p ss) → AllByRecursion (λ (s : Seg). length s.bytes ≡ s.vmsize) (filter p ss)
filled_left p [] sizes placed = tt
filled_left p (s ∷ ss) sizes placed =
    let here : length s.bytes ≡ s.filesize = cc in
    let later : map (λ t. length t.bytes) ss ≡ map (λ t. t.filesize) ss = cc in
    by (p s) here (filled_left p ss later) placed
  where
    by : (b : Bool) → length s.bytes ≡ s.filesize → (AllByRecursion IsPlaced (filter p ss) → AllByRecursion (λ (t : Seg). length t.bytes ≡ t.vmsize) (filter p ss)) → AllByRecursion IsPlaced (if b then s ∷ filter p ss else filter p ss)
        → AllByRecursion (λ (t : Seg). length t.bytes ≡ t.vmsize) (if b then s ∷ filter p ss else filter p ss)
    by true here rest placed = (here ∙ placed.0.filled, rest placed.1)
    by false here rest placed = rest placed

pub bodies_filled : (i : Img) → IsSound i → All IsPlaced (bodies_of i) → AllByRecursion (λ (s : Seg). length s.bytes ≡ s.vmsize) (bodies_of i)
bodies_filled i sound placed = filled_left (λ (s : Seg). not (is_linkedit_segment s)) i.segments sound.sizes (recursion_from_All IsPlaced (bodies_of i) placed)

pub bodies_long : (i : Img) → IsSound i → All IsPlaced (bodies_of i) → length (body_bytes i) ≡ all_pages (bodies_of i)
unfolding body_bytes
bodies_long i sound placed = pages_long (bodies_of i) (bodies_filled i sound placed)

-- ---- where they go

pub length-moves : (at : ℕ) (ss : List Seg) → length (moves_from at ss) ≡ length ss
unfolding moves_from
length-moves at [] = refl
length-moves at (s ∷ ss) = ap suc (length-moves (paged (at + s.vmsize)) ss)

pub ends_at : (at k : ℕ) (bodies : List Seg) (l : Seg) (m : Moved) (s : Seg) → at % 4096 ≡ 0 → k < length bodies → (get_or (moves_from at (bodies ++ l ∷ [])) k m).file + (get_or (bodies ++ l ∷ []) k s).vmsize ≤ at + all_pages bodies
unfolding moves_from all_pages
ends_at at k [] l m s whole lt = absurd (omega arith)
ends_at at zero (b ∷ bs) l m s whole lt = omega (arith, paged_covers b.vmsize)
ends_at at (suc k) (b ∷ bs) l m s whole lt =
    let next = paged_behind at b.vmsize whole in
    omega (arith, next, ends_at (paged (at + b.vmsize)) k bs l m s (paged_whole (at + b.vmsize)) (omega (arith, lt)))

last_is : (k : ℕ) (bodies : List Seg) (l s : Seg) → k < length (bodies ++ l ∷ []) → length bodies ≤ k → get_or (bodies ++ l ∷ []) k s ≡ l
last_is zero [] l s lt le = refl
last_is (suc k) [] l s lt le = absurd (omega (arith, lt))
last_is zero (b ∷ bs) l s lt le = absurd (omega (arith, le))
last_is (suc k) (b ∷ bs) l s lt le = last_is k bs l s (omega (arith, lt)) (omega (arith, le))

low_ends : (bodies : List Seg) (l : Seg) → is_linkedit_segment l ≡ true → all_pages bodies ≤ span_limit → EndLow (bodies ++ l ∷ []) (moves_from 0 (bodies ++ l ∷ []))
low_ends bodies l named fits k m s lt other = elim (cases_lt k (length bodies)) [
  | inl before ↦ let ends = ends_at 0 k bodies l m s refl before in omega (arith, ends, fits)
  | inr behind ↦
      let within : k < length (bodies ++ l ∷ []) = let long = length-moves 0 (bodies ++ l ∷ []) in omega (arith, lt, long) in
      let last = last_is k bodies l s within behind in
      absurd (false≢true (sym other ∙ (ap (λ (t : Seg). is_linkedit_segment t) last ∙ named)))
]

pub end_low : (i : Img) → IsSound i → All IsPlaced (bodies_of i) → EndLow i.segments (moves_from 0 i.segments)
end_low i sound placed =
    let ends = ends_in_linkedit i sound in
    subst (λ (ss : List Seg). EndLow ss (moves_from 0 ss)) (sym ends.split) (low_ends (body_of i.segments) ends.linkedit ends.named (bodies_fit i sound placed))

-- ---- the header

wanted : (b : Bool) (at : ℕ) (o : Option ℕ) → (if b then o else Some at) ≡ None → b ≡ true
wanted true at o e = refl
wanted false at o e = absurd (cc)

unless_few : (b : Bool) (at : ℕ) (o : Option ℕ) → (if b then Some at else o) ≡ None → o ≡ None
unless_few true at o e = absurd (cc)
unless_few false at o e = e

good_text : (size : ℕ) (l : SegmentLoad) → is_good_text size l ≡ true → (is_linkedit l ≡ false) × (size ≤ l.filesize)
good_text size l good =
    let parts = and_parts (is_text l) (nat_eq l.initprot 5 && nat_le size l.filesize) good in
    let inner = and_parts (nat_eq l.initprot 5) (nat_le size l.filesize) parts.1 in (
      ap is_linkedit_name (same_text l.name (codes "__TEXT" ++ (0 ∷ 0 ∷ 0 ∷ 0 ∷ 0 ∷ 0 ∷ 0 ∷ 0 ∷ 0 ∷ 0 ∷ [])) (sym parts.0)),
      leb-true size l.filesize inner.1,
    )

first_long : (s : Seg) (ss : List Seg) (b : Bool) → is_linkedit_segment s ≡ b → b ≡ false → length s.bytes ≤ length (flat_map page_bytes (if not b then s ∷ filter (λ (t : Seg). not (is_linkedit_segment t)) ss else filter (λ (t : Seg). not (is_linkedit_segment t)) ss))
first_long s ss true is other = absurd (false≢true (sym other))
first_long s ss false is other =
    let rest = filter (λ (t : Seg). not (is_linkedit_segment t)) ss in
    omega (arith, length-append (page_bytes s) (flat_map page_bytes rest), length-whole_pages s.bytes, paged_covers (length s.bytes))

text_long : (size : ℕ) (ss : List Seg) (ls : List SegmentLoad) → map unread ss ≡ map (segment_with []) ls → map (λ s. length s.bytes) ss ≡ map (λ s. s.filesize) ss → 1 ≤ length ss → misplaced size ls ≡ None
    → size ≤ length (flat_map page_bytes (filter (λ (s : Seg). not (is_linkedit_segment s)) ss))
text_long size [] ls same sizes some none = absurd (omega (arith, some))
text_long size (s ∷ ss) [] same sizes some none = absurd (cc)
text_long size (s ∷ ss) (l ∷ ls) same sizes some none =
    let first : unread s ≡ segment_with [] l = cc in
    let long : length s.bytes ≡ s.filesize = cc in
    let text = good_text size l (wanted (is_good_text size l) l.at (misplaced_behind ls) none) in
    let other : is_linkedit_segment s ≡ false = ap (λ (t : Seg). is_linkedit_segment t) first ∙ text.0 in
    let file : s.filesize ≡ l.filesize = ap (λ (t : Seg). t.filesize) first in
    let fits = first_long s ss (is_linkedit_segment s) refl other in
    omega (arith, fits, long, file, text.1)

pub header_fits : (i : Img) → IsSound i → length i.header ≤ length (body_bytes i)
unfolding body_bytes
header_fits i sound =
    let size : ℕ = header_size i.header in
    let ls : List SegmentLoad = segment_loads (loads_of i.header) in
    let ends = ends_in_linkedit i sound in
    let some : 1 ≤ length i.segments = let e = ap (λ (ss : List Seg). length ss) ends.split in omega (arith, e, length-append (body_of i.segments) (ends.linkedit ∷ [])) in
    let one = unless_few (nat_lt (length ls) 2) 0 (least (first_segment (λ l. not (is_well_shaped l)) ls) (least (first_crossing [] ls) (misplaced size ls))) (segment_shape i sound) in
    let two = least_none_both (first_segment (λ l. not (is_well_shaped l)) ls) (least (first_crossing [] ls) (misplaced size ls)) one in
    let three = least_none_both (first_crossing [] ls) (misplaced size ls) two.1 in
    let fits = text_long size i.segments ls sound.segments sound.sizes some three.1 in
    omega (arith, fits, sound.whole)
