-- What is copied into an image's part of a mapping is the pages of its segments there.
use Rattle.std.proofs.Common.{◌≡◌, ◌≤◌, ℕ, zero, suc, ◌+◌, ◌-◌, Bool, true, false, not, if◌then◌else◌, nat_le, Option, Some, None, List, [], ◌∷◌, ◌++◌, length, map, filter, take, drop, replicate, refl, sym, ap, ap₂, ◌∙◌, subst, arith, inl, inr, append_assoc, length-append, length-drop}
use Rattle.std.specs.Prelude.{slice_get, slice_index_or}
use Rattle.std.specs.List.{flat_map, enumerate_from}
use Rattle.std.proofs.lemmas.Bool.{cases_Bool, cond-true, cond-false, and_from, le-leb}
use Rattle.std.proofs.lemmas.List.{append-nil, take_at, drop_at, drop-drop, drop-append-le, take-append-drop, length-replicate, replicate-append-replicate}
use Rattle.std.proofs.lemmas.List.Sums.{sum_by_push, sum_by-cons}
use Rattle.dsc_base.specs.Region.{paged, padded}
use Rattle.dsc_base.specs.declared.fault.Span.{Span}
use Rattle.macho_image.specs.Records.{Seg, Img}
use Rattle.macho_image.specs.Rules.{is_linkedit_segment}
use Rattle.macho_image.specs.declared.place.Moved.{Moved}
use Rattle.macho_image.proofs.HeaderLaws.{text_position}
use Rattle.dsc_base.specs.Edits.{put_all}
use Rattle.prebind.specs.declared.resolved.PlacedWord.{PlacedWord}
use Rattle.prebind.specs.Sets.{StreamLists}
use Rattle.cache_layout.specs.declared.mapping.Mapping.{Mapping}
use Rattle.cache_layout.specs.declared.mapping.Mapping.TheVariants.{Text, Writable, Fixed}
use Rattle.cache_layout.specs.Places.{mapping_of, is_same, share, room_of, segments_room, images_room, mapping_start}
use Rattle.cache_layout.specs.Layouts.{Laid, layout_of}
use Rattle.cache_layout.specs.Apart.{IsSegment, move_at}
use Rattle.cache_layout.specs.Parts.{part_in, image_part}
use Rattle.cache_layout.proofs.PlaceLaws.{place_of, mapped, unmapped, move_at-own}
use Rattle.cache_layout.proofs.RoomLaws.{paged-covers, is_same-self}
use Rattle.cache_layout.proofs.SoundLaws.{sound_linkedit}
use Rattle.cache_layout.proofs.SpanLaws.{image_ends, place-starts, place-in_image}
use Rattle.ref_rewrite.specs.Plans.{Part, IsInside}
use Rattle.ref_rewrite.specs.Moving.{move_or_none, header_move, edit_of}
use Rattle.ref_rewrite.specs.Planned.{is_copied, copy_of, copies_of, words_with, span_in, plan_of, with_header}
use Rattle.ref_rewrite.specs.Rewritten.{lies_in, edits_in, parts_in, put_bytes, put_parts, rewritten}
use Rattle.ref_rewrite.specs.Pages.{bytes_with, pages_of, pages_at, segment_pages}
use Rattle.ref_rewrite.proofs.SpanLaws.{inside, put_parts_in-append, part_within, part_without}
use Rattle.ref_rewrite.proofs.FitLaws.{IsAt, segment_there}
use Rattle.ref_rewrite.proofs.HomeLaws.{bytes_fit, header_fits, two_segments}

-- ---- bytes that are put

put_none : (b : List ℕ) (at : ℕ) → put_bytes b at [] ≡ b
unfolding put_bytes
put_none b at = (let zero_more : at + 0 ≡ at = omega arith in ap (λ (n : ℕ). take at b ++ drop n b) zero_more) ∙ take-append-drop at b

empty_bytes : (bytes : List ℕ) → length bytes ≡ 0 → bytes ≡ []
empty_bytes [] none = refl
empty_bytes (b ∷ bs) none = absurd (omega (arith, none))

zeros_more : (n m : ℕ) → drop n (replicate {A = ℕ} (n + m) 0) ≡ replicate m 0
zeros_more n m =
    ap (drop n) (sym (replicate-append-replicate n m 0)) ∙ drop_at (replicate n 0) (replicate m 0) n (length-replicate {A = ℕ} n 0)

-- bytes put behind a front, where zeros are
put_front : (front bytes : List ℕ) (size rest : ℕ) → length bytes ≤ size → put_bytes (front ++ replicate (size + rest) 0) (length front) bytes ≡ (front ++ padded size bytes) ++ replicate rest 0
unfolding put_bytes
put_front front bytes size rest le =
    let zeros : List ℕ = replicate (size + rest) 0 in
    let n : ℕ = length bytes in
    let left : drop (length front + n) (front ++ zeros) ≡ replicate (size - n + rest) 0 =
    sym (drop-drop n (length front) (front ++ zeros))
    ∙ (ap (drop n) (drop_at front zeros (length front) refl)
    ∙ (ap (λ (k : ℕ). drop n (replicate k 0)) (let e : size + rest ≡ n + (size - n + rest) = omega (arith, le) in e) ∙ zeros_more n (size - n + rest))) in
    ap₂ (λ (a b : List ℕ). a ++ (bytes ++ b)) (take_at front zeros (length front) refl) (left ∙ sym (replicate-append-replicate (size - n) rest 0))
    ∙ (ap (λ (l : List ℕ). front ++ l) (sym (append_assoc bytes (replicate (size - n) 0) (replicate rest 0)))
    ∙ sym (append_assoc front (padded size bytes) (replicate rest 0)))

-- ---- one part

-- bytes that are in the ranges of two mappings
pub away : (is : List Img) (m n : Mapping) (x size : ℕ) → is_same m n ≡ false → mapping_start m is ≤ x → x + size ≤ mapping_start m is + images_room m is → mapping_start n is ≤ x → x + size ≤ mapping_start n is + images_room n is → size ≡ 0
away is Text Text x size apart a b c d = absurd (cc)
away is Writable Writable x size apart a b c d = absurd (cc)
away is Fixed Fixed x size apart a b c d = absurd (cc)
away is Text Writable x size apart a b c d = omega (arith, a, b, c, d)
away is Text Fixed x size apart a b c d = omega (arith, a, b, c, d)
away is Writable Text x size apart a b c d = omega (arith, a, b, c, d)
away is Writable Fixed x size apart a b c d = omega (arith, a, b, c, d)
away is Fixed Text x size apart a b c d = omega (arith, a, b, c, d)
away is Fixed Writable x size apart a b c d = omega (arith, a, b, c, d)

-- bytes at the place of a segment that belongs to another mapping: none of them are in this one's range
outside : (is : List Img) (k g : ℕ) (i : Img) (s : Seg) (m n : Mapping) (bytes b : List ℕ) → IsAt is k i → IsSegment is k g i s → mapping_of s ≡ Some n → is_same m n ≡ false → length bytes ≤ paged s.vmsize
    → put_parts (parts_in (span_in m is k i) (record { at = (move_at (layout_of is) k g).file; bytes = bytes } ∷ [])) b ≡ b
outside is k g i s m n bytes b at there own apart le = elim (cases_Bool (lies_in (span_in m is k i) (move_at (layout_of is) k g).file (length bytes))) [
  | inr out ↦ part_without (span_in m is k i) (record { at = (move_at (layout_of is) k g).file; bytes = bytes }) b out
  | inl lies ↦
      let span : Span = span_in m is k i in
      let within : IsInside span (move_at (layout_of is) k g).file (length bytes) = inside span (move_at (layout_of is) k g).file (length bytes) lies in
      let file : (move_at (layout_of is) k g).file ≡ place_of is k g i n = ap (λ (v : Moved). v.file) (move_at-own is k g i s n there own) in
      let low = place-starts n is k g i in
      let high = place-in_image is k g i s n there own in
      let mine = image_ends m is k i at.lt at.at in
      let other = image_ends n is k i at.lt at.at in
      let none : length bytes ≡ 0 = away is m n (move_at (layout_of is) k g).file (length bytes) apart (omega (arith, within.0)) (omega (arith, within.1, mine)) (omega (arith, file, low)) (omega (arith, file, high, other, le)) in
      part_within span (record { at = (move_at (layout_of is) k g).file; bytes = bytes }) b lies
      ∙ (ap (λ (xs : List ℕ). put_bytes b ((move_at (layout_of is) k g).file - span.at) xs) (empty_bytes bytes none) ∙ put_none b ((move_at (layout_of is) k g).file - span.at))
]

-- ---- all copies of an image, one after another

abbrev copied_from : Laid → ℕ → ℕ → List Seg → List Part
copied_from l k n ss = map (copy_of l k) (filter is_copied (enumerate_from n ss))

abbrev plain_pages : Seg → List ℕ
plain_pages s = padded (paged s.vmsize) s.bytes

abbrev plain_part : Mapping → ℕ → List Seg → List ℕ
plain_part m n ss = flat_map (λ (p : ℕ × Seg). part_in m (mapping_of p.1) (plain_pages p.1)) (enumerate_from n ss)

pub same_mapping : (m n : Mapping) → is_same m n ≡ true → n ≡ m
same_mapping Text Text is = refl
same_mapping Writable Writable is = refl
same_mapping Fixed Fixed is = refl
same_mapping Text Writable is = absurd (cc)
same_mapping Text Fixed is = absurd (cc)
same_mapping Writable Text is = absurd (cc)
same_mapping Writable Fixed is = absurd (cc)
same_mapping Fixed Text is = absurd (cc)
same_mapping Fixed Writable is = absurd (cc)

pub padded_long : (size : ℕ) (bytes : List ℕ) → length bytes ≤ size → length (padded size bytes) ≡ size
padded_long size bytes le = length-append bytes (replicate (size - length bytes) 0) ∙ omega (arith, le, length-replicate {A = ℕ} (size - length bytes) 0)

pub lies_yes : (s : Span) (at n : ℕ) → s.at ≤ at → at + n ≤ s.at + s.len → lies_in s at n ≡ true
lies_yes s at n low high = and_from (nat_le s.at at) (nat_le (at + n) (s.at + s.len)) (le-leb s.at at low) (le-leb (at + n) (s.at + s.len) high)

pub slice_there : (before rest : List Seg) (s : Seg) → slice_get (before ++ s ∷ rest) (length before) ≡ Some s
slice_there [] rest s = refl
slice_there (b ∷ before) rest s = slice_there before rest s

-- one segment's copy leaves its pages, if it belongs to the mapping
one_copied : (is : List Img) (k g : ℕ) (i : Img) (s : Seg) (m n : Mapping) (front : List ℕ) (rest : ℕ) → IsAt is k i → IsSegment is k g i s → mapping_of s ≡ Some n → length s.bytes ≤ paged s.vmsize → length front ≡ segments_room m (take g i.segments)
    → put_parts (parts_in (span_in m is k i) (copy_of (layout_of is) k (g, s) ∷ [])) (front ++ replicate (room_of m s + rest) 0) ≡ (front ++ part_in m (mapping_of s) (plain_pages s)) ++ replicate rest 0
one_copied is k g i s m n front rest at there own le long = elim (cases_Bool (is_same m n)) [
  | inl same ↦
      let mine : mapping_of s ≡ Some m = own ∙ ap (λ (x : Mapping). let o : Option Mapping = Some x in o) (same_mapping m n same) in
      let span : Span = span_in m is k i in
      let file : (move_at (layout_of is) k g).file ≡ place_of is k g i m = ap (λ (v : Moved). v.file) (move_at-own is k g i s m there mine) in
      let low = place-starts m is k g i in
      let high = place-in_image is k g i s m there mine in
      let lies : lies_in span (move_at (layout_of is) k g).file (length s.bytes) ≡ true = lies_yes span (move_at (layout_of is) k g).file (length s.bytes) (omega (arith, file, low)) (omega (arith, file, high, le)) in
      let place : (move_at (layout_of is) k g).file - span.at ≡ length front = omega (arith, file, long) in
      let room : room_of m s ≡ paged s.vmsize = ap (λ (o : Option Mapping). share m o (paged s.vmsize)) mine ∙ cond-true (is_same m m) (paged s.vmsize) 0 (is_same-self m) in
      let part : part_in m (mapping_of s) (plain_pages s) ≡ plain_pages s = ap (λ (o : Option Mapping). part_in m o (plain_pages s)) mine ∙ cond-true (is_same m m) (plain_pages s) [] (is_same-self m) in
      part_within span (copy_of (layout_of is) k (g, s)) (front ++ replicate (room_of m s + rest) 0) lies
      ∙ (ap₂ (λ (x y : ℕ). put_bytes (front ++ replicate (x + rest) 0) y s.bytes) room place
      ∙ (put_front front s.bytes (paged s.vmsize) rest le ∙ ap (λ (bytes : List ℕ). (front ++ bytes) ++ replicate rest 0) (sym part)))
  | inr other ↦
      let room : room_of m s ≡ 0 = ap (λ (o : Option Mapping). share m o (paged s.vmsize)) own ∙ cond-false (is_same m n) (paged s.vmsize) 0 other in
      let part : part_in m (mapping_of s) (plain_pages s) ≡ [] = ap (λ (o : Option Mapping). part_in m o (plain_pages s)) own ∙ cond-false (is_same m n) (plain_pages s) [] other in
      let none : room_of m s + rest ≡ rest = omega (arith, room) in
      outside is k g i s m n s.bytes (front ++ replicate (room_of m s + rest) 0) at there own other le
      ∙ (ap (λ (x : ℕ). front ++ replicate x 0) none
      ∙ ap (λ (bytes : List ℕ). bytes ++ replicate rest 0) (sym (ap (λ (bytes : List ℕ). front ++ bytes) part ∙ append-nil front)))
]

own_long : (m : Mapping) (o : Option Mapping) (size : ℕ) (bytes : List ℕ) → length bytes ≡ size → length (part_in m o bytes) ≡ share m o size
own_long m None size bytes is = refl
own_long m (Some n) size bytes is = by (is_same m n)
  where
    by : (b : Bool) → length (if b then bytes else []) ≡ (if b then size else 0)
    by true = is
    by false = refl

run : (is : List Img) (k : ℕ) (i : Img) (m : Mapping) → IsAt is k i → (before rest : List Seg) → i.segments ≡ before ++ rest → (front : List ℕ) → length front ≡ segments_room m before
    → put_parts (parts_in (span_in m is k i) (copied_from (layout_of is) k (length before) rest)) (front ++ replicate (segments_room m rest) 0) ≡ front ++ plain_part m (length before) rest
unfolding put_parts
run is k i m at before [] all front long = refl
run is k i m at before (s ∷ rest) all front long =
    let l : Laid = layout_of is in
    let g : ℕ = length before in
    let span : Span = span_in m is k i in
    let found : slice_get i.segments g ≡ Some s = ap (λ (ss : List Seg). slice_get ss g) all ∙ slice_there before rest s in
    let there : IsSegment is k g i s = segment_there is k g i s at.lt at.at found in
    let le : length s.bytes ≤ paged s.vmsize = omega (arith, bytes_fit i at.sound g s there.segment_in there.segment_is, paged-covers s.vmsize) in
    let taken : take g i.segments ≡ before = ap (take g) all ∙ take_at before (s ∷ rest) g refl in
    let count : length (before ++ s ∷ []) ≡ g + 1 = omega (arith, length-append before (s ∷ [])) in
    let room : segments_room m (before ++ s ∷ []) ≡ segments_room m before + room_of m s = sum_by_push (room_of m) before s in
    let cons : segments_room m (s ∷ rest) ≡ room_of m s + segments_room m rest = sum_by-cons (room_of m) s rest in
    let own : List ℕ = part_in m (mapping_of s) (plain_pages s) in
    let left : ℕ = segments_room m rest in
    let after : List ℕ = front ++ own in
    let grown : length own ≡ room_of m s = own_long m (mapping_of s) (paged s.vmsize) (plain_pages s) (padded_long (paged s.vmsize) s.bytes le) in
    let next : length after ≡ segments_room m (before ++ s ∷ []) = omega (arith, length-append front own, long, grown, room) in
    let later : put_parts (parts_in span (copied_from l k (g + 1) rest)) (after ++ replicate left 0) ≡ after ++ plain_part m (g + 1) rest =
    subst (λ (n : ℕ). put_parts (parts_in span (copied_from l k n rest)) (after ++ replicate left 0) ≡ after ++ plain_part m n rest) count (run is k i m at (before ++ s ∷ []) rest (all ∙ sym (append_assoc before (s ∷ []) rest)) after next) in
    let joined : after ++ plain_part m (g + 1) rest ≡ front ++ plain_part m g (s ∷ rest) = append_assoc front own (plain_part m (g + 1) rest) in
    elim (cases_Bool (is_linkedit_segment s)) [
      | inl linkedit ↦
          let none : mapping_of s ≡ None = unmapped s linkedit in
          let kept : List (ℕ × Seg) = filter is_copied (enumerate_from (g + 1) rest) in
          let skipped : copied_from l k g (s ∷ rest) ≡ copied_from l k (g + 1) rest = ap (λ (ps : List (ℕ × Seg)). map (copy_of l k) ps) (cond-false (not (is_linkedit_segment s)) ((g, s) ∷ kept) kept (ap not linkedit)) in
          let empty : own ≡ [] = ap (λ (o : Option Mapping). part_in m o (plain_pages s)) none in
          let zero_room : room_of m s ≡ 0 = ap (λ (o : Option Mapping). share m o (paged s.vmsize)) none in
          let same : segments_room m (s ∷ rest) ≡ left = omega (arith, cons, zero_room) in
          ap₂ (λ (cs : List Part) (n : ℕ). put_parts (parts_in span cs) (front ++ replicate n 0)) skipped same
          ∙ (ap (λ (bytes : List ℕ). put_parts (parts_in span (copied_from l k (g + 1) rest)) (bytes ++ replicate left 0)) (sym (ap (λ (bytes : List ℕ). front ++ bytes) empty ∙ append-nil front))
          ∙ (later ∙ joined))
      | inr other ↦
          let n = mapped s other in
          let kept : List (ℕ × Seg) = filter is_copied (enumerate_from (g + 1) rest) in
          let first : copied_from l k g (s ∷ rest) ≡ (copy_of l k (g, s) ∷ []) ++ copied_from l k (g + 1) rest =
          ap (λ (ps : List (ℕ × Seg)). map (copy_of l k) ps) (cond-true (not (is_linkedit_segment s)) ((g, s) ∷ kept) kept (ap not other)) in
          ap₂ (λ (cs : List Part) (x : ℕ). put_parts (parts_in span cs) (front ++ replicate x 0)) first cons
          ∙ (put_parts_in-append span (copy_of l k (g, s) ∷ []) (copied_from l k (g + 1) rest) (front ++ replicate (room_of m s + left) 0)
          ∙ (ap (put_parts (parts_in span (copied_from l k (g + 1) rest))) (one_copied is k g i s m n.0 front left at there n.1 le (long ∙ ap (segments_room m) (sym taken)))
          ∙ (later ∙ joined)))
    ]

-- ---- the header in front

-- the pages of the first segment with the header over their front
headed_pages : (header bytes tail : List ℕ) (size : ℕ) → length header ≤ length bytes → length bytes ≤ size → put_bytes (padded size bytes ++ tail) 0 header ≡ padded size (header ++ drop (length header) bytes) ++ tail
unfolding put_bytes
headed_pages header bytes tail size le fits =
    let n : ℕ = length header in
    let zeros : List ℕ = replicate (size - length bytes) 0 in
    let zero_more : 0 + n ≡ n = omega arith in
    let body : List ℕ = header ++ drop n bytes in
    let same : size - length bytes ≡ size - length body = omega (arith, le, length-append header (drop n bytes), length-drop n bytes) in
    ap (λ (k : ℕ). header ++ drop k (padded size bytes ++ tail)) zero_more
    ∙ (ap (λ (l : List ℕ). header ++ l) (drop-append-le n (padded size bytes) tail (omega (arith, le, length-append bytes zeros)) ∙ ap (λ (l : List ℕ). l ++ tail) (drop-append-le n bytes zeros le))
    ∙ (sym (append_assoc header (drop n bytes ++ zeros) tail)
    ∙ ap (λ (l : List ℕ). l ++ tail) (sym (append_assoc header (drop n bytes) zeros) ∙ ap (λ (k : ℕ). body ++ replicate k 0) same)))

behind_first : (header : List ℕ) (g : ℕ) (s : Seg) → 1 ≤ g → bytes_with header g s ≡ s.bytes
behind_first header zero s some = absurd (omega (arith, some))
behind_first header (suc g) s some = refl

tail_same : (header : List ℕ) (m : Mapping) (ss before rest : List Seg) → ss ≡ before ++ rest → 1 ≤ length before
    → flat_map (λ (p : ℕ × Seg). part_in m (mapping_of p.1) (segment_pages header ss p.0)) (enumerate_from (length before) rest) ≡ plain_part m (length before) rest
tail_same header m ss before [] all some = refl
tail_same header m ss before (s ∷ rest) all some =
    let g : ℕ = length before in
    let found : slice_get ss g ≡ Some s = ap (λ (xs : List Seg). slice_get xs g) all ∙ slice_there before rest s in
    let pages : segment_pages header ss g ≡ plain_pages s = ap (pages_at header g) found ∙ ap (padded (paged s.vmsize)) (behind_first header g s some) in
    let count : length (before ++ s ∷ []) ≡ g + 1 = omega (arith, length-append before (s ∷ [])) in
    let part : ℕ × Seg → List ℕ = λ p. part_in m (mapping_of p.1) (segment_pages header ss p.0) in
    let later : flat_map part (enumerate_from (g + 1) rest) ≡ plain_part m (g + 1) rest =
    subst (λ (n : ℕ). flat_map part (enumerate_from n rest) ≡ plain_part m n rest) count (tail_same header m ss (before ++ s ∷ []) rest (all ∙ sym (append_assoc before (s ∷ []) rest)) (omega (arith, count))) in
    ap₂ (λ (a b : List ℕ). a ++ b) (ap (part_in m (mapping_of s)) pages) later

header_put : (is : List Img) (k : ℕ) (i : Img) (m : Mapping) (header : List ℕ) → IsAt is k i → length header ≡ length i.header → (ss : List Seg) → i.segments ≡ ss → 2 ≤ length ss
    → put_parts (parts_in (span_in m is k i) (record { at = (move_at (layout_of is) k 0).file; bytes = header } ∷ [])) (plain_part m 0 ss) ≡ image_part m (segment_pages header ss) ss
header_put is k i m header at long [] all some = absurd (omega (arith, some))
header_put is k i m header at long (s ∷ rest) all some =
    let ss : List Seg = s ∷ rest in
    let span : Span = span_in m is k i in
    let found : slice_get i.segments 0 ≡ Some s = ap (λ (xs : List Seg). slice_get xs 0) all in
    let there : IsSegment is k 0 i s = segment_there is k 0 i s at.lt at.at found in
    let two = two_segments i at.sound in
    let n = mapped s ((sound_linkedit i at.sound 0 s there.segment_in there.segment_is).0 (omega (arith, two))) in
    let few = bytes_fit i at.sound 0 s there.segment_in there.segment_is in
    let room = header_fits i at.sound s there.segment_in there.segment_is in
    let fits : length s.bytes ≤ paged s.vmsize = omega (arith, few, paged-covers s.vmsize) in
    let le : length header ≤ length s.bytes = omega (arith, long, room) in
    let tail : flat_map (λ (p : ℕ × Seg). part_in m (mapping_of p.1) (segment_pages header ss p.0)) (enumerate_from 1 rest) ≡ plain_part m 1 rest = tail_same header m ss (s ∷ []) rest refl (omega arith) in
    elim (cases_Bool (is_same m n.0)) [
      | inl same ↦
          let mine : mapping_of s ≡ Some m = n.1 ∙ ap (λ (x : Mapping). let o : Option Mapping = Some x in o) (same_mapping m n.0 same) in
          let file : (move_at (layout_of is) k 0).file ≡ place_of is k 0 i m = ap (λ (v : Moved). v.file) (move_at-own is k 0 i s m there mine) in
          let high = place-in_image is k 0 i s m there mine in
          let lies : lies_in span (move_at (layout_of is) k 0).file (length header) ≡ true = lies_yes span (move_at (layout_of is) k 0).file (length header) (omega (arith, file)) (omega (arith, file, high, le, fits)) in
          let place : (move_at (layout_of is) k 0).file - span.at ≡ 0 = omega (arith, file) in
          let part : (bytes : List ℕ) → part_in m (mapping_of s) bytes ≡ bytes = λ bytes. ap (λ (o : Option Mapping). part_in m o bytes) mine ∙ cond-true (is_same m m) bytes [] (is_same-self m) in
          part_within span (record { at = (move_at (layout_of is) k 0).file; bytes = header }) (plain_part m 0 ss) lies
          ∙ (ap₂ (λ (x : ℕ) (b : List ℕ). put_bytes (b ++ plain_part m 1 rest) x header) place (part (plain_pages s))
          ∙ (headed_pages header s.bytes (plain_part m 1 rest) (paged s.vmsize) le fits
          ∙ ap₂ (λ (a b : List ℕ). a ++ b) (sym (part (pages_of header 0 s))) (sym tail)))
      | inr other ↦
          let part : (bytes : List ℕ) → part_in m (mapping_of s) bytes ≡ [] = λ bytes. ap (λ (o : Option Mapping). part_in m o bytes) n.1 ∙ cond-false (is_same m n.0) bytes [] other in
          outside is k 0 i s m n.0 header (plain_part m 0 ss) at there n.1 other (omega (arith, le, fits))
          ∙ ap₂ (λ (a b : List ℕ). a ++ b) (part (plain_pages s) ∙ sym (part (pages_of header 0 s))) (sym tail)
    ]

-- the copies of an image and its header leave the pages of its segments
pub pages_laid : (is : List Img) (k : ℕ) (i : Img) (m : Mapping) (header : List ℕ) → IsAt is k i → length header ≡ length i.header
    → put_parts (parts_in (span_in m is k i) (copies_of (layout_of is) k i.segments ++ record { at = (header_move (layout_of is) k i.segments).file; bytes = header } ∷ [])) (replicate (span_in m is k i).len 0)
    ≡ image_part m (segment_pages header i.segments) i.segments
unfolding header_move
pages_laid is k i m header at long =
    let l : Laid = layout_of is in
    let span : Span = span_in m is k i in
    let place : (header_move l k i.segments).file ≡ (move_at l k 0).file = ap (λ (o : Option ℕ). (move_or_none l k o).file) (text_position i at.sound) in
    let header_at : ℕ → List Part = λ x. record { at = x; bytes = header } ∷ [] in
    put_parts_in-append span (copies_of l k i.segments) (header_at (header_move l k i.segments).file) (replicate span.len 0)
    ∙ (ap₂ (λ (x : ℕ) (b : List ℕ). put_parts (parts_in span (header_at x)) b) place (run is k i m at [] i.segments refl [] refl)
    ∙ header_put is k i m header at long i.segments refl (two_segments i at.sound))

-- a part of an image once its plan is carried out: the pages of its segments with the words set
pub rewritten_pages : (is : List Img) (k : ℕ) (i : Img) (st : StreamLists) (placed : List PlacedWord) (headers : List (List ℕ)) (m : Mapping) → IsAt is k i → length (slice_index_or headers k []) ≡ length i.header
    → rewritten (with_header headers k (plan_of (layout_of is) is k i st placed)) (span_in m is k i)
    ≡ put_all (edits_in (span_in m is k i) (plan_of (layout_of is) is k i st placed).edits) (image_part m (segment_pages (slice_index_or headers k []) i.segments) i.segments)
unfolding rewritten plan_of
rewritten_pages is k i st placed headers m at long =
    ap (λ (b : List ℕ). put_all (edits_in (span_in m is k i) (map (edit_of (layout_of is) k i.segments) (words_with k i st placed))) b) (pages_laid is k i m (slice_index_or headers k []) at long)
