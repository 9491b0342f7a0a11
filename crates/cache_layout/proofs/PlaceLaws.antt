-- The places of a layout: where each segment goes, that it stands on whole pages in the range of its mapping, and that no two segments share a byte.
use Rattle.std.proofs.Common.{◌≡◌, ◌≤◌, ◌<◌, ◌⊎◌, ℕ, ◌+◌, ◌%◌, Bool, true, false, List, [], length, take, get_or, refl, sym, ap, ap₂, ◌∙◌, subst, arith, inl, inr, if◌then◌else◌, nat_eq, Option, Some, None}
use Rattle.std.proofs.lemmas.List.{get_or_default}
use Rattle.std.proofs.lemmas.Bool.{cases_lt}
use Rattle.dsc_base.specs.Region.{region_start, paged}
use Rattle.dsc_base.specs.declared.fault.Span.{Span}
use Rattle.macho_image.specs.Records.{Seg, Img}
use Rattle.macho_image.specs.Rules.{is_linkedit_segment}
use Rattle.macho_image.specs.declared.place.Moved.{Moved}
use Rattle.cache_layout.specs.declared.mapping.Mapping.{Mapping}
use Rattle.cache_layout.specs.declared.mapping.Mapping.TheVariants.{Text, Writable, Fixed}
use Rattle.cache_layout.specs.Places.{mapping_of, is_same, share, room_of, segments_room, images_room, head_size, mapping_start, image_start, segment_place, move_of, shift_of, segment_move, segment_shift, image_moves, image_shifts, moves_at, shifts_at, all_moves, all_shifts}
use Rattle.cache_layout.specs.Layouts.{layout_of, layout_break}
use Rattle.cache_layout.specs.Apart.{IsSegment, move_at, AreInTurn, range_in, IsWithin, AreWithin, IsApart, AreApart}
use Rattle.cache_layout.proofs.NumberedLaws.{numbered-get, length-numbered, sum-before, sum-pages}
use Rattle.cache_layout.proofs.RoomLaws.{paged-whole, room_of-own}
use Rattle.cache_layout.proofs.MoveLaws.{room-fits, rooms-fit}
use Rattle.cache_layout.proofs.BreakLaws.{none-fits, mapping-ends}

-- segments and their mappings

-- the segment that stands at two numbers
pub segment_there : (is : List Img) (k g : ℕ) (i : Img) (s : Seg) → k < length is → g < length (get_or is k i).segments → IsSegment is k g (get_or is k i) (get_or (get_or is k i).segments g s)
segment_there is k g i s lt below = record {
  image_in = lt;
  image_is = get_or_default is k i (get_or is k i) lt;
  segment_in = below;
  segment_is = get_or_default (get_or is k i).segments g s (get_or (get_or is k i).segments g s) below;
}

-- a segment other than `__LINKEDIT` has a mapping, and `__LINKEDIT` has none
pub mapped : (s : Seg) → is_linkedit_segment s ≡ false → (m : Mapping) × (mapping_of s ≡ Some m)
unfolding mapping_of
mapped s owned = picked (is_linkedit_segment s) (nat_eq s.initprot 5) (nat_eq s.initprot 3) owned
  where
    picked : (l a b : Bool) → l ≡ false → (m : Mapping) × ((if l then None else (if a then Some Text else (if b then Some Writable else Some Fixed))) ≡ Some m)
    picked true a b e = absurd (cc)
    picked false true b e = (Text, refl)
    picked false false true e = (Writable, refl)
    picked false false false e = (Fixed, refl)

pub mapped_own : (s : Seg) (m : Mapping) → mapping_of s ≡ Some m → is_linkedit_segment s ≡ false
unfolding mapping_of
mapped_own s m own = picked (is_linkedit_segment s) (if nat_eq s.initprot 5 then Some Text else (if nat_eq s.initprot 3 then Some Writable else Some Fixed)) own
  where
    picked : (l : Bool) (o : Option Mapping) → (if l then None else o) ≡ Some m → l ≡ false
    picked true o e = absurd (cc)
    picked false o e = refl

pub unmapped : (s : Seg) → is_linkedit_segment s ≡ true → mapping_of s ≡ None
unfolding mapping_of
unmapped s linkedit = ap (λ (b : Bool). if b then None else (if nat_eq s.initprot 5 then Some Text else (if nat_eq s.initprot 3 then Some Writable else Some Fixed))) linkedit

-- the entries of a layout

pub length-moves : (is : List Img) → length (layout_of is).moves ≡ length is
unfolding layout_of all_moves
length-moves is = length-numbered (moves_at is) is

pub length-shifts : (is : List Img) → length (layout_of is).shifts ≡ length is
unfolding layout_of all_shifts
length-shifts is = length-numbered (shifts_at is) is

pub moves-of : (is : List Img) (k : ℕ) (i : Img) → k < length is → i ≡ get_or is k i → get_or (layout_of is).moves k [] ≡ image_moves (image_start is (take k is)) i.segments
unfolding layout_of all_moves
moves-of is k i lt at = numbered-get (moves_at is) is k i [] lt at

pub shifts-of : (is : List Img) (k : ℕ) (i : Img) → k < length is → i ≡ get_or is k i → get_or (layout_of is).shifts k [] ≡ image_shifts (image_start is (take k is)) i.segments
unfolding layout_of all_shifts
shifts-of is k i lt at = numbered-get (shifts_at is) is k i [] lt at

-- as many as the image has segments
pub length-moves-of : (is : List Img) (k : ℕ) (i : Img) → k < length is → i ≡ get_or is k i → length (get_or (layout_of is).moves k []) ≡ length i.segments
length-moves-of is k i lt at =
    ap (λ (l : List Moved). length l) (moves-of is k i lt at) ∙ length-numbered (segment_move (image_start is (take k is)) i.segments) i.segments

pub length-shifts-of : (is : List Img) (k : ℕ) (i : Img) → k < length is → i ≡ get_or is k i → length (get_or (layout_of is).shifts k []) ≡ length i.segments
length-shifts-of is k i lt at =
    ap (λ (l : List ℕ). length l) (shifts-of is k i lt at) ∙ length-numbered (segment_shift (image_start is (take k is)) i.segments) i.segments

-- where a segment of a mapping stands in the file
abbrev pub place_of : List Img → ℕ → ℕ → Img → Mapping → ℕ
place_of is k g i m = segment_place (image_start is (take k is)) (take g i.segments) m

pub move_at-is : (is : List Img) (k g : ℕ) (i : Img) (s : Seg) → IsSegment is k g i s → move_at (layout_of is) k g ≡ move_of (mapping_of s) (place_of is k g i)
move_at-is is k g i s there =
    let none : Moved = record { address = 0; file = 0 } in
    ap (λ (l : List Moved). get_or l g none) (moves-of is k i there.image_in there.image_is)
    ∙ numbered-get (segment_move (image_start is (take k is)) i.segments) i.segments g s none there.segment_in there.segment_is

pub move_at-own : (is : List Img) (k g : ℕ) (i : Img) (s : Seg) (m : Mapping) → IsSegment is k g i s → mapping_of s ≡ Some m
    → move_at (layout_of is) k g ≡ record { address = region_start + place_of is k g i m; file = place_of is k g i m }
move_at-own is k g i s m there own = move_at-is is k g i s there ∙ ap (λ (o : Option Mapping). move_of o (place_of is k g i)) own

pub shift_at-is : (is : List Img) (k g : ℕ) (i : Img) (s : Seg) → IsSegment is k g i s
    → get_or (get_or (layout_of is).shifts k []) g 0 ≡ shift_of (mapping_of s) (move_at (layout_of is) k g).address s.vmaddr
shift_at-is is k g i s there =
    ap (λ (l : List ℕ). get_or l g 0) (shifts-of is k i there.image_in there.image_is)
    ∙ (numbered-get (segment_shift (image_start is (take k is)) i.segments) i.segments g s 0 there.segment_in there.segment_is
    ∙ sym (ap (λ (m : Moved). shift_of (mapping_of s) m.address s.vmaddr) (move_at-is is k g i s there)))

-- whole pages

room_of-pages : (m : Mapping) (s : Seg) → room_of m s % 4096 ≡ 0
room_of-pages m s = shared m (mapping_of s) (paged s.vmsize) (paged-whole s.vmsize)
  where
    pick : (b : Bool) (n : ℕ) → n % 4096 ≡ 0 → (if b then n else 0) % 4096 ≡ 0
    pick true n whole = whole
    pick false n whole = refl

    shared : (m : Mapping) (o : Option Mapping) (n : ℕ) → n % 4096 ≡ 0 → share m o n % 4096 ≡ 0
    shared m None n whole = refl
    shared m (Some k) n whole = pick (is_same m k) n whole

segments_room-pages : (m : Mapping) (ss : List Seg) → segments_room m ss % 4096 ≡ 0
segments_room-pages m ss = sum-pages (room_of m) ss (room_of-pages m)

images_room-pages : (m : Mapping) (is : List Img) → images_room m is % 4096 ≡ 0
images_room-pages m is = sum-pages (λ (i : Img). segments_room m i.segments) is (λ i. segments_room-pages m i.segments)

mapping_start-pages : (m : Mapping) (is : List Img) → mapping_start m is % 4096 ≡ 0
mapping_start-pages Text is = paged-whole (head_size is)
mapping_start-pages Writable is = omega (arith, paged-whole (head_size is), images_room-pages Text is)
mapping_start-pages Fixed is = omega (arith, paged-whole (head_size is), images_room-pages Text is, images_room-pages Writable is)

pub place-pages : (is : List Img) (k g : ℕ) (i : Img) (m : Mapping) → place_of is k g i m % 4096 ≡ 0
place-pages is k g i m = omega (arith, mapping_start-pages m is, images_room-pages m (take k is), segments_room-pages m (take g i.segments))

-- a segment stands in the range of its mapping
pub place-ends : (is : List Img) (k g : ℕ) (i : Img) (s : Seg) (m : Mapping) → IsSegment is k g i s → mapping_of s ≡ Some m
    → place_of is k g i m + paged s.vmsize ≤ mapping_start m is + images_room m is
place-ends is k g i s m there own =
    omega (arith, room_of-own m s own, room-fits m i.segments g s there.segment_in there.segment_is, rooms-fit m is k i there.image_in there.image_is)

pub range_in-is : (is : List Img) (m : Mapping) → range_in (layout_of is) m ≡ record { at = mapping_start m is; len = images_room m is }
unfolding layout_of
range_in-is is Text = refl
range_in-is is Writable = refl
range_in-is is Fixed = refl

pub are_in_turn : (is : List Img) → layout_break is ≡ None → AreInTurn is (layout_of is)
unfolding layout_of
are_in_turn is none = record {
  text = refl;
  writable = refl;
  fixed = refl;
  pages = λ m. subst (λ (r : Span). (r.at % 4096 ≡ 0) × (r.len % 4096 ≡ 0)) (sym (range_in-is is m)) (mapping_start-pages m is, images_room-pages m is);
  span = none-fits is none;
}

pub are_within : (is : List Img) → layout_break is ≡ None → AreWithin is (layout_of is)
are_within is none k g i s there owned =
    let own = mapped s owned in
    let m = own.0 in
    let range : Span = record { at = mapping_start m is; len = images_room m is } in
    let moved : Moved = record { address = region_start + place_of is k g i m; file = place_of is k g i m } in
    let well : IsWithin range s moved = record {
      address = refl;
      pages = place-pages is k g i m;
      start = omega arith;
      end = place-ends is k g i s m there own.1;
      span = omega (arith, mapping-ends m is, none-fits is none);
    } in
    (m, own.1, subst (λ (r : Span). IsWithin r s (move_at (layout_of is) k g)) (sym (range_in-is is m)) (subst (λ (v : Moved). IsWithin range s v) (sym (move_at-own is k g i s m there own.1)) well))

-- no two segments share a byte: one mapping ends where the next one begins, in a mapping one image, and in an image one segment
mappings-apart : (is : List Img) (m n : Mapping) → (m ≡ n) ⊎ ((mapping_start m is + images_room m is ≤ mapping_start n is) ⊎ (mapping_start n is + images_room n is ≤ mapping_start m is))
mappings-apart is Text Text = inl refl
mappings-apart is Text Writable = inr (inl (omega arith))
mappings-apart is Text Fixed = inr (inl (omega arith))
mappings-apart is Writable Text = inr (inr (omega arith))
mappings-apart is Writable Writable = inl refl
mappings-apart is Writable Fixed = inr (inl (omega arith))
mappings-apart is Fixed Text = inr (inr (omega arith))
mappings-apart is Fixed Writable = inr (inr (omega arith))
mappings-apart is Fixed Fixed = inl refl

-- an earlier image's segment ends before a later one's
earlier-image : (is : List Img) (k g : ℕ) (i : Img) (s : Seg) (k' g' : ℕ) (i' : Img) (m : Mapping) → IsSegment is k g i s → mapping_of s ≡ Some m → k < k'
    → place_of is k g i m + paged s.vmsize ≤ place_of is k' g' i' m
earlier-image is k g i s k' g' i' m there own before =
    omega (
      arith,
      room_of-own m s own,
      room-fits m i.segments g s there.segment_in there.segment_is,
      sum-before (λ (i : Img). segments_room m i.segments) is k k' i before there.image_in there.image_is,
    )

earlier-segment : (is : List Img) (k g : ℕ) (i : Img) (s : Seg) (g' : ℕ) (m : Mapping) → IsSegment is k g i s → mapping_of s ≡ Some m → g < g'
    → place_of is k g i m + paged s.vmsize ≤ place_of is k g' i m
earlier-segment is k g i s g' m there own before =
    omega (arith, room_of-own m s own, sum-before (room_of m) i.segments g g' s before there.segment_in there.segment_is)

order : (a b : ℕ) → (a ≡ b) ⊎ ((a < b) ⊎ (b < a))
order a b = elim (cases_lt a b) [
  | inl less ↦ inr (inl less)
  | inr more ↦ elim (cases_lt b a) [ inl over ↦ inr (inr over) | inr same ↦ inl (omega (arith, more, same)) ]
]

same_image : (is : List Img) (k k' g g' : ℕ) (i i' : Img) (s s' : Seg) → k ≡ k' → IsSegment is k g i s → IsSegment is k' g' i' s' → i ≡ i'
same_image is k k' g g' i i' s s' same there there' =
    there.image_is ∙ (get_or_default is k i i' there.image_in ∙ (ap (λ (n : ℕ). get_or is n i') same ∙ sym there'.image_is))

places-apart : (is : List Img) (m n : Mapping) (k g : ℕ) (i : Img) (s : Seg) (k' g' : ℕ) (i' : Img) (s' : Seg) → IsSegment is k g i s → IsSegment is k' g' i' s'
    → mapping_of s ≡ Some m → mapping_of s' ≡ Some n → (k ≡ k' → g ≡ g' → ⊥) → IsApart (place_of is k g i m) s (place_of is k' g' i' n) s'
places-apart is m n k g i s k' g' i' s' there there' own own' other = elim (mappings-apart is m n) [
  | inr one ↦ elim one [
    | inl before ↦ inl (omega (arith, before, place-ends is k g i s m there own))
    | inr behind ↦ inr (omega (arith, behind, place-ends is k' g' i' s' n there' own'))
  ]
  | inl same ↦
      let both : mapping_of s' ≡ Some m = own' ∙ ap (λ (o : Mapping). let q : Option Mapping = Some o in q) (sym same) in
      subst (λ (o : Mapping). IsApart (place_of is k g i m) s (place_of is k' g' i' o) s') same
      (elim (order k k') [
        | inr one ↦ elim one [
          | inl before ↦ inl (earlier-image is k g i s k' g' i' m there own before)
          | inr behind ↦ inr (earlier-image is k' g' i' s' k g i m there' both behind)
        ]
        | inl at ↦ elim (order g g') [
          | inl too ↦ absurd (other at too)
          | inr one ↦
              let image : i ≡ i' = same_image is k k' g g' i i' s s' at there there' in
              elim one [
                | inl before ↦ inl (subst (λ (n : ℕ). place_of is k g i m + paged s.vmsize ≤ n) (ap₂ (λ (n : ℕ) (j : Img). place_of is n g' j m) at image) (earlier-segment is k g i s g' m there own before))
                | inr behind ↦ inr (subst (λ (n : ℕ). place_of is k' g' i' m + paged s'.vmsize ≤ n) (ap₂ (λ (n : ℕ) (j : Img). place_of is n g j m) (sym at) (sym image)) (earlier-segment is k' g' i' s' g m there' both behind))
              ]
        ]
      ])
]

pub are_apart : (is : List Img) → AreApart is (layout_of is)
are_apart is k g i s k' g' i' s' there there' owned owned' other =
    let own = mapped s owned in
    let own' = mapped s' owned' in
    let here = ap (λ (v : Moved). v.file) (move_at-own is k g i s own.0 there own.1) in
    let there_too = ap (λ (v : Moved). v.file) (move_at-own is k' g' i' s' own'.0 there' own'.1) in
    subst (λ (n : ℕ). IsApart n s (move_at (layout_of is) k' g').file s') (sym here)
    (subst (λ (n : ℕ). IsApart (place_of is k g i own.0) s n s') (sym there_too)
    (places-apart is own.0 own'.0 k g i s k' g' i' s' there there' own.1 own'.1 other))
