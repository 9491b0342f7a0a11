-- The chained words of all images follow one another in the data mapping.
use Rattle.std.proofs.Common.{◌≡◌, ◌≤◌, ◌<◌, ℕ, suc, ◌+◌, ◌-◌, ◌%◌, Bool, true, false, if◌then◌else◌, nat_eq, Option, Some, None, List, [], ◌∷◌, ◌++◌, length, map, filter, take, get_or, refl, sym, ap, ◌∙◌, subst, arith, inl, inr, append_assoc, length-append}
use Rattle.std.specs.Prelude.{slice_get, slice_index_or}
use Rattle.std.specs.List.{All, flat_map, enumerate_from}
use Rattle.std.proofs.lemmas.Bool.{cases_Bool, cond-true, cond-false, eqb-true, and_parts}
use Rattle.std.proofs.lemmas.List.{take_at, append-nil, get_or-map}
use Rattle.std.proofs.lemmas.List.Elements.{All-head, All-tail}
use Rattle.std.proofs.lemmas.List.Sums.{sum_by_push}
use Rattle.std.proofs.lemmas.Option.{same_Some, slice_get_read, slice_get-get_or, slice_get_within, get_or_from_slice_get}
use Rattle.dsc_base.specs.Region.{paged}
use Rattle.dsc_base.specs.declared.fault.Span.{Span}
use Rattle.macho_image.specs.Records.{Seg, Img}
use Rattle.macho_image.specs.Rules.{is_linkedit_segment}
use Rattle.macho_image.specs.declared.place.Moved.{Moved}
use Rattle.macho_image.specs.Places.{IsWord}
use Rattle.prebind.specs.declared.resolved.PlacedWord.{PlacedWord}
use Rattle.prebind.specs.Sets.{StreamLists, ImageSet}
use Rattle.cache_layout.specs.declared.mapping.Mapping.{Mapping}
use Rattle.cache_layout.specs.declared.mapping.Mapping.TheVariants.{Text, Writable, Fixed}
use Rattle.cache_layout.specs.Places.{mapping_of, is_in, is_same, share, room_of, segments_room, images_room, mapping_start, image_start}
use Rattle.cache_layout.specs.Layouts.{Laid, layout_of}
use Rattle.cache_layout.specs.Apart.{IsSegment, AreInTurn, move_at}
use Rattle.cache_layout.proofs.PlaceLaws.{place_of, mapped_own, move_at-own, range_in-is, are_in_turn, are_within}
use Rattle.cache_layout.proofs.RoomLaws.{paged-covers}
use Rattle.cache_layout.proofs.SpaceLaws.{sound_space}
use Rattle.ref_rewrite.specs.Following.{FollowIn}
use Rattle.ref_rewrite.specs.Moving.{new_offset}
use Rattle.ref_rewrite.specs.Plans.{Plan}
use Rattle.ref_rewrite.specs.Planned.{IsLayout, AreSized, leads_to_place, is_chained, data_offset, chained_in, chained_words, plan_of, plans_of}
use Rattle.ref_rewrite.proofs.FitLaws.{IsAt, IsPlanned, segment_there, offset_is}
use Rattle.ref_rewrite.proofs.HomeLaws.{section_owned}
use Rattle.ref_rewrite.proofs.PageLaws.{slice_there, same_mapping}
use Rattle.ref_rewrite.proofs.PlacedLaws.{placed_words}
use Rattle.ref_rewrite.proofs.SpacedLaws.{words_spaced}
use Rattle.ref_rewrite.proofs.MappingLaws.{IsNext, next_of, plans_from}
use Rattle.prebind.proofs.PlacedLists.{placed_at}

-- ---- words that follow one another

follow_lower : (a b c : ℕ) (ws : List ℕ) → a ≤ b → FollowIn b c ws → FollowIn a c ws
follow_lower a b c [] le follow = omega (arith, le, follow)
follow_lower a b c (w ∷ ws) le follow = (omega (arith, le, follow.0), follow.1, follow.2, follow.3)

follow_join : (a b c : ℕ) (xs ys : List ℕ) → FollowIn a b xs → FollowIn b c ys → FollowIn a c (xs ++ ys)
follow_join a b c [] ys front back = follow_lower a b c ys front back
follow_join a b c (x ∷ xs) ys front back = (front.0, front.1, front.2, follow_join (x + 8) b c xs ys front.3 back)

-- words at rising addresses, 8 bytes or more from each other
abbrev pub SpacedFrom : ℕ → List PlacedWord → Type 0
SpacedFrom floor [] = Unit {0}
SpacedFrom floor (w ∷ ws) = (floor ≤ w.at.address) × SpacedFrom (w.at.address + 8) ws

pub spaced_from : (floor : ℕ) (ws : List PlacedWord) → ((i : ℕ) (d : PlacedWord) → i + 1 < length ws → (get_or ws i d).at.address + 8 ≤ (get_or ws (i + 1) d).at.address) → ((d : PlacedWord) → 0 < length ws → floor ≤ (get_or ws 0 d).at.address) → SpacedFrom floor ws
spaced_from floor [] apart first = tt
spaced_from floor (w ∷ ws) apart first =
    (first w (omega arith), spaced_from (w.at.address + 8) ws (λ i d lt. later i d (apart (suc i) d (omega arith))) (λ d some. next d (apart 0 d (omega arith))))
  where
    later : (i : ℕ) (d : PlacedWord) → (get_or (w ∷ ws) (suc i) d).at.address + 8 ≤ (get_or (w ∷ ws) (suc i + 1) d).at.address → (get_or ws i d).at.address + 8 ≤ (get_or ws (i + 1) d).at.address
    later i d le = let e : suc i + 1 ≡ suc (i + 1) = omega arith in subst (λ (n : ℕ). (get_or ws i d).at.address + 8 ≤ (get_or (w ∷ ws) n d).at.address) e le

    next : (d : PlacedWord) → (get_or (w ∷ ws) 0 d).at.address + 8 ≤ (get_or (w ∷ ws) (0 + 1) d).at.address → w.at.address + 8 ≤ (get_or ws 0 d).at.address
    next d le = let e : 0 + 1 ≡ 1 = omega arith in subst (λ (n : ℕ). w.at.address + 8 ≤ (get_or (w ∷ ws) n d).at.address) e le

-- ---- the chained words of a segment

pub writable_mapping : (s : Seg) → s.initprot ≡ 3 → is_linkedit_segment s ≡ false → mapping_of s ≡ Some Writable
unfolding mapping_of
writable_mapping s writable owned =
    ap (λ (b : Bool). if b then None else (if nat_eq s.initprot 5 then Some Text else (if nat_eq s.initprot 3 then Some Writable else Some Fixed))) owned
    ∙ ap (λ (n : ℕ). if nat_eq n 5 then Some Text else (if nat_eq n 3 then Some Writable else Some Fixed)) writable

-- a word of segment g, where that is this one
record StandsIn (i : Img) (g : ℕ) (s : Seg) (w : PlacedWord) : Type 0 where
  from : s.vmaddr ≤ w.at.address
  to : w.at.address + 8 ≤ s.vmaddr + s.vmsize
  aligned : w.at.address % 4 ≡ 0
  in_page : w.at.address % 4096 ≤ 0xFF8
  mapping : mapping_of s ≡ Some Writable

stands_in : (is : List Img) (k g : ℕ) (i : Img) (s : Seg) (w : PlacedWord) → IsAt is k i → slice_get i.segments g ≡ Some s → IsWord i w.at → w.at.segment ≡ g → StandsIn i g s w
stands_in is k g i s w at found word own =
    let same : word.segment ≡ s = same_Some word.segment s (sym word.segment_is ∙ (ap (λ (n : ℕ). slice_get i.segments n) own ∙ found)) in
    let start : word.segment.vmaddr ≡ s.vmaddr = ap (λ (t : Seg). t.vmaddr) same in
    let size : word.segment.vmsize ≡ s.vmsize = ap (λ (t : Seg). t.vmsize) same in
    let other = section_owned i at.sound (w.at.section - 1) word.section s word.section_is (ap (λ (n : ℕ). slice_get i.segments n) (word.in_segment ∙ own) ∙ found) in
    record {
      from = omega (arith, word.from, start);
      to = omega (arith, word.to, start, size);
      aligned = word.aligned;
      in_page = word.in_page;
      mapping = writable_mapping s (ap (λ (t : Seg). t.initprot) (sym same) ∙ word.writable) other;
    }

chained_first : (g : ℕ) (w : PlacedWord) → is_chained g w ≡ true → w.at.segment ≡ g
chained_first g w is = eqb-true w.at.segment g (and_parts (nat_eq w.at.segment g) (leads_to_place w.target) is).0

-- where segment g begins in the data
abbrev begin_at : List Img → ℕ → ℕ → ℕ
begin_at is k g = (move_at (layout_of is) k g).file - (layout_of is).writable.at

word_follows : (is : List Img) (k g : ℕ) (i : Img) (s : Seg) (w : PlacedWord) (from : ℕ) → IsAt is k i → slice_get i.segments g ≡ Some s → IsWord i w.at → w.at.segment ≡ g → mapping_of s ≡ Some Writable → from ≤ begin_at is k g + (w.at.address - s.vmaddr)
    → (o : ℕ) × (data_offset (layout_of is) k i.segments w ≡ o) × (o ≡ begin_at is k g + (w.at.address - s.vmaddr)) × (from ≤ o) × (o % 4 ≡ 0) × (o % 4096 ≤ 0xFF8) × (o + 8 ≤ begin_at is k g + paged s.vmsize)
word_follows is k g i s w from at found word own mapping le =
    let l : Laid = layout_of is in
    let there : IsSegment is k g i s = segment_there is k g i s at.lt at.at found in
    let other = mapped_own s Writable mapping in
    let stands : StandsIn i g s w = stands_in is k g i s w at found word own in
    let place : new_offset l k i.segments g w.at.address ≡ (move_at l k g).file + (w.at.address - s.vmaddr) = offset_is is k g i s w.at.address at.none at.sound at.lt at.at found other stands.from (omega (arith, stands.to)) in
    let same : new_offset l k i.segments w.at.segment w.at.address ≡ new_offset l k i.segments g w.at.address = ap (λ (n : ℕ). new_offset l k i.segments n w.at.address) own in
    let within = are_within is at.none k g i s there other in
    let turn : AreInTurn is l = are_in_turn is at.none in
    let file : (move_at l k g).file ≡ place_of is k g i Writable = ap (λ (v : Moved). v.file) (move_at-own is k g i s Writable there mapping) in
    let range : l.writable.at ≡ mapping_start Writable is = ap (λ (r : Span). r.at) (range_in-is is Writable) in
    let low : l.writable.at ≤ (move_at l k g).file = omega (arith, file, range) in
    let pages : (move_at l k g).file % 4096 ≡ 0 = within.2.pages in
    let even : l.writable.at % 4096 ≡ 0 = (turn.pages Writable).0 in
    let space = sound_space i at.sound g s there.segment_in there.segment_is in
    let whole : begin_at is k g % 4096 ≡ 0 = omega (arith, low, pages, even) in
    let o : ℕ = begin_at is k g + (w.at.address - s.vmaddr) in (
      o,
      omega (arith, same, place, low),
      refl,
      le,
      omega (arith, whole, space.0, stands.from, stands.aligned),
      omega (arith, whole, space.0, stands.from, stands.in_page),
      omega (arith, stands.from, stands.to, paged-covers s.vmsize),
    )

segment_follows : (is : List Img) (k g : ℕ) (i : Img) (s : Seg) (ws : List PlacedWord) (floor from : ℕ) → IsAt is k i → slice_get i.segments g ≡ Some s → mapping_of s ≡ Some Writable → SpacedFrom floor ws → All (λ (w : PlacedWord). IsWord i w.at) ws
    → from ≤ begin_at is k g + (floor - s.vmaddr) → from ≤ begin_at is k g + paged s.vmsize → FollowIn from (begin_at is k g + paged s.vmsize) (chained_in (layout_of is) k i.segments ws (g, s))
segment_follows is k g i s [] floor from at found mapping spaced words le end = end
segment_follows is k g i s (w ∷ ws) floor from at found mapping spaced words le end =
    let l : Laid = layout_of is in
    let P : PlacedWord → Type 0 = λ v. IsWord i v.at in
    let to : ℕ = begin_at is k g + paged s.vmsize in
    let rest : List PlacedWord = filter (is_chained g) ws in
    let offsets : List PlacedWord → List ℕ = λ vs. map (data_offset l k i.segments) vs in
    elim (cases_Bool (is_chained g w)) [
      | inl own ↦
          let f = word_follows is k g i s w from at found (All-head P w ws words) (chained_first g w own) mapping (omega (arith, le, spaced.0)) in
          let later = segment_follows is k g i s ws (w.at.address + 8) (f.0 + 8) at found mapping spaced.1 (All-tail P w ws words) (omega (arith, f.2, (stands_in is k g i s w at found (All-head P w ws words) (chained_first g w own)).from)) f.6 in
          subst (λ (xs : List ℕ). FollowIn from to xs) (sym (ap offsets (cond-true (is_chained g w) (w ∷ rest) rest own)))
          (subst (λ (n : ℕ). FollowIn from to (n ∷ offsets rest)) (sym f.1) (f.3, f.4, f.5, later))
      | inr skip ↦
          subst (λ (xs : List ℕ). FollowIn from to xs) (sym (ap offsets (cond-false (is_chained g w) (w ∷ rest) rest skip)))
          (segment_follows is k g i s ws (w.at.address + 8) from at found mapping spaced.1 (All-tail P w ws words) (omega (arith, le, spaced.0)) end)
    ]

-- a segment of another mapping has none
segment_none : (is : List Img) (k g : ℕ) (i : Img) (s : Seg) (ws : List PlacedWord) → IsAt is k i → slice_get i.segments g ≡ Some s → (mapping_of s ≡ Some Writable → ⊥) → All (λ (w : PlacedWord). IsWord i w.at) ws → chained_in (layout_of is) k i.segments ws (g, s) ≡ []
segment_none is k g i s [] at found other words = refl
segment_none is k g i s (w ∷ ws) at found other words =
    let P : PlacedWord → Type 0 = λ v. IsWord i v.at in
    let rest : List PlacedWord = filter (is_chained g) ws in
    elim (cases_Bool (is_chained g w)) [
      | inl own ↦ absurd (other (stands_in is k g i s w at found (All-head P w ws words) (chained_first g w own)).mapping)
      | inr skip ↦ ap (map (data_offset (layout_of is) k i.segments)) (cond-false (is_chained g w) (w ∷ rest) rest skip) ∙ segment_none is k g i s ws at found other (All-tail P w ws words)
    ]

-- ---- of an image

room_writable : (s : Seg) → mapping_of s ≡ Some Writable → room_of Writable s ≡ paged s.vmsize
room_writable s own = ap (λ (o : Option Mapping). share Writable o (paged s.vmsize)) own

in_writable : (o : Option Mapping) → is_in Writable o ≡ true → o ≡ Some Writable
in_writable None is = absurd (let e : false ≡ true = is in cc)
in_writable (Some n) is = ap (λ (x : Mapping). let o : Option Mapping = Some x in o) (same_mapping Writable n is)

not_writable : (o : Option Mapping) (size : ℕ) → is_in Writable o ≡ false → (share Writable o size ≡ 0) × (o ≡ Some Writable → ⊥)
not_writable None size is = (refl, λ e. (let f : ◌≡◌ {A = Option Mapping} None (Some Writable) = e in cc))
not_writable (Some n) size is =
    (cond-false (is_same Writable n) size 0 is, λ e. differ (is_same Writable n) (ap (λ (o : Option Mapping). is_in Writable o) e) is)
  where
    differ : (b : Bool) → b ≡ true → b ≡ false → ⊥
    differ true first second = let f : true ≡ false = second in cc
    differ false first second = let f : false ≡ true = first in cc

segments_follow : (is : List Img) (k : ℕ) (i : Img) (ws : List PlacedWord) (begin : ℕ) (before rest : List Seg) → IsAt is k i → i.segments ≡ before ++ rest → SpacedFrom 0 ws → All (λ (w : PlacedWord). IsWord i w.at) ws
    → begin + (layout_of is).writable.at ≡ image_start is (take k is) Writable
    → FollowIn (begin + segments_room Writable before) (begin + segments_room Writable i.segments) (flat_map (chained_in (layout_of is) k i.segments ws) (enumerate_from (length before) rest))
segments_follow is k i ws begin before [] at all spaced words start =
    let whole : segments_room Writable i.segments ≡ segments_room Writable before = ap (segments_room Writable) (all ∙ append-nil before) in
    omega (arith, whole)
segments_follow is k i ws begin before (s ∷ rest) at all spaced words start =
    let l : Laid = layout_of is in
    let g : ℕ = length before in
    let found : slice_get i.segments g ≡ Some s = ap (λ (ss : List Seg). slice_get ss g) all ∙ slice_there before rest s in
    let there : IsSegment is k g i s = segment_there is k g i s at.lt at.at found in
    let taken : take g i.segments ≡ before = ap (take g) all ∙ take_at before (s ∷ rest) g refl in
    let room : segments_room Writable (before ++ s ∷ []) ≡ segments_room Writable before + room_of Writable s = sum_by_push (room_of Writable) before s in
    let count : length (before ++ s ∷ []) ≡ g + 1 = omega (arith, length-append before (s ∷ [])) in
    let end : ℕ = begin + segments_room Writable i.segments in
    let later : FollowIn (begin + segments_room Writable (before ++ s ∷ [])) end (flat_map (chained_in l k i.segments ws) (enumerate_from (g + 1) rest)) =
    subst (λ (c : ℕ). FollowIn (begin + segments_room Writable (before ++ s ∷ [])) end (flat_map (chained_in l k i.segments ws) (enumerate_from c rest))) count
    (segments_follow is k i ws begin (before ++ s ∷ []) rest at (all ∙ sym (append_assoc before (s ∷ []) rest)) spaced words start) in
    let own : List ℕ = chained_in l k i.segments ws (g, s) in
    follow_join (begin + segments_room Writable before) (begin + segments_room Writable (before ++ s ∷ [])) end own (flat_map (chained_in l k i.segments ws) (enumerate_from (g + 1) rest))
    (elim (cases_Bool (is_in Writable (mapping_of s))) [
      | inl is_own ↦
          let mapping : mapping_of s ≡ Some Writable = in_writable (mapping_of s) is_own in
          let file : (move_at l k g).file ≡ place_of is k g i Writable = ap (λ (v : Moved). v.file) (move_at-own is k g i s Writable there mapping) in
          let earlier : segments_room Writable (take g i.segments) ≡ segments_room Writable before = ap (segments_room Writable) taken in
          let here : begin_at is k g ≡ begin + segments_room Writable before = omega (arith, file, earlier, start) in
          let size = room_writable s mapping in
          subst (λ (n : ℕ). FollowIn (begin + segments_room Writable before) n own) (omega (arith, here, size, room))
          (segment_follows is k g i s ws 0 (begin + segments_room Writable before) at found mapping spaced words (omega (arith, here)) (omega (arith, here)))
      | inr other ↦
          let none = not_writable (mapping_of s) (paged s.vmsize) other in
          subst (λ (xs : List ℕ). FollowIn (begin + segments_room Writable before) (begin + segments_room Writable (before ++ s ∷ [])) xs) (sym (segment_none is k g i s ws at found none.1 words)) (omega (arith, room))
    ])
    later

-- ---- and of all images

images_follow : (set : ImageSet) (placed : List (List PlacedWord)) (headers : List (List ℕ)) (before rest : List Img) → IsPlanned set placed headers → set.images ≡ before ++ rest
    → FollowIn (image_start set.images before Writable - mapping_start Writable set.images) (images_room Writable set.images) (flat_map (λ (p : Plan). p.words) (plans_from set placed (length before) rest))
unfolding plan_of
images_follow set placed headers before [] given all =
    let whole : images_room Writable set.images ≡ images_room Writable before = ap (images_room Writable) (all ∙ append-nil before) in
    omega (arith, whole)
images_follow set placed headers before (i ∷ rest) given all =
    let is : List Img = set.images in
    let l : Laid = layout_of is in
    let k : ℕ = length before in
    let n : IsNext set Writable before rest i = next_of set placed headers Writable before rest i given all in
    let at : IsAt is k i = n.at in
    let image : slice_get is k ≡ Some i = slice_get_read is (length is) k i refl at.lt at.at in
    let long : k < length set.streams = omega (arith, at.lt, given.sound.many) in
    let none : StreamLists = record { rebases = []; binds = []; references = []; exports = [] } in
    let s : StreamLists = get_or set.streams k none in
    let streams : slice_get set.streams k ≡ Some s = slice_get-get_or set.streams k none long in
    let sound = given.sound.streams k i s image streams in
    let ws : List PlacedWord = slice_index_or placed k [] in
    let words : All (λ (w : PlacedWord). IsWord i w.at) ws = placed_words set k i s ws sound streams (placed_at set placed given.placed_all k at.lt) in
    let spaced : SpacedFrom 0 ws = spaced_from 0 ws (words_spaced set k i s ws sound streams (placed_at set placed given.placed_all k at.lt)) (λ d some. omega arith) in
    let range : l.writable.at ≡ mapping_start Writable is = ap (λ (r : Span). r.at) (range_in-is is Writable) in
    let begin : ℕ = image_start is before Writable - mapping_start Writable is in
    let after : List Img = before ++ i ∷ [] in
    let own : FollowIn (begin + 0) (begin + segments_room Writable i.segments) (chained_words l k i.segments ws) =
    segments_follow is k i ws begin [] i.segments at refl spaced words (omega (arith, range, n.start)) in
    let lowered : FollowIn begin (image_start is after Writable - mapping_start Writable is) (chained_words l k i.segments ws) =
    subst (λ (x : ℕ). FollowIn begin x (chained_words l k i.segments ws)) (omega (arith, n.next)) (subst (λ (x : ℕ). FollowIn x (begin + segments_room Writable i.segments) (chained_words l k i.segments ws)) (omega arith) own) in
    let later : FollowIn (image_start is after Writable - mapping_start Writable is) (images_room Writable is) (flat_map (λ (p : Plan). p.words) (plans_from set placed (k + 1) rest)) =
    subst (λ (c : ℕ). FollowIn (image_start is after Writable - mapping_start Writable is) (images_room Writable is) (flat_map (λ (p : Plan). p.words) (plans_from set placed c rest))) n.count (images_follow set placed headers after rest given n.rest_all) in
    follow_join begin (image_start is after Writable - mapping_start Writable is) (images_room Writable is) (chained_words l k i.segments ws) (flat_map (λ (p : Plan). p.words) (plans_from set placed (k + 1) rest)) lowered later

-- The chained words of all images, one after another, follow each other in the data.
pub words_follow : (set : ImageSet) (placed : List (List PlacedWord)) (headers : List (List ℕ)) → IsPlanned set placed headers
    → FollowIn 0 (layout_of set.images).writable.len (flat_map (λ (p : Plan). p.words) (plans_of (layout_of set.images) set placed))
unfolding plans_of
words_follow set placed headers given =
    let is : List Img = set.images in
    let len : images_room Writable is ≡ (layout_of is).writable.len = sym (ap (λ (r : Span). r.len) (range_in-is is Writable)) in
    let words : List ℕ = flat_map (λ (p : Plan). p.words) (plans_from set placed 0 is) in
    subst (λ (n : ℕ). FollowIn 0 n words) len (subst (λ (n : ℕ). FollowIn n (images_room Writable is) words) (omega arith) (images_follow set placed headers [] is given refl))

-- images have headers of their own
pub own_sized : (is : List Img) → AreSized (map (λ (i : Img). i.header) is) is
own_sized is k image found =
    let lt : k < length is = slice_get_within is k image found in
    ap (λ (h : List ℕ). length h) (get_or-map (λ (i : Img). i.header) is k image [] lt ∙ ap (λ (i : Img). i.header) (get_or_from_slice_get is k image image found))

pub made_follow : (l : Laid) (set : ImageSet) (placed : List (List PlacedWord)) (plans : List Plan) (headers : List (List ℕ)) → IsLayout l set.images → plans ≡ plans_of l set placed → IsPlanned set placed headers
    → FollowIn 0 l.writable.len (flat_map (λ (p : Plan). p.words) plans)
made_follow l set placed plans headers layout made given =
    let same : plans ≡ plans_of (layout_of set.images) set placed = made ∙ ap (λ (laid : Laid). plans_of laid set placed) layout.is in
    subst (λ (laid : Laid). FollowIn 0 laid.writable.len (flat_map (λ (p : Plan). p.words) plans)) (sym layout.is)
    (subst (λ (ps : List Plan). FollowIn 0 (layout_of set.images).writable.len (flat_map (λ (p : Plan). p.words) ps)) (sym same) (words_follow set placed headers given))
