-- The plans of a set, once each has its header, are for the ranges of the set's layout: the images' parts follow one another, and all that is written for an image lies in its parts.
use Rattle.std.proofs.Common.{◌≡◌, ◌≤◌, ◌<◌, ◌⊎◌, ℕ, ◌+◌, ◌-◌, Bool, true, false, not, Option, Some, None, List, [], ◌∷◌, ◌++◌, length, map, filter, take, get_or, refl, sym, ap, ◌∙◌, subst, arith, inl, inr, append_assoc, length-append}
use Rattle.std.specs.Prelude.{slice_get, slice_index_or, position}
use Rattle.std.specs.List.{All, enumerate_from}
use Rattle.std.proofs.lemmas.List.{append-nil, take_at, get_or_default}
use Rattle.std.proofs.lemmas.List.Elements.{All-append, All-map, All-filter, All-same, filter_passes}
use Rattle.std.proofs.lemmas.List.FromFn.{length-enumerate_from, get_or-enumerate_from}
use Rattle.std.proofs.lemmas.List.Sums.{sum_by_push}
use Rattle.std.proofs.lemmas.Option.{slice_get_read, slice_get-get_or, slice_get_within, get_or_from_slice_get}
use Rattle.dsc_base.specs.Region.{paged}
use Rattle.dsc_base.specs.declared.edits.Edit.{Edit}
use Rattle.dsc_base.specs.declared.fault.Span.{Span}
use Rattle.dsc_base.specs.declared.rule.Rule.TheVariants.{SplitOverlap}
use Rattle.dsc_base.specs.Edits.{AllFit}
use Rattle.dsc_base.specs.Refusals.{broken}
use Rattle.macho_image.specs.Records.{Seg, Img}
use Rattle.macho_image.specs.Rules.{is_linkedit_segment}
use Rattle.macho_image.specs.Breaks.{IsSound}
use Rattle.macho_image.specs.declared.place.Location.{Location}
use Rattle.macho_image.specs.declared.place.Moved.{Moved}
use Rattle.macho_image.specs.Places.{IsWord, above}
use Rattle.macho_image.specs.Segments.{start_of, is_text_segment}
use Rattle.macho_image.proofs.AboveLaws.{above_plain}
use Rattle.macho_image.proofs.HeaderLaws.{text_position}
use Rattle.macho_image.proofs.Unbroken.{or_none, broken_none}
use Rattle.bind_ops.specs.Binds.{places_of}
use Rattle.split_info.specs.declared.reference.Reference.{Reference}
use Rattle.split_info.specs.declared.reference.RefKind.{RefKind}
use Rattle.split_info.specs.declared.reference.RefKind.TheVariants.{Pointer64, Delta32, Delta64, ImageOff32}
use Rattle.split_info.specs.References.{width_of}
use Rattle.split_info.specs.Split.{references_of, spelled_of, reading_break, split_break, IsReference, AreReferences}
use Rattle.split_info.specs.Overlap.{overlap_at}
use Rattle.split_info.proofs.AcceptLaws.{accepted}
use Rattle.prebind.specs.declared.resolved.PlacedWord.{PlacedWord}
use Rattle.prebind.specs.Sets.{StreamLists, ImageSet, IsSplitRead, IsSoundSet}
use Rattle.prebind.specs.Words.{Word, pointer_word, reference_word, is_no_pointer, streams_in, streams_at}
use Rattle.cache_layout.specs.declared.mapping.Mapping.{Mapping}
use Rattle.cache_layout.specs.declared.mapping.Mapping.TheVariants.{Text, Writable, Fixed}
use Rattle.cache_layout.specs.Places.{segments_room, images_room, mapping_start, image_start, numbered}
use Rattle.cache_layout.specs.Layouts.{Laid, layout_of, layout_break}
use Rattle.cache_layout.specs.Apart.{IsSegment, AreInTurn, move_at, range_in}
use Rattle.cache_layout.proofs.NumberedLaws.{numbered-get, length-numbered}
use Rattle.cache_layout.proofs.PlaceLaws.{place_of, mapped, move_at-own, range_in-is, are_in_turn, are_within}
use Rattle.cache_layout.proofs.RoomLaws.{paged-covers}
use Rattle.cache_layout.proofs.SoundLaws.{sound_linkedit}
use Rattle.cache_layout.proofs.SpaceLaws.{sound_space}
use Rattle.cache_layout.proofs.SpanLaws.{place-starts, place-in_image}
use Rattle.ref_rewrite.specs.Moving.{move_or_none, header_move, new_offset, edit_of}
use Rattle.ref_rewrite.specs.Plans.{Part, Plan, Follows, IsInside, IsOwn, IsSoundPlan, Fit}
use Rattle.ref_rewrite.specs.Planned.{AreSplitRead, IsLayout, is_copied, copy_of, copies_of, words_with, span_in, plan_of, plan_in, plans_of, AreSized, with_header, with_headers}
use Rattle.ref_rewrite.proofs.HomeLaws.{bytes_fit, header_fits, two_segments, section_owned}
use Rattle.ref_rewrite.proofs.PlacedLaws.{placed_words}
use Rattle.prebind.specs.Placed.{AreListsPlaced}
use Rattle.prebind.proofs.PlacedLists.{placed_at}

-- ---- where segments stand

abbrev pub segment_there : (is : List Img) (k g : ℕ) (i : Img) (s : Seg) → k < length is → i ≡ get_or is k i → slice_get i.segments g ≡ Some s → IsSegment is k g i s
segment_there is k g i s lt at found = record { image_in = lt; image_is = at; segment_in = slice_get_within i.segments g s found; segment_is = sym (get_or_from_slice_get i.segments g s s found) }

-- bytes at a distance in a segment's pages lie in its image's part of a mapping
pub seat : (is : List Img) (k g : ℕ) (i : Img) (s : Seg) (d n : ℕ) → IsSegment is k g i s → is_linkedit_segment s ≡ false → d + n ≤ paged s.vmsize
    → (m : Mapping) × IsInside (span_in m is k i) ((move_at (layout_of is) k g).file + d) n
seat is k g i s d n there other fits =
    let m = mapped s other in
    let file : (move_at (layout_of is) k g).file ≡ place_of is k g i m.0 = ap (λ (v : Moved). v.file) (move_at-own is k g i s m.0 there m.1) in
    let start = place-starts m.0 is k g i in
    let end = place-in_image is k g i s m.0 there m.1 in
    (m.0, (omega (arith, file, start), omega (arith, file, end, fits)))

-- an address of a segment is as far behind the segment's place in the file as it is behind its start
pub offset_is : (is : List Img) (k g : ℕ) (i : Img) (s : Seg) (address : ℕ) → layout_break is ≡ None → IsSound i → k < length is → i ≡ get_or is k i → slice_get i.segments g ≡ Some s → is_linkedit_segment s ≡ false
    → s.vmaddr ≤ address → address ≤ s.vmaddr + s.vmsize → new_offset (layout_of is) k i.segments g address ≡ (move_at (layout_of is) k g).file + (address - s.vmaddr)
unfolding new_offset
offset_is is k g i s address none sound lt at found other from to =
    let there : IsSegment is k g i s = segment_there is k g i s lt at found in
    let space = sound_space i sound g s there.segment_in there.segment_is in
    let within = are_within is none k g i s there other in
    let start : start_of (slice_get i.segments g) ≡ s.vmaddr = ap start_of found in
    let far : above (start_of (slice_get i.segments g)) address ≡ address - s.vmaddr =
    ap (λ (a : ℕ). above a address) start ∙ above_plain s.vmaddr address from (omega (arith, to, space.1)) in
    let covers = paged-covers s.vmsize in
    omega (arith, far, within.2.end, within.2.span, to, from, covers)

-- ---- what is written for an image

pub own_inside : (l : Laid) (is : List Img) (k : ℕ) (i : Img) (st : StreamLists) (placed : List PlacedWord) (headers : List (List ℕ)) (m : Mapping) (at n : ℕ) → IsInside (span_in m is k i) at n → IsOwn (with_header headers k (plan_of l is k i st placed)) at n
unfolding plan_of
own_inside l is k i st placed headers Text at n inside = inl inside
own_inside l is k i st placed headers Writable at n inside = inr (inl inside)
own_inside l is k i st placed headers Fixed at n inside = inr (inr inside)

-- the parts of a plan of image k of a layout
pub record IsAt (is : List Img) (k : ℕ) (i : Img) : Type 0 where
  pub none : layout_break is ≡ None
  pub lt : k < length is
  pub at : i ≡ get_or is k i
  pub sound : IsSound i

abbrev pub Owns : List Img → ℕ → Img → ℕ → ℕ → Type 0
Owns is k i at n = (m : Mapping) × IsInside (span_in m is k i) at n

copy_owned : (is : List Img) (k : ℕ) (i : Img) (p : ℕ × Seg) → IsAt is k i → slice_get i.segments p.0 ≡ Some p.1 → is_copied p ≡ true → Owns is k i (copy_of (layout_of is) k p).at (length (copy_of (layout_of is) k p).bytes)
copy_owned is k i p at found copied =
    let there : IsSegment is k p.0 i p.1 = segment_there is k p.0 i p.1 at.lt at.at found in
    let few = bytes_fit i at.sound p.0 p.1 there.segment_in there.segment_is in
    let seated = seat is k p.0 i p.1 0 (length (p.1).bytes) there (other (is_linkedit_segment p.1) copied) (omega (arith, few, paged-covers (p.1).vmsize)) in
    let file : ℕ = (move_at (layout_of is) k p.0).file in
    (seated.0, (omega (arith, seated.1.0), omega (arith, seated.1.1)))
  where
    other : (b : Bool) → not b ≡ true → b ≡ false
    other true e = absurd (cc)
    other false e = refl

numbers_are : (xs : List Seg) → All (λ (p : ℕ × Seg). slice_get xs p.0 ≡ Some p.1) (enumerate_from 0 xs)
numbers_are xs j d lt =
    let inside : j < length xs = omega (arith, lt, length-enumerate_from 0 xs) in
    let number : 0 + j ≡ j = omega arith in
    subst (λ (p : ℕ × Seg). slice_get xs p.0 ≡ Some p.1) (sym (get_or-enumerate_from 0 xs j d inside))
    (ap (λ (n : ℕ). slice_get xs n) number ∙ slice_get-get_or xs j d.1 inside)

copies_owned : (is : List Img) (k : ℕ) (i : Img) → IsAt is k i → All (λ (c : Part). Owns is k i c.at (length c.bytes)) (copies_of (layout_of is) k i.segments)
copies_owned is k i at =
    let kept : List (ℕ × Seg) = filter is_copied (enumerate_from 0 i.segments) in
    All-map (λ (c : Part). Owns is k i c.at (length c.bytes)) (copy_of (layout_of is) k) kept
    (λ j d lt. copy_owned is k i (get_or kept j d) at
    (All-filter is_copied (λ (p : ℕ × Seg). slice_get i.segments p.0 ≡ Some p.1) (enumerate_from 0 i.segments) (numbers_are i.segments) j d lt)
    (filter_passes is_copied (enumerate_from 0 i.segments) j d lt))

header_owned : (is : List Img) (k n : ℕ) (i : Img) → IsAt is k i → n ≡ length i.header → Owns is k i (header_move (layout_of is) k i.segments).file n
unfolding header_move
header_owned is k n i at long =
    let l : Laid = layout_of is in
    let two = two_segments i at.sound in
    let d : Seg = record { name = []; vmaddr = 0; vmsize = 0; fileoff = 0; filesize = 0; maxprot = 0; initprot = 0; flags = 0; bytes = [] } in
    let s : Seg = get_or i.segments 0 d in
    let some : 0 < length i.segments = omega (arith, two) in
    let own : s ≡ get_or i.segments 0 s = get_or_default i.segments 0 d s some in
    let there : IsSegment is k 0 i s = record { image_in = at.lt; image_is = at.at; segment_in = some; segment_is = own } in
    let other = (sound_linkedit i at.sound 0 s some own).0 (omega (arith, two)) in
    let room = header_fits i at.sound s some own in
    let few = bytes_fit i at.sound 0 s some own in
    let seated = seat is k 0 i s 0 n there other (omega (arith, long, room, few, paged-covers s.vmsize)) in
    let move : (move_or_none l k (position is_text_segment i.segments)).file ≡ (move_at l k 0).file = ap (λ (o : Option ℕ). (move_or_none l k o).file) (text_position i at.sound) in
    (seated.0, (omega (arith, move, seated.1.0), omega (arith, move, seated.1.1)))

word_owned : (is : List Img) (k g : ℕ) (i : Img) (s : Seg) (address n : ℕ) → IsAt is k i → slice_get i.segments g ≡ Some s → is_linkedit_segment s ≡ false → s.vmaddr ≤ address → address + n ≤ s.vmaddr + s.vmsize
    → Owns is k i (new_offset (layout_of is) k i.segments g address) n
word_owned is k g i s address n at found other from to =
    let there : IsSegment is k g i s = segment_there is k g i s at.lt at.at found in
    let place = offset_is is k g i s address at.none at.sound at.lt at.at found other from (omega (arith, to)) in
    let seated = seat is k g i s (address - s.vmaddr) n there other (omega (arith, from, to, paged-covers s.vmsize)) in
    (seated.0, (omega (arith, place, seated.1.0), omega (arith, place, seated.1.1)))

pointer_owned : (is : List Img) (k : ℕ) (i : Img) (w : Location) → IsAt is k i → IsWord i w → Owns is k i (new_offset (layout_of is) k i.segments w.segment w.address) 8
pointer_owned is k i w at word =
    let other = section_owned i at.sound (w.section - 1) word.section word.segment word.section_is (ap (λ (g : ℕ). slice_get i.segments g) word.in_segment ∙ word.segment_is) in
    word_owned is k w.segment i word.segment w.address 8 at word.segment_is other word.from word.to

reference_owned : (is : List Img) (k : ℕ) (i : Img) (rebases : List Location) (r : Reference) → IsAt is k i → IsReference i rebases r → Owns is k i (new_offset (layout_of is) k i.segments r.from_segment r.from) (width_of r.kind)
reference_owned is k i rebases r at is_one =
    let other = section_owned i at.sound is_one.index is_one.section is_one.segment is_one.section_is (ap (λ (g : ℕ). slice_get i.segments g) is_one.in_segment ∙ is_one.segment_is) in
    word_owned is k r.from_segment i is_one.segment r.from (width_of r.kind) at is_one.segment_is other is_one.from is_one.to

-- references that were read are sound, and keep apart from each other and from the words
pub references_accepted : (i : Img) (st : StreamLists) → IsSound i → IsSplitRead i st → AreReferences i st.rebases (places_of st.binds) st.references
unfolding split_break
references_accepted i st sound read =
    let bound : List Location = places_of st.binds in
    let parts = or_none (reading_break st.rebases 0 (spelled_of i.streams.split i)) (broken SplitOverlap (overlap_at st.rebases bound (references_of i.streams.split i))) read.accepted in
    subst (λ (rs : List Reference). AreReferences i st.rebases (places_of st.binds) rs) (sym read.is)
    (accepted i i.streams.split st.rebases bound sound parts.0 (broken_none SplitOverlap (overlap_at st.rebases bound (references_of i.streams.split i)) parts.1))

pub references_are : (i : Img) (st : StreamLists) → IsSound i → IsSplitRead i st → All (IsReference i st.rebases) st.references
references_are i st sound read = (references_accepted i st sound read).all

words_owned : (is : List Img) (k : ℕ) (i : Img) (st : StreamLists) (placed : List PlacedWord) → IsAt is k i → IsSplitRead i st → All (λ (w : PlacedWord). IsWord i w.at) placed
    → All (λ (w : Word). Owns is k i (new_offset (layout_of is) k i.segments w.at.segment w.at.address) (width_of w.kind)) (words_with k i st placed)
words_owned is k i st placed at read words =
    let P : Word → Type 0 = λ w. Owns is k i (new_offset (layout_of is) k i.segments w.at.segment w.at.address) (width_of w.kind) in
    let references : List Reference = filter is_no_pointer st.references in
    All-append P (map pointer_word placed) (map (reference_word k i.sections i.segments) references)
    (All-map P pointer_word placed (λ j d lt. pointer_owned is k i (get_or placed j d).at at (words j d lt)))
    (All-map P (reference_word k i.sections i.segments) references
    (λ j d lt. reference_owned is k i st.rebases (get_or references j d) at (All-filter is_no_pointer (IsReference i st.rebases) st.references (references_are i st at.sound read) j d lt)))

width_cases : (kind : RefKind) → (width_of kind ≡ 4) ⊎ (width_of kind ≡ 8)
width_cases Pointer64 = inr refl
width_cases Delta32 = inl refl
width_cases Delta64 = inr refl
width_cases ImageOff32 = inl refl

-- ---- one plan, and all of them

sound_plan : (is : List Img) (k : ℕ) (i : Img) (st : StreamLists) (placed : List PlacedWord) (headers : List (List ℕ)) → IsAt is k i → IsSplitRead i st → All (λ (w : PlacedWord). IsWord i w.at) placed
    → length (slice_index_or headers k []) ≡ length i.header → AllFit (plan_of (layout_of is) is k i st placed).edits → IsSoundPlan (with_header headers k (plan_of (layout_of is) is k i st placed))
unfolding plan_of
sound_plan is k i st placed headers at read words long fits =
    let l : Laid = layout_of is in
    let p : Plan = with_header headers k (plan_of l is k i st placed) in
    let own : (at n : ℕ) → Owns is k i at n → IsOwn p at n = λ at n owned. own_inside l is k i st placed headers owned.0 at n owned.1 in
    let ws : List Word = words_with k i st placed in
    record {
      copies = λ j d lt. own (get_or (copies_of l k i.segments) j d).at (length (get_or (copies_of l k i.segments) j d).bytes) (copies_owned is k i at j d lt);
      header = own (header_move l k i.segments).file (length (slice_index_or headers k [])) (header_owned is k (length (slice_index_or headers k [])) i at long);
      edits = All-map (λ (e : Edit). IsOwn p e.at e.width) (edit_of l k i.segments) ws
          (λ j d lt. let w : Word = get_or ws j d in own (new_offset l k i.segments w.at.segment w.at.address) (width_of w.kind) (words_owned is k i st placed at read words j d lt));
      widths = All-map (λ (e : Edit). (e.width ≡ 4) ⊎ (e.width ≡ 8)) (edit_of l k i.segments) ws (λ j d lt. width_cases (get_or ws j d).kind);
      values = fits;
    }

-- numbered twice is numbered once
pub numbered_twice : {X Y Z : Type 0} (f : ℕ → Y → Z) (g : ℕ → X → Y) (xs : List X) → numbered f (numbered g xs) ≡ numbered (λ k x. f k (g k x)) xs
numbered_twice {X} {Y} {Z} f g xs = from 0 xs
  where
    from : (n : ℕ) (ys : List X) → map (λ (p : ℕ × Y). f p.0 p.1) (enumerate_from n (map (λ (p : ℕ × X). g p.0 p.1) (enumerate_from n ys))) ≡ map (λ (p : ℕ × X). f p.0 (g p.0 p.1)) (enumerate_from n ys)
    from n [] = refl
    from n (y ∷ ys) = ap (λ (zs : List Z). f n (g n y) ∷ zs) (from (n + 1) ys)

-- the images' parts of a mapping follow one another
follow_from : (span : Plan → Span) (m : Mapping) (is : List Img) (made : ℕ → Img → Plan) → ((k : ℕ) (i : Img) → span (made k i) ≡ span_in m is k i) → (before rest : List Img) → is ≡ before ++ rest
    → Follows span (image_start is before m) (mapping_start m is + images_room m is) (map (λ (p : ℕ × Img). made p.0 p.1) (enumerate_from (length before) rest))
follow_from span m is made spans before [] all = ap (λ (xs : List Img). mapping_start m is + images_room m xs) (sym (all ∙ append-nil before))
follow_from span m is made spans before (i ∷ rest) all =
    let n : ℕ = length before in
    let front : take n is ≡ before = ap (take n) all ∙ take_at before (i ∷ rest) n refl in
    let at : (span (made n i)).at ≡ image_start is before m = ap (λ (s : Span). s.at) (spans n i) ∙ ap (λ (xs : List Img). image_start is xs m) front in
    let long : (span (made n i)).len ≡ segments_room m i.segments = ap (λ (s : Span). s.len) (spans n i) in
    let more : images_room m (before ++ i ∷ []) ≡ images_room m before + segments_room m i.segments = sum_by_push (λ (j : Img). segments_room m j.segments) before i in
    let next : image_start is (before ++ i ∷ []) m ≡ image_start is before m + (span (made n i)).len = omega (arith, more, long) in
    let count : length (before ++ i ∷ []) ≡ n + 1 = omega (arith, length-append before (i ∷ [])) in
    let later = follow_from span m is made spans (before ++ i ∷ []) rest (all ∙ sym (append_assoc before (i ∷ []) rest)) in
    let plans : ℕ → List Plan = λ c. map (λ (p : ℕ × Img). made p.0 p.1) (enumerate_from c rest) in
    let end : ℕ = mapping_start m is + images_room m is in
    (at, subst (λ (c : ℕ). Follows span (image_start is before m + (span (made n i)).len) end (plans c)) count (subst (λ (from : ℕ). Follows span from end (plans (length (before ++ i ∷ [])))) next later))

follow_all : (span : Plan → Span) (m : Mapping) (is : List Img) (made : ℕ → Img → Plan) → ((k : ℕ) (i : Img) → span (made k i) ≡ span_in m is k i)
    → Follows span (range_in (layout_of is) m).at ((range_in (layout_of is) m).at + (range_in (layout_of is) m).len) (numbered made is)
follow_all span m is made spans =
    let range = range_in-is is m in
    let start : image_start is [] m ≡ (range_in (layout_of is) m).at = omega (arith, ap (λ (s : Span). s.at) range) in
    let end : mapping_start m is + images_room m is ≡ (range_in (layout_of is) m).at + (range_in (layout_of is) m).len = omega (arith, ap (λ (s : Span). s.at) range, ap (λ (s : Span). s.len) range) in
    subst (λ (n : ℕ). Follows span (range_in (layout_of is) m).at n (numbered made is)) end (subst (λ (n : ℕ). Follows span n (mapping_start m is + images_room m is) (numbered made is)) start (follow_from span m is made spans [] is refl))

-- what is given of the set and its plans
pub record IsPlanned (set : ImageSet) (placed : List (List PlacedWord)) (headers : List (List ℕ)) : Type 0 where
  pub sound : IsSoundSet set
  pub read : AreSplitRead set
  pub none : layout_break set.images ≡ None
  pub placed_all : AreListsPlaced set placed
  pub images : (k : ℕ) (i : Img) → k < length set.images → i ≡ get_or set.images k i → IsSound i
  pub sized : AreSized headers set.images
  pub values : (k : ℕ) (i : Img) → k < length set.images → i ≡ get_or set.images k i → AllFit (plan_in (layout_of set.images) set placed k i).edits

abbrev pub headed : ImageSet → List (List PlacedWord) → List (List ℕ) → ℕ → Img → Plan
headed set placed headers k i = with_header headers k (plan_in (layout_of set.images) set placed k i)

pub each_sound : (set : ImageSet) (placed : List (List PlacedWord)) (headers : List (List ℕ)) → IsPlanned set placed headers → (k : ℕ) (i : Img) → k < length set.images → i ≡ get_or set.images k i → IsSoundPlan (headed set placed headers k i)
each_sound set placed headers given k i lt at =
    let is : List Img = set.images in
    let image : slice_get is k ≡ Some i = slice_get_read is (length is) k i refl lt at in
    let long : k < length set.streams = omega (arith, lt, given.sound.many) in
    let none : StreamLists = record { rebases = []; binds = []; references = []; exports = [] } in
    let s : StreamLists = get_or set.streams k none in
    let streams : slice_get set.streams k ≡ Some s = slice_get-get_or set.streams k none long in
    let same : streams_at set k ≡ s = ap streams_in streams in
    let words = placed_words set k i s (slice_index_or placed k []) (given.sound.streams k i s image streams) streams (placed_at set placed given.placed_all k lt) in
    sound_plan is k i (streams_at set k) (slice_index_or placed k []) headers (record { none = given.none; lt = lt; at = at; sound = given.images k i lt at })
    (subst (λ (t : StreamLists). IsSplitRead i t) (sym same) (given.read k i s image streams)) words (given.sized k i image) (given.values k i lt at)

pub plans_fit : (set : ImageSet) (placed : List (List PlacedWord)) (headers : List (List ℕ)) → IsPlanned set placed headers
    → Fit (layout_of set.images).text.len (layout_of set.images).writable.len (layout_of set.images).fixed.len (with_headers headers (plans_of (layout_of set.images) set placed))
unfolding plans_of plan_of
plans_fit set placed headers given =
    let is : List Img = set.images in
    let l : Laid = layout_of is in
    let made : ℕ → Img → Plan = headed set placed headers in
    let turn : AreInTurn is l = are_in_turn is given.none in
    let all : List Plan = numbered made is in
    let same : with_headers headers (plans_of l set placed) ≡ all = numbered_twice (with_header headers) (plan_in l set placed) is in
    subst (λ (ps : List Plan). Fit l.text.len l.writable.len l.fixed.len ps) (sym same)
    (record {
      text_at = l.text.at;
      writable_at = l.writable.at;
      fixed_at = l.fixed.at;
      text_spans = follow_all (λ (p : Plan). p.text) Text is made (λ k i. refl);
      writable_spans = follow_all (λ (p : Plan). p.writable) Writable is made (λ k i. refl);
      fixed_spans = follow_all (λ (p : Plan). p.fixed) Fixed is made (λ k i. refl);
      text_end = omega (arith, turn.writable, turn.fixed, turn.span);
      writable_end = omega (arith, turn.writable, turn.fixed, turn.span);
      fixed_end = omega (arith, turn.writable, turn.fixed, turn.span);
      text_from_writable = λ at a b c d. omega (arith, turn.writable, a, b, c, d);
      text_from_fixed = λ at a b c d. omega (arith, turn.writable, turn.fixed, a, b, c, d);
      writable_from_fixed = λ at a b c d. omega (arith, turn.fixed, a, b, c, d);
      each = λ j d lt.
          let inside : j < length is = omega (arith, lt, length-numbered made is) in
          let i : Img = get_or is j no_image in
          let at : i ≡ get_or is j i = get_or_default is j no_image i inside in
          subst IsSoundPlan (sym (numbered-get made is j i d inside at)) (each_sound set placed headers given j i inside at);
    })
  where
    no_image : Img
    no_image = record {
      install_name = [];
      segments = [];
      sections = [];
      dependencies = [];
      streams = record { rebase = []; bind = []; weak = []; lazy = []; exports = []; split = None; function_starts = []; data_in_code = []; symbols = []; strings = []; indirect = [] };
      groups = [];
      uuid = [];
      has_dyld_info = false;
      header = [];
    }

-- plans that were made, with values that fit
pub made_planned : (l : Laid) (set : ImageSet) (placed : List (List PlacedWord)) (plans : List Plan) (headers : List (List ℕ)) → IsSoundSet set → AreSplitRead set → IsLayout l set.images → AreListsPlaced set placed → All IsSound set.images
    → plans ≡ plans_of l set placed → All (λ (p : Plan). AllFit p.edits) plans → AreSized headers set.images → IsPlanned set placed headers
unfolding plans_of
made_planned l set placed plans headers sound read layout placed_all images made fits sized =
    let is : List Img = set.images in
    let own : Laid = layout_of is in
    let same : plans ≡ plans_of own set placed = made ∙ ap (λ (laid : Laid). plans_of laid set placed) layout.is in
    let fitted : All (λ (p : Plan). AllFit p.edits) (numbered (plan_in own set placed) is) = All-same (λ (p : Plan). AllFit p.edits) (numbered (plan_in own set placed) is) plans (sym same) fits in
    record {
      sound = sound;
      read = read;
      none = layout.fits;
      placed_all = placed_all;
      images = λ k i lt at. subst IsSound (sym at) (images k i lt);
      sized = sized;
      values = λ k i lt at.
          let d : Plan = plan_in own set placed k i in
          subst (λ (p : Plan). AllFit p.edits) (numbered-get (plan_in own set placed) is k i d lt at) (fitted k d (omega (arith, lt, length-numbered (plan_in own set placed) is)));
    }

pub made_fit : (l : Laid) (set : ImageSet) (placed : List (List PlacedWord)) (plans : List Plan) (headers : List (List ℕ)) → IsLayout l set.images → plans ≡ plans_of l set placed → IsPlanned set placed headers
    → Fit l.text.len l.writable.len l.fixed.len (with_headers headers plans)
made_fit l set placed plans headers layout made given =
    let same : plans ≡ plans_of (layout_of set.images) set placed = made ∙ ap (λ (laid : Laid). plans_of laid set placed) layout.is in
    subst (λ (laid : Laid). Fit laid.text.len laid.writable.len laid.fixed.len (with_headers headers plans)) (sym layout.is)
    (subst (λ (ps : List Plan). Fit (layout_of set.images).text.len (layout_of set.images).writable.len (layout_of set.images).fixed.len (with_headers headers ps)) (sym same) (plans_fit set placed headers given))
