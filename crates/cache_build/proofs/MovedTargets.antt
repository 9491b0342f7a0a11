-- An export of an image leads to the same place of the image with its segments moved.
use Rattle.std.proofs.Common.{◌≡◌, ◌≤◌, ◌<◌, ℕ, zero, suc, ◌+◌, ◌-◌, ◌^◌, Bool, true, false, Option, Some, None, List, [], ◌∷◌, length, map, get_or, refl, sym, ap, ap₂, ◌∙◌, arith, if◌then◌else◌}
use Rattle.std.specs.Prelude.{option_map, slice_get, position, unwrap_or}
use Rattle.std.proofs.lemmas.List.{length-map, get_or-map}
use Rattle.std.proofs.lemmas.Option.{same_Some, slice_get_read, slice_get_within, get_or_from_slice_get}
use Rattle.macho_image.specs.Breaks.{IsSound}
use Rattle.macho_image.specs.Places.{wrap}
use Rattle.macho_image.specs.Records.{Img, Seg}
use Rattle.macho_image.specs.Rules.{is_linkedit_segment}
use Rattle.macho_image.specs.Segments.{header_address, inside, segments_in}
use Rattle.macho_image.specs.declared.place.Moved.{Moved}
use Rattle.macho_image.specs.declared.places.segment_index.Inside.{Inside}
use Rattle.macho_image.proofs.HeaderLaws.{some_segment, text_position, header_first}
use Rattle.macho_image.proofs.SegmentLaws.{inside_some, inside_here}
use Rattle.macho_image.proofs.SoundSegments.{segments_keep_apart}
use Rattle.macho_edit.specs.MovedImage.{seated, seated_all, moved_image}
use Rattle.macho_edit.specs.Placed.{places_of}
use Rattle.macho_edit.specs.Segments.{place_for}
use Rattle.macho_edit.specs.declared.segment.SegmentPlace.{SegmentPlace}
use Rattle.macho_edit.specs.declared.spots.LinkSpots.{LinkSpots}
use Rattle.macho_edit.proofs.PlaceLaws.{place_other}
use Rattle.export_trie.specs.Exports.{exports_of}
use Rattle.export_trie.specs.declared.export.Export.{Export}
use Rattle.export_trie.specs.declared.export.Target.{Target}
use Rattle.export_trie.specs.declared.export.Target.TheVariants.{Offset, Absolute, Reexport}
use Rattle.dep_closure.proofs.PositionLaws.{position-cons}
use Rattle.prebind.specs.Places.{address_of_export, is_linkedit_at, is_stray, strays, export_break}
use Rattle.prebind.specs.Sets.{StreamLists, lists_of, image_set}
use Rattle.cache_layout.proofs.SoundLaws.{sound_linkedit}
use Rattle.ref_rewrite.proofs.HomeLaws.{two_segments}
use Rattle.linkedit_merge.specs.Exports.{new_start, start_in, new_header, moved_offset, moved_target, moved_exports}
use Rattle.linkedit_merge.proofs.LeadLaws.{leads_along}
use Rattle.load_model.specs.Corresponds.{SameTarget, SameExports}
use Rattle.cache_build.proofs.MovedLaws.{GoLow, move_of, moved_start}
use Rattle.prebind.proofs.SameLaws.{unbroken}

-- an image whose segments can be moved so: there is a move for each, they end low, and the moved image breaks no rule
pub record IsMoved (image : Img) (moves : List Moved) (spots : LinkSpots) (b : List ℕ) : Type 0 where
  pub sound : IsSound image
  pub moved : IsSound (moved_image image moves spots b)
  pub one_each : length moves ≡ length image.segments
  pub low : GoLow moves image.segments

-- ---- where a segment goes

seated_there : (b : List ℕ) (spots : LinkSpots) (moves : List Moved) (ss : List Seg) (g : ℕ) (m : Moved) (s : Seg) → slice_get moves g ≡ Some m → slice_get ss g ≡ Some s → is_linkedit_segment s ≡ false
    → (t : Seg) × (slice_get (seated_all b (places_of spots moves ss) ss) g ≡ Some t) × (t.vmaddr ≡ m.address) × (t.vmsize ≡ s.vmsize)
seated_there b spots [] ss g m s to from other = absurd (cc)
seated_there b spots (n ∷ ns) [] g m s to from other = absurd (cc)
seated_there b spots (n ∷ ns) (t ∷ ts) zero m s to from other =
    let same : t ≡ s = same_Some t s from in
    let place = place_other spots n t.name t.vmsize (ap (λ (x : Seg). is_linkedit_segment x) same ∙ other) in (
      seated b (place_for spots n t.name t.vmsize) t,
      refl,
      ap (λ (p : SegmentPlace). p.address) place ∙ ap (λ (x : Moved). x.address) (same_Some n m to),
      ap (λ (p : SegmentPlace). p.vmsize) place ∙ ap (λ (x : Seg). x.vmsize) same,
    )
seated_there b spots (n ∷ ns) (t ∷ ts) (suc g) m s to from other = seated_there b spots ns ts g m s to from other

moved_there : (image : Img) (moves : List Moved) (spots : LinkSpots) (b : List ℕ) (g : ℕ) (m : Moved) (s : Seg) → slice_get moves g ≡ Some m → slice_get image.segments g ≡ Some s → is_linkedit_segment s ≡ false
    → (t : Seg) × (slice_get (moved_image image moves spots b).segments g ≡ Some t) × (t.vmaddr ≡ m.address) × (t.vmsize ≡ s.vmsize)
unfolding moved_image
moved_there image moves spots b g m s to from other = seated_there b spots moves image.segments g m s to from other

new_start_is : (moves : List Moved) (g : ℕ) (m : Moved) → slice_get moves g ≡ Some m → new_start moves g ≡ m.address
new_start_is moves g m to = ap (λ (o : Option Moved). unwrap_or (option_map (λ (x : Moved). x.address) o) 0) to

goes_low : (moves : List Moved) (ss : List Seg) (g : ℕ) (m : Moved) (s : Seg) → GoLow moves ss → slice_get moves g ≡ Some m → slice_get ss g ≡ Some s → is_linkedit_segment s ≡ false → m.address + s.vmsize ≤ 0x800000000000
goes_low moves ss g m s low to from other =
    let segment : get_or ss g s ≡ s = get_or_from_slice_get ss g s s from in
    let place : get_or moves g m ≡ m = get_or_from_slice_get moves g m m to in
    let end : (get_or moves g m).address + (get_or ss g s).vmsize ≤ 0x800000000000 = low g m s (slice_get_within moves g m to) (ap (λ (x : Seg). is_linkedit_segment x) segment ∙ other) in
    let a : (get_or moves g m).address ≡ m.address = ap (λ (x : Moved). x.address) place in
    let c : (get_or ss g s).vmsize ≡ s.vmsize = ap (λ (x : Seg). x.vmsize) segment in
    omega (arith, end, a, c)

-- ---- the header

-- it goes where the first segment does
record HasHeader (image : Img) (moves : List Moved) (moved : Img) : Type 0 where
  same : header_address moved.segments ≡ new_header image.segments moves
  low : new_header image.segments moves ≤ 2 ^ 64

header_goes : (image : Img) (moves : List Moved) (spots : LinkSpots) (b : List ℕ) → IsMoved image moves spots b → HasHeader image moves (moved_image image moves spots b)
unfolding new_header
header_goes image moves spots b is =
    let first = some_segment image is.sound in
    let s : Seg = first.0 in
    let move = move_of moves image.segments 0 s is.one_each first.1 in
    let some : 2 ≤ length image.segments = two_segments image is.sound in
    let own : s ≡ get_or image.segments 0 s = sym (get_or_from_slice_get image.segments 0 s s first.1) in
    let other : is_linkedit_segment s ≡ false = (sound_linkedit image is.sound 0 s (omega (arith, some)) own).0 (omega (arith, some)) in
    let to : new_header image.segments moves ≡ move.0.address = ap (λ (o : Option ℕ). start_in moves o) (text_position image is.sound) ∙ new_start_is moves 0 move.0 move.1 in
    let end : move.0.address + s.vmsize ≤ 0x800000000000 = goes_low moves image.segments 0 move.0 s is.low move.1 first.1 other in
    record {
      same = header_first (moved_image image moves spots b) is.moved ∙ (moved_start image moves spots b 0 move.0 s is.one_each move.1 first.1 other ∙ sym to);
      low = omega (arith, to, end);
    }

-- ---- an offset

same_place : (segment d e : ℕ) → d ≡ e → (let o : Option Inside = Some (record { segment = segment; distance = d }) in o) ≡ Some (record { segment = segment; distance = e })
same_place segment d e is = ap (λ (n : ℕ). let o : Option Inside = Some (record { segment = segment; distance = n }) in o) is

goes_along : (image : Img) (moves : List Moved) (spots : LinkSpots) (b : List ℕ) → IsMoved image moves spots b → (offset : ℕ) (p : Inside) (s : Seg) → inside image.segments (address_of_export image.segments offset) ≡ Some p
    → slice_get image.segments p.segment ≡ Some s → p.distance < s.vmsize → is_linkedit_segment s ≡ false
    → inside (moved_image image moves spots b).segments (wrap (header_address (moved_image image moves spots b).segments + moved_offset image.segments moves offset)) ≡ Some p
goes_along image moves spots b is offset p s found from within other =
    let moved : Img = moved_image image moves spots b in
    let header : HasHeader image moves moved = header_goes image moves spots b is in
    let move = move_of moves image.segments p.segment s is.one_each from in
    let m : Moved = move.0 in
    let to = moved_there image moves spots b p.segment m s move.1 from other in
    let end : m.address + s.vmsize ≤ 0x800000000000 = goes_low moves image.segments p.segment m s is.low move.1 from other in
    let start : to.0.vmaddr ≡ m.address = to.2 in
    let size : to.0.vmsize ≡ s.vmsize = to.3 in
    let at : wrap (header_address (moved_image image moves spots b).segments + moved_offset image.segments moves offset) ≡ m.address + p.distance =
    ap (λ (n : ℕ). wrap (n + moved_offset image.segments moves offset)) header.same
    ∙ (leads_along image.segments moves offset p header.low found
    ∙ (ap (λ (n : ℕ). wrap (n + p.distance)) (new_start_is moves p.segment m move.1) ∙ omega (arith, end, within))) in
    ap (λ (x : ℕ). inside moved.segments x) at
    ∙ (inside_here moved.segments p.segment to.0 (m.address + p.distance) (segments_keep_apart moved is.moved) to.1 (omega (arith, start)) (omega (arith, start, size, within))
    ∙ same_place p.segment (m.address + p.distance - to.0.vmaddr) p.distance (omega (arith, start)))

-- ---- targets and exports

same_target : (image : Img) (moves : List Moved) (spots : LinkSpots) (b : List ℕ) → IsMoved image moves spots b → (t : Target) → strays image.segments t ≡ false
    → SameTarget image (moved_image image moves spots b) t (moved_target image.segments moves t)
same_target image moves spots b is (Offset offset) stays = go (inside image.segments (address_of_export image.segments offset)) refl stays
  where
    go : (found : Option Inside) → inside image.segments (address_of_export image.segments offset) ≡ found → is_stray image.segments found ≡ false
        → SameTarget image (moved_image image moves spots b) (Offset offset) (Offset (moved_offset image.segments moves offset))
    go None at stays = absurd (cc)
    go (Some p) at stays =
        let there = inside_some image.segments (address_of_export image.segments offset) p at in
        let other : is_linkedit_segment there.0 ≡ false = sym (ap (λ (o : Option Seg). is_linkedit_at o) there.1) ∙ stays in
        (p, at, goes_along image moves spots b is offset p there.0 at there.1 there.4 other)
same_target image moves spots b is (Absolute value) stays = refl
same_target image moves spots b is (Reexport ordinal name) stays = (refl, refl)

none_behind : (b : Bool) (o : Option ℕ) → (if b then Some 0 else option_map (λ (k : ℕ). k + 1) o) ≡ None → (b ≡ false) × (o ≡ None)
none_behind true o is = absurd (let e : ◌≡◌ {A = Option ℕ} (Some 0) None = is in cc)
none_behind false None is = (refl, refl)
none_behind false (Some n) is = absurd (let e : ◌≡◌ {A = Option ℕ} (Some (n + 1)) None = is in cc)

pub same_exports : (image : Img) (moves : List Moved) (spots : LinkSpots) (b : List ℕ) → IsMoved image moves spots b → (es : List Export) → position (λ (e : Export). strays image.segments e.target) es ≡ None
    → SameExports image (moved_image image moves spots b) es (moved_exports image.segments moves es)
same_exports image moves spots b is [] none = tt
same_exports image moves spots b is (e ∷ es) none =
    let parts = none_behind (strays image.segments e.target) (position (λ (f : Export). strays image.segments f.target) es) (sym (position-cons (λ (f : Export). strays image.segments f.target) e es) ∙ none) in
    (refl, refl, same_target image moves spots b is e.target parts.0, same_exports image moves spots b is es parts.1)

-- ---- the exports of an image of a set lead inside its segments

pub none_strays : (is : List Img) (k : ℕ) (i : Img) → k < length is → i ≡ get_or is k i → export_break (image_set is) k ≡ None → position (λ (e : Export). strays i.segments e.target) (exports_of i.streams.exports) ≡ None
unfolding export_break image_set lists_of
none_strays is k i lt at none =
    let segments : segments_in (slice_get is k) ≡ i.segments = ap segments_in (slice_get_read is (length is) k i refl lt at) in
    let exports : get_or (map (λ (s : StreamLists). exports_of s.exports) (map lists_of is)) k [] ≡ exports_of i.streams.exports =
    get_or-map (λ (s : StreamLists). exports_of s.exports) (map lists_of is) k (lists_of i) [] (omega (arith, lt, length-map is lists_of))
    ∙ ap (λ (s : StreamLists). exports_of s.exports) (get_or-map lists_of is k i (lists_of i) lt ∙ ap lists_of (sym at)) in
    sym (ap₂ (λ (ss : List Seg) (es : List Export). position (λ (e : Export). strays ss e.target) es) segments exports)
    ∙ unbroken k (position (λ (e : Export). strays (segments_in (slice_get is k)) e.target) (get_or (map (λ (s : StreamLists). exports_of s.exports) (map lists_of is)) k [])) none
