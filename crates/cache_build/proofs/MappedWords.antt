-- Each word of a set leads to its target once the cache is mapped.
use Rattle.std.proofs.Common.{◌≡◌, ◌≤◌, ◌<◌, ℕ, ◌+◌, ◌-◌, ◌*◌, ◌%◌, ◌^◌, true, false, Option, Some, None, List, [], ◌∷◌, length, get_or, refl, sym, ap, ◌∙◌, subst, arith, inl, inr}
use Rattle.std.specs.Prelude.{slice_get, slice_index_or, find}
use Rattle.std.proofs.lemmas.Bool.{cond-true, cond-false}
use Rattle.std.proofs.lemmas.Option.{same_Some, slice_get_within, get_or_from_slice_get, slice_get-get_or}
use Rattle.dsc_base.specs.Edits.{AllFit, IsAmong}
use Rattle.dsc_base.specs.Region.{region_start, paged}
use Rattle.dsc_base.specs.declared.edits.Edit.{Edit}
use Rattle.macho_image.specs.Records.{Seg, Img}
use Rattle.macho_image.specs.Breaks.{IsSound}
use Rattle.macho_image.specs.Rules.{is_linkedit_segment}
use Rattle.macho_image.specs.declared.place.Moved.{Moved}
use Rattle.macho_image.specs.declared.section.Section.{Section}
use Rattle.macho_image.specs.Places.{wrap}
use Rattle.macho_image.specs.Segments.{start_of, segments_in, header_address, is_text_segment}
use Rattle.macho_image.proofs.HeaderLaws.{text_position, first_is_text, some_segment}
use Rattle.macho_edit.specs.declared.segment.SegmentPlace.{SegmentPlace}
use Rattle.macho_edit.specs.declared.spots.LinkSpots.{LinkSpots}
use Rattle.macho_edit.specs.Placed.{places_of}
use Rattle.macho_edit.specs.MovedImage.{seated, seated_all, moved_image}
use Rattle.cache_layout.specs.declared.mapping.Mapping.{Mapping}
use Rattle.cache_layout.specs.declared.mapping.Mapping.TheVariants.{Text, Writable, Fixed}
use Rattle.cache_layout.specs.Layouts.{Laid, layout_of}
use Rattle.cache_layout.specs.Apart.{IsSegment, AreInTurn, move_at, range_in}
use Rattle.cache_layout.proofs.PlaceLaws.{are_in_turn, are_within, length-moves-of}
use Rattle.cache_layout.proofs.RoomLaws.{paged-covers}
use Rattle.cache_layout.proofs.SoundLaws.{sound_linkedit}
use Rattle.split_info.specs.declared.reference.RefKind.{RefKind}
use Rattle.split_info.specs.declared.reference.RefKind.TheVariants.{Pointer64, Delta32, Delta64, ImageOff32}
use Rattle.split_info.specs.References.{width_of}
use Rattle.prebind.specs.declared.resolved.WordTarget.{WordTarget}
use Rattle.prebind.specs.declared.resolved.WordTarget.TheVariants.{Place, Constant}
use Rattle.prebind.specs.Sets.{image_set}
use Rattle.prebind.specs.Numbers.{Starts, LeadsTo}
use Rattle.prebind.specs.Words.{Word}
use Rattle.load_model.specs.Memory.{HasNumber}
use Rattle.load_model.specs.Mapped.{mapped, cached_image}
use Rattle.load_model.specs.Corresponds.{Leads, mapped_starts, mapped_side}
use Rattle.load_model.proofs.NumberLaws.{address_on}
use Rattle.load_model.proofs.WordCases.{IsIn}
use Rattle.load_model.proofs.LoadedReferences.{width_holds}
use Rattle.linkedit_merge.specs.Linkedit.{linkedit_start}
use Rattle.ref_rewrite.specs.Moving.{new_starts, new_address, header_move, move_or_none, can_lead}
use Rattle.ref_rewrite.specs.Breaks.{rewrite_break}
use Rattle.ref_rewrite.specs.Planned.{leads_to_place}
use Rattle.ref_rewrite.proofs.LeadLaws.{new_number_leads}
use Rattle.ref_rewrite.proofs.HomeLaws.{two_segments}
use Rattle.ref_rewrite.proofs.FitLaws.{segment_there}
use Rattle.cache_build.specs.Cache.{no_spots, cache_of}
use Rattle.cache_build.proofs.BuildableSets.{IsAccepted, IsBuildable, set_edits, set_slide, set_span, set_spots, slid_of, slid_value}
use Rattle.cache_build.proofs.CacheFacts.{HasEdits, IsCache, moved_in, IsCachedImage}
use Rattle.cache_build.proofs.MovedLaws.{IsMovedSection, moved_section_at, moved_start}
use Rattle.cache_build.proofs.SetWords.{SetWord, set_words, edit_at, edit_among, at_cases, IsOfSet, of_set}
use Rattle.cache_build.proofs.CachedWords.{Stands, word_stands_at, address_is}
use Rattle.cache_build.proofs.ChainedWords.{IsChained, is_chained_at, chained_yes, chained_no}
use Rattle.cache_build.proofs.LedWords.{pointer_slid, reference_slid, reference_can, pointer_can}
use Rattle.cache_build.proofs.TargetPlaces.{IsOwn, LeadsToOwn, word_own}
use Rattle.cache_build.proofs.AcceptedSets.{exports_inside}
use Rattle.macho_edit.proofs.PlaceLaws.{length-places_of}

-- each image is read of the cache as the moved one
abbrev pub AreCached : ℕ → List Img → Type 0
AreCached bits is = (k : ℕ) (i : Img) → k < length is → i ≡ get_or is k i → IsCachedImage bits is k i

-- what is given of a set, its words and its cache
pub record IsCachedSet (bits : ℕ) (is : List Img) : Type 0 where
  pub ready : IsBuildable bits is
  pub edits : HasEdits bits is
  pub cache : IsCache bits is
  pub images : AreCached bits is

-- ---- where segments and headers are

pub move_there : (is : List Img) (k g : ℕ) (i : Img) (s : Seg) → k < length is → i ≡ get_or is k i → slice_get i.segments g ≡ Some s → slice_get (slice_index_or (layout_of is).moves k []) g ≡ Some (move_at (layout_of is) k g)
move_there is k g i s lt at got =
    let one_each : length (get_or (layout_of is).moves k []) ≡ length i.segments = length-moves-of is k i lt at in
    let below : g < length i.segments = slice_get_within i.segments g s got in
    slice_get-get_or (slice_index_or (layout_of is).moves k []) g (record { address = 0; file = 0 }) (omega (arith, below, one_each))

segment_moved : (bits : ℕ) (is : List Img) (k g : ℕ) (i : Img) (s : Seg) → k < length is → i ≡ get_or is k i → slice_get i.segments g ≡ Some s → is_linkedit_segment s ≡ false
    → start_of (slice_get (moved_in bits is k i).segments g) ≡ (move_at (layout_of is) k g).address
segment_moved bits is k g i s lt at got other =
    moved_start i (slice_index_or (layout_of is).moves k []) (slice_index_or (set_spots bits is) k no_spots) (slid_of bits is 0) g (move_at (layout_of is) k g) s (length-moves-of is k i lt at) (move_there is k g i s lt at got) got other

-- a segment starts where it goes, slid
started : (bits : ℕ) (is : List Img) → AreCached bits is → (slide k g : ℕ) → IsOwn is k g → mapped_starts (cached_image (cache_of bits is)) slide k g ≡ wrap (new_starts (layout_of is) k g + slide)
started bits is cached slide k g own =
    let i : Img = own.image in
    let lt : k < length is = slice_get_within is k own.image own.image_is in
    let at : own.image ≡ get_or is k own.image = sym (get_or_from_slice_get is k own.image own.image own.image_is) in
    let image : IsCachedImage bits is k own.image = cached k own.image lt at in
    ap (λ (o : Option Img). wrap (start_of (slice_get (segments_in o) g) + slide)) image.found
    ∙ ap (λ (n : ℕ). wrap (n + slide)) (segment_moved bits is k g i own.segment lt at own.segment_is own.owned)

front_header : (ss : List Seg) (s : Seg) → slice_get ss 0 ≡ Some s → is_text_segment s ≡ true → header_address ss ≡ start_of (slice_get ss 0)
unfolding header_address
front_header [] s got named = absurd (cc)
front_header (t ∷ ts) s got named =
    let same : t ≡ s = same_Some t s got in
    ap start_of (cond-true (is_text_segment t) (Some t) (find is_text_segment ts) (ap is_text_segment same ∙ named))

seated_first : (b : List ℕ) (ps : List SegmentPlace) (ss : List Seg) (s : Seg) → length ps ≡ length ss → slice_get ss 0 ≡ Some s → is_text_segment s ≡ true → (t : Seg) × (slice_get (seated_all b ps ss) 0 ≡ Some t) × (is_text_segment t ≡ true)
unfolding is_text_segment
seated_first b [] [] s long got named = absurd (cc)
seated_first b [] (t ∷ ss) s long got named = absurd (omega arith)
seated_first b (p ∷ ps) [] s long got named = absurd (cc)
seated_first b (p ∷ ps) (t ∷ ss) s long got named = (seated b p t, refl, ap is_text_segment (same_Some t s got) ∙ named)

moved_first : (i : Img) (moves : List Moved) (spots : LinkSpots) (b : List ℕ) (s : Seg) → length moves ≡ length i.segments → slice_get i.segments 0 ≡ Some s → is_text_segment s ≡ true
    → (t : Seg) × (slice_get (moved_image i moves spots b).segments 0 ≡ Some t) × (is_text_segment t ≡ true)
unfolding moved_image
moved_first i moves spots b s long got named = seated_first b (places_of spots moves i.segments) i.segments s (length-places_of spots moves i.segments long) got named

-- the header of the moved image is where the first segment goes
pub header_moved : (bits : ℕ) (is : List Img) (k : ℕ) (i : Img) → k < length is → i ≡ get_or is k i → IsSound i
    → (header_address (moved_in bits is k i).segments ≡ (move_at (layout_of is) k 0).address) × ((header_move (layout_of is) k i.segments).address ≡ (move_at (layout_of is) k 0).address)
unfolding header_move
header_moved bits is k i lt at sound =
    let first = some_segment i sound in
    let s : Seg = first.0 in
    let two = two_segments i sound in
    let some : 0 < length i.segments = omega (arith, two) in
    let own : first.0 ≡ get_or i.segments 0 first.0 = sym (get_or_from_slice_get i.segments 0 s s first.1) in
    let other : is_linkedit_segment first.0 ≡ false = (sound_linkedit i sound 0 s some own).0 (omega (arith, two)) in
    let moved = moved_first i (slice_index_or (layout_of is).moves k []) (slice_index_or (set_spots bits is) k no_spots) (slid_of bits is 0) s (length-moves-of is k i lt at) first.1 (first_is_text i sound s first.1) in (
      front_header (moved_in bits is k i).segments moved.0 moved.1 moved.2 ∙ segment_moved bits is k 0 i s lt at first.1 other,
      ap (λ (o : Option ℕ). (move_or_none (layout_of is) k o).address) (text_position i sound),
    )

header_low : (is : List Img) → IsAccepted is → (k : ℕ) (i : Img) → k < length is → i ≡ get_or is k i → IsSound i → (move_at (layout_of is) k 0).address < 2 ^ 64
header_low is accepted k i lt at sound =
    let first = some_segment i sound in
    let s : Seg = first.0 in
    let two = two_segments i sound in
    let some : 0 < length i.segments = omega (arith, two) in
    let own : first.0 ≡ get_or i.segments 0 first.0 = sym (get_or_from_slice_get i.segments 0 s s first.1) in
    let other : is_linkedit_segment first.0 ≡ false = (sound_linkedit i sound 0 s some own).0 (omega (arith, two)) in
    let within = are_within is accepted.layout k 0 i s (segment_there is k 0 i s lt at first.1) other in
    omega (arith, within.2.address, within.2.end, within.2.span)

-- ---- the bytes of a word

range_below : (is : List Img) → IsAccepted is → (m : Mapping) → (range_in (layout_of is) m).at + (range_in (layout_of is) m).len ≤ (layout_of is).fixed.at + (layout_of is).fixed.len
range_below is accepted Text = let turn : AreInTurn is (layout_of is) = are_in_turn is accepted.layout in omega (arith, turn.writable, turn.fixed)
range_below is accepted Writable = let turn : AreInTurn is (layout_of is) = are_in_turn is accepted.layout in omega (arith, turn.fixed)
range_below is accepted Fixed = omega arith

pub fixed_ends : (bits : ℕ) (is : List Img) → (layout_of is).fixed.at + (layout_of is).fixed.len ≤ set_span bits is
unfolding linkedit_start
fixed_ends bits is = let covers = paged-covers ((layout_of is).fixed.at + (layout_of is).fixed.len + length (set_slide bits is)) in omega (arith, covers)

-- segments end in the cache
pub segment_ends : (bits : ℕ) (is : List Img) → IsAccepted is → (k g : ℕ) (i : Img) (s : Seg) → IsSegment is k g i s → is_linkedit_segment s ≡ false → (move_at (layout_of is) k g).file + paged s.vmsize ≤ set_span bits is
segment_ends bits is accepted k g i s there other =
    let within = are_within is accepted.layout k g i s there other in
    omega (arith, within.2.end, range_below is accepted within.0, fixed_ends bits is)

pub edit_ends : (bits : ℕ) (is : List Img) → IsAccepted is → HasEdits bits is → (e : Edit) → IsAmong e (set_edits is) → e.at + e.width ≤ set_span bits is
edit_ends bits is accepted edits e among =
    let home = edits.within e among in
    omega (arith, home.2, range_below is accepted home.0, fixed_ends bits is)

number_there : (bits : ℕ) (is : List Img) → IsCachedSet bits is → (slide address : ℕ) (x : SetWord) → IsIn (set_words is) x → address ≡ region_start + (edit_at is x).at
    → HasNumber (width_of x.word.kind) (mapped (cache_of bits is) slide) (wrap (address + slide)) (slid_value is slide (edit_at is x))
number_there bits is set slide address x there place n lt =
    let e : Edit = edit_at is x in
    let among : IsAmong (edit_at is x) (set_edits is) = edit_among is x there in
    let end : (edit_at is x).at + (edit_at is x).width ≤ set_span bits is = edit_ends bits is set.ready.accepted set.edits e among in
    ap (mapped (cache_of bits is) slide) (address_on address slide n ∙ ap (λ (y : ℕ). wrap (y + slide)) (let same : address + n ≡ region_start + ((edit_at is x).at + n) = omega (arith, place) in same))
    ∙ (set.cache.mapped_byte slide (e.at + n) (omega (arith, end, lt)) ∙ ap (λ (b : ℕ). Some b) (set.cache.word_byte slide n e among lt))

-- ---- the numbers

fits_at : (es : List Edit) (e : Edit) → AllFit es → IsAmong e es → e.value < 256 ^ e.width
fits_at [] e fit among = absurd among
fits_at (d ∷ es) e fit (inl is) = subst (λ (x : Edit). x.value < 256 ^ x.width) (sym is) fit.0
fits_at (d ∷ es) e fit (inr later) = fits_at es e fit.1 later

-- the number of a word under a slide fits it and leads to its target
record IsLed (bits : ℕ) (is : List Img) (slide : ℕ) (x : SetWord) : Type 0 where
  fits : slid_value is slide (edit_at is x) < 2 ^ (8 * width_of x.word.kind)
  leads : LeadsTo (mapped_starts (cached_image (cache_of bits is)) slide) (wrap (new_address (layout_of is) x.number x.image.segments x.word.at.segment x.word.at.address + slide)) (wrap ((header_move (layout_of is) x.number x.image.segments).address + slide)) x.word.kind (slid_value is slide (edit_at is x)) x.word.target

-- one that isn't chained keeps its number
unchained : (bits : ℕ) (is : List Img) → IsCachedSet bits is → (slide : ℕ) (x : SetWord) → IsIn (set_words is) x → (IsChained x → ⊥) → slid_value is slide (edit_at is x) ≡ (edit_at is x).value
unchained bits is set slide x there free =
    let e : Edit = edit_at is x in
    cond-false (is_chained_at is e.at) ((e.value + slide) % 2 ^ 64) e.value (chained_no is set.ready.accepted set.edits.apart x there free)

kept_fits : (bits : ℕ) (is : List Img) → IsCachedSet bits is → (x : SetWord) → IsIn (set_words is) x → (edit_at is x).value < 2 ^ (8 * width_of x.word.kind)
kept_fits bits is set x there = width_holds x.word.kind (edit_at is x).value (fits_at (set_edits is) (edit_at is x) set.edits.fit (edit_among is x there))

leads_slid : (starts slid : Starts) (location header slide value number : ℕ) (kind : RefKind) (target : WordTarget) → LeadsTo starts location header kind value target
    → ((k g distance : ℕ) → target ≡ Place k g distance → slid k g ≡ wrap (starts k g + slide))
    → (kind ≡ Pointer64 → leads_to_place target ≡ true → number ≡ wrap (value + slide)) → ((kind ≡ Pointer64 → leads_to_place target ≡ true → ⊥) → number ≡ value)
    → LeadsTo slid (wrap (location + slide)) (wrap (header + slide)) kind number target
leads_slid starts slid location header slide value number Pointer64 (Place k g distance) leads moved raised kept =
    subst (λ (n : ℕ). LeadsTo slid (wrap (location + slide)) (wrap (header + slide)) Pointer64 n (Place k g distance)) (sym (raised refl refl))
    (pointer_slid starts slid location header slide value k g distance leads (moved k g distance refl))
leads_slid starts slid location header slide value number Delta32 (Place k g distance) leads moved raised kept =
    subst (λ (n : ℕ). LeadsTo slid (wrap (location + slide)) (wrap (header + slide)) Delta32 n (Place k g distance)) (sym (kept (λ is to. cc)))
    (reference_slid starts slid location header slide value k g distance Delta32 refl leads (moved k g distance refl))
leads_slid starts slid location header slide value number Delta64 (Place k g distance) leads moved raised kept =
    subst (λ (n : ℕ). LeadsTo slid (wrap (location + slide)) (wrap (header + slide)) Delta64 n (Place k g distance)) (sym (kept (λ is to. cc)))
    (reference_slid starts slid location header slide value k g distance Delta64 refl leads (moved k g distance refl))
leads_slid starts slid location header slide value number ImageOff32 (Place k g distance) leads moved raised kept =
    subst (λ (n : ℕ). LeadsTo slid (wrap (location + slide)) (wrap (header + slide)) ImageOff32 n (Place k g distance)) (sym (kept (λ is to. cc)))
    (reference_slid starts slid location header slide value k g distance ImageOff32 refl leads (moved k g distance refl))
leads_slid starts slid location header slide value number kind (Constant c) leads moved raised kept = kept (λ is to. cc) ∙ leads

fits_slid : (slide value number : ℕ) (kind : RefKind) (target : WordTarget) → value < 2 ^ (8 * width_of kind)
    → (kind ≡ Pointer64 → leads_to_place target ≡ true → number ≡ wrap (value + slide)) → ((kind ≡ Pointer64 → leads_to_place target ≡ true → ⊥) → number ≡ value) → number < 2 ^ (8 * width_of kind)
fits_slid slide value number Pointer64 (Place k g distance) small raised kept = let is : number ≡ wrap (value + slide) = raised refl refl in omega (arith, is)
fits_slid slide value number Delta32 (Place k g distance) small raised kept = let is : number ≡ value = kept (λ is to. cc) in omega (arith, is, small)
fits_slid slide value number Delta64 (Place k g distance) small raised kept = let is : number ≡ value = kept (λ is to. cc) in omega (arith, is, small)
fits_slid slide value number ImageOff32 (Place k g distance) small raised kept = let is : number ≡ value = kept (λ is to. cc) in omega (arith, is, small)
fits_slid slide value number kind (Constant c) small raised kept = subst (λ (n : ℕ). n < 2 ^ (8 * width_of kind)) (sym (kept (λ is to. cc))) small

own_target : (is : List Img) → IsAccepted is → (x : SetWord) → (stands : Stands is x) → IsOfSet is x → LeadsToOwn is x.word.target
unfolding image_set
own_target is accepted x stands own = word_own (image_set is) x.number x.image stands.streams x.word (exports_inside is accepted) stands.read stands.sound own.word

can_be_led : (is : List Img) → rewrite_break (layout_of is) (image_set is) ≡ None → (x : SetWord) → IsOfSet is x → slice_get (image_set is).images x.number ≡ Some x.image → can_lead (layout_of is) x.number x.image.segments x.word ≡ true
can_be_led is none x own image = elim (at_cases (image_set is) x.number x.image x.word own.there) [
  | inl pointer ↦ pointer_can (layout_of is) x.number x.image.segments x.word (ap (λ (w : Word). w.kind) pointer.is)
  | inr other ↦
      ap (λ (w : Word). can_lead (layout_of is) x.number x.image.segments w) other.is
      ∙ reference_can (layout_of is) (image_set is) x.number x.image other.reference none image other.there other.other
]

led : (bits : ℕ) (is : List Img) → IsCachedSet bits is → (slide : ℕ) (x : SetWord) → IsIn (set_words is) x → IsLed bits is slide x
led bits is set slide x there =
    let l : Laid = layout_of is in
    let accepted : IsAccepted is = set.ready.accepted in
    let stands : Stands is x = word_stands_at is accepted x there in
    let own : IsOfSet is x = of_set is x there in
    let e : Edit = edit_at is x in
    let number : ℕ = slid_value is slide (edit_at is x) in
    let location : ℕ = new_address l x.number x.image.segments x.word.at.segment x.word.at.address in
    let header : ℕ = (header_move l x.number x.image.segments).address in
    let low : (header_move (layout_of is) x.number x.image.segments).address < 2 ^ 64 =
    subst (λ (n : ℕ). n < 2 ^ 64) (sym (header_moved bits is x.number x.image stands.image_in stands.image_is stands.sound).1) (header_low is accepted x.number x.image stands.image_in stands.image_is stands.sound) in
    let base : LeadsTo (new_starts l) location header x.word.kind (edit_at is x).value x.word.target =
    new_number_leads l x.number x.image.segments x.word low (can_be_led is set.ready.rewritten x own stands.read.of.image_is) in
    let target : LeadsToOwn is x.word.target = own_target is accepted x stands own in
    let moved : (k g distance : ℕ) → x.word.target ≡ Place k g distance → mapped_starts (cached_image (cache_of bits is)) slide k g ≡ wrap (new_starts l k g + slide) =
    λ k g distance to. started bits is set.images slide k g (subst (LeadsToOwn is) to target) in
    let raised : x.word.kind ≡ Pointer64 → leads_to_place x.word.target ≡ true → slid_value is slide (edit_at is x) ≡ wrap ((edit_at is x).value + slide) =
    λ pointer leads. cond-true (is_chained_at is e.at) ((e.value + slide) % 2 ^ 64) e.value (chained_yes is accepted x there (record { pointer = pointer; leads = leads })) in
    let kept : (x.word.kind ≡ Pointer64 → leads_to_place x.word.target ≡ true → ⊥) → slid_value is slide (edit_at is x) ≡ (edit_at is x).value =
    λ free. unchained bits is set slide x there (λ (c : IsChained x). free c.pointer c.leads) in
    record {
      fits = fits_slid slide e.value number x.word.kind x.word.target (kept_fits bits is set x there) raised kept;
      leads = leads_slid (new_starts l) (mapped_starts (cached_image (cache_of bits is)) slide) location header slide e.value number x.word.kind x.word.target base moved raised kept;
    }

-- ---- a word by its section of the cached image

pub section_there : (bits : ℕ) (is : List Img) (x : SetWord) (v : Section) → (stands : Stands is x) → slice_get (moved_in bits is x.number x.image).sections (x.word.at.section - 1) ≡ Some v → IsAccepted is
    → v.addr + stands.in_section.offset ≡ region_start + (edit_at is x).at
section_there bits is x v stands got accepted =
    let u : Section = stands.in_section.section in
    let s : Seg = stands.segment in
    let k : ℕ = x.number in
    let g : ℕ = x.word.at.segment in
    let home : slice_get x.image.segments u.segment ≡ Some s = ap (λ (n : ℕ). slice_get x.image.segments n) stands.in_section.in_segment ∙ stands.segment_is in
    let move : slice_get (slice_index_or (layout_of is).moves k []) u.segment ≡ Some (move_at (layout_of is) k g) =
    ap (λ (n : ℕ). slice_get (slice_index_or (layout_of is).moves k []) n) stands.in_section.in_segment ∙ move_there is k g x.image s stands.image_in stands.image_is stands.segment_is in
    let moved : IsMovedSection u v s (move_at (layout_of is) k g) =
    moved_section_at x.image (slice_index_or (layout_of is).moves k []) (slice_index_or (set_spots bits is) k no_spots) (slid_of bits is 0) stands.sound (x.word.at.section - 1) u v s (move_at (layout_of is) k g) stands.in_section.found got home move in
    omega (arith, moved.addr, (address_is is accepted x stands).1, stands.place, stands.in_section.place, stands.from)

pub word_mapped : (bits : ℕ) (is : List Img) → IsCachedSet bits is → (slide : ℕ) (x : SetWord) → IsIn (set_words is) x → (v : Section) → (stands : Stands is x) → slice_get (moved_in bits is x.number x.image).sections (x.word.at.section - 1) ≡ Some v
    → Leads (mapped_side (cache_of bits is) slide) (v.addr + stands.in_section.offset) (header_address (moved_in bits is x.number x.image).segments) x.word.kind x.word.target
word_mapped bits is set slide x there v stands got =
    let accepted : IsAccepted is = set.ready.accepted in
    let place : v.addr + stands.in_section.offset ≡ region_start + (edit_at is x).at = section_there bits is x v stands got accepted in
    let own : IsLed bits is slide x = led bits is set slide x there in
    let starts : Starts = mapped_starts (cached_image (cache_of bits is)) slide in
    let location : new_address (layout_of is) x.number x.image.segments x.word.at.segment x.word.at.address ≡ v.addr + stands.in_section.offset = (address_is is accepted x stands).0 ∙ sym place in
    let headers = header_moved bits is x.number x.image stands.image_in stands.image_is stands.sound in
    let header : (header_move (layout_of is) x.number x.image.segments).address ≡ header_address (moved_in bits is x.number x.image).segments = headers.1 ∙ sym headers.0 in
    record {
      number = slid_value is slide (edit_at is x);
      fits = own.fits;
      there = number_there bits is set slide (v.addr + stands.in_section.offset) x there place;
      leads = subst (λ (a : ℕ). LeadsTo starts (wrap (a + slide)) (wrap (header_address (moved_in bits is x.number x.image).segments + slide)) x.word.kind (slid_value is slide (edit_at is x)) x.word.target) location
          (subst (λ (h : ℕ). LeadsTo starts (wrap (new_address (layout_of is) x.number x.image.segments x.word.at.segment x.word.at.address + slide)) (wrap (h + slide)) x.word.kind (slid_value is slide (edit_at is x)) x.word.target) header own.leads);
    }
