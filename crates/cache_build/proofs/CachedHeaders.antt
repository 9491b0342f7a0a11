-- The header of each image stands in the cache, where the image is found as its file has it, with its segments moved.
use Rattle.std.proofs.Common.{◌≡◌, ◌≤◌, ◌<◌, ℕ, ◌+◌, ◌-◌, ◌%◌, ◌^◌, false, Some, List, [], ◌++◌, take, drop, length, get_or, replicate, sym, ap, ap₂, ◌∙◌, subst, arith}
use Rattle.std.proofs.lemmas.List.{get_or_default, get_or_append_left, get_or-take, get_or-drop, length-take-le, length-drop, length-append, same_lists}
use Rattle.dsc_base.specs.Edits.{ApartFrom}
use Rattle.dsc_base.specs.Region.{region_start, paged}
use Rattle.dsc_base.proofs.EditLaws.{ApartFrom-part}
use Rattle.macho_image.specs.declared.form.Form.TheVariants.{Cached}
use Rattle.macho_image.specs.Records.{Seg, Img}
use Rattle.macho_image.specs.Rules.{is_linkedit_segment}
use Rattle.macho_image.specs.Breaks.{IsSound, image_at}
use Rattle.macho_image.specs.Places.{above}
use Rattle.macho_edit.proofs.Grounds.{standalone_flags}
use Rattle.macho_edit.proofs.Reread.{reread, moved_sound}
use Rattle.cache_header.specs.Reading.{image_address}
use Rattle.cache_layout.specs.Layouts.{layout_of}
use Rattle.cache_layout.specs.Apart.{IsSegment, move_at}
use Rattle.cache_layout.proofs.RoomLaws.{paged-covers}
use Rattle.cache_layout.proofs.SoundLaws.{sound_linkedit}
use Rattle.load_model.specs.Mapped.{cached_image}
use Rattle.ref_rewrite.specs.Pages.{pages_of}
use Rattle.ref_rewrite.proofs.HomeLaws.{bytes_fit, header_fits, two_segments}
use Rattle.cache_build.specs.Cache.{header_of, cache_of}
use Rattle.cache_build.proofs.BuildableSets.{IsBuildable, set_edits, set_slide, set_start, set_span, set_spots, slid_of}
use Rattle.cache_build.proofs.CacheFacts.{HasEdits, IsCache, moved_in}
use Rattle.cache_build.proofs.MovedSpots.{own_moves, own_spots, own_fields, can_move_each, span_low}
use Rattle.cache_build.proofs.PlacedImages.{IsHeld, held_at, there_at, start_behind, image_placed}

-- ---- bytes that stand in a list

part_there : (whole part : List ℕ) (at : ℕ) → at + length part ≤ length whole → ((n : ℕ) → n < length part → get_or whole (at + n) 0 ≡ get_or part n 0) → take (length part) (drop at whole) ≡ part
part_there whole part at fits same =
    let long : length (take (length part) (drop at whole)) ≡ length part = length-take-le (length part) (drop at whole) (omega (arith, fits, length-drop at whole)) in
    same_lists (take (length part) (drop at whole)) part long
    (λ k d lt.
    let less : k < length part = omega (arith, lt, long) in
    get_or-take (length part) (drop at whole) k d less
    ∙ (get_or-drop at whole k d
    ∙ (get_or_default whole (at + k) d 0 (omega (arith, less, fits))
    ∙ (same k less ∙ get_or_default part k 0 d less))))

-- the pages of the first segment begin with the header
header_page : (header : List ℕ) (s : Seg) (n : ℕ) → n < length header → get_or (pages_of header 0 s) n 0 ≡ get_or header n 0
header_page header s n lt =
    let left : List ℕ = drop (length header) s.bytes in
    let zeros : List ℕ = replicate (paged s.vmsize - length (header ++ left)) 0 in
    get_or_append_left (header ++ left) zeros 0 n (omega (arith, lt, length-append header left)) ∙ get_or_append_left header left 0 n lt

-- ---- the header of an image

abbrev no_segment : Seg
no_segment = record { name = []; vmaddr = 0; vmsize = 0; fileoff = 0; filesize = 0; maxprot = 0; initprot = 0; flags = 0; bytes = [] }

abbrev text_of : Img → Seg
text_of i = get_or i.segments 0 no_segment

-- its first segment, which has the header, and its place
record HasText (bits : ℕ) (is : List Img) (k : ℕ) (i : Img) : Type 0 where
  sound : IsSound i
  there : IsSegment is k 0 i (text_of i)
  owned : is_linkedit_segment (text_of i) ≡ false
  held : IsHeld (layout_of is) (paged (text_of i).vmsize) (move_at (layout_of is) k 0)
  room : length i.header ≤ paged (text_of i).vmsize
  within : (move_at (layout_of is) k 0).file + paged (text_of i).vmsize ≤ set_start bits is

has_text : (bits : ℕ) (is : List Img) → IsBuildable bits is → (k : ℕ) (i : Img) → k < length is → i ≡ get_or is k i → HasText bits is k i
has_text bits is able k i lt at =
    let sound : IsSound i = subst IsSound (sym at) (able.accepted.sound k i lt) in
    let some : 2 ≤ length i.segments = two_segments i sound in
    let there : IsSegment is k 0 i (text_of i) = there_at is k 0 i no_segment lt at (omega (arith, some)) in
    let owned : is_linkedit_segment (text_of i) ≡ false = (sound_linkedit i sound 0 (text_of i) there.segment_in there.segment_is).0 (omega (arith, some)) in
    let held : IsHeld (layout_of is) (paged (text_of i).vmsize) (move_at (layout_of is) k 0) = held_at is able.accepted.layout k 0 i (text_of i) there owned in
    let behind = start_behind (layout_of is) (length (set_slide bits is)) in
    record {
      sound = sound;
      there = there;
      owned = owned;
      held = held;
      room = omega (arith, header_fits i sound (text_of i) there.segment_in there.segment_is, bytes_fit i sound 0 (text_of i) there.segment_in there.segment_is, paged-covers (text_of i).vmsize);
      within = omega (arith, held.before, behind.0);
    }

header_stands : (bits : ℕ) (is : List Img) → IsBuildable bits is → HasEdits bits is → IsCache bits is → (k : ℕ) (i : Img) → k < length is → i ≡ get_or is k i
    → take (length (header_of (layout_of is) (set_spots bits is) k i)) (drop (move_at (layout_of is) k 0).file (slid_of bits is 0)) ≡ header_of (layout_of is) (set_spots bits is) k i
header_stands bits is able edits cache k i lt at =
    let header : List ℕ = header_of (layout_of is) (set_spots bits is) k i in
    let file : ℕ = (move_at (layout_of is) k 0).file in
    let text : HasText bits is k i = has_text bits is able k i lt at in
    let sized : length (header_of (layout_of is) (set_spots bits is) k i) ≡ length i.header = cache.sized k i lt at in
    let whole : length (slid_of bits is 0) ≡ set_span bits is = cache.slid_long 0 in
    part_there (slid_of bits is 0) header file (omega (arith, sized, text.room, text.within, whole))
    (λ n less.
    let free : ApartFrom (file + n) 1 (set_edits is) = ApartFrom-part file (length i.header) (file + n) 1 (set_edits is) (omega arith) (omega (arith, less, sized)) (edits.headers k i lt at) in
    cache.free_byte 0 (file + n) free
    ∙ (cache.page_byte k 0 i (text_of i) text.there text.owned n (omega (arith, less, sized, text.room))
    ∙ header_page header (text_of i) n less))

-- ---- the image

pub image_found : (bits : ℕ) (is : List Img) → IsBuildable bits is → HasEdits bits is → IsCache bits is → (k : ℕ) (i : Img) → k < length is → i ≡ get_or is k i
    → cached_image (cache_of bits is) k ≡ Some (moved_in bits is k i)
unfolding cached_image above
image_found bits is able edits cache k i lt at =
    let text : HasText bits is k i = has_text bits is able k i lt at in
    let held : IsHeld (layout_of is) (paged (text_of i).vmsize) (move_at (layout_of is) k 0) = text.held in
    let place : (image_address (cache_of bits is) k + (2 ^ 64 - region_start)) % 2 ^ 64 ≡ (move_at (layout_of is) k 0).file =
    ap (λ (n : ℕ). (n + (2 ^ 64 - region_start)) % 2 ^ 64) (cache.address k i lt at) ∙ omega (arith, held.address, text.within, span_low bits is able.merged) in
    ap₂ (λ (b : List ℕ) (h : ℕ). image_at Cached b h) cache.flat_is place
    ∙ reread i (own_moves is k) (own_spots bits is k) (slid_of bits is 0) (move_at (layout_of is) k 0).file text.sound
    (can_move_each bits is able.accepted able.merged k i lt at) (own_fields bits is able.accepted able.merged k i lt at) (standalone_flags i.header (able.accepted.alone k i lt at))
    (header_stands bits is able edits cache k i lt at)
    (image_placed bits is able k i lt at (slid_of bits is 0) (cache.slid_long 0))

-- it breaks no rule
pub image_sound : (bits : ℕ) (is : List Img) → IsBuildable bits is → HasEdits bits is → IsCache bits is → (k : ℕ) (i : Img) → k < length is → i ≡ get_or is k i → IsSound (moved_in bits is k i)
image_sound bits is able edits cache k i lt at =
    let text : HasText bits is k i = has_text bits is able k i lt at in
    moved_sound i (own_moves is k) (own_spots bits is k) (slid_of bits is 0) (move_at (layout_of is) k 0).file text.sound
    (can_move_each bits is able.accepted able.merged k i lt at) (own_fields bits is able.accepted able.merged k i lt at) (standalone_flags i.header (able.accepted.alone k i lt at))
    (header_stands bits is able edits cache k i lt at)
    (image_placed bits is able k i lt at (slid_of bits is 0) (cache.slid_long 0))
