-- Sound images with a layout make a cache.
use Rattle.std.proofs.Common.{◌≡◌, ◌≤◌, ◌<◌, ℕ, ◌+◌, false, None, List, [], ◌∷◌, length, get_or, refl, sym, arith}
use Rattle.std.proofs.lemmas.List.{get_or_default}
use Rattle.std.proofs.lemmas.Option.{slice_get_within, get_or_from_slice_get}
use Rattle.macho_image.specs.Records.{Seg, Img}
use Rattle.macho_image.specs.Rules.{is_linkedit_segment}
use Rattle.macho_image.specs.Breaks.{IsSound}
use Rattle.cache_layout.specs.Layouts.{layout_of, layout_break}
use Rattle.cache_layout.specs.Apart.{IsSegment, move_at}
use Rattle.cache_layout.proofs.SoundLaws.{sound_linkedit, sound_path}
use Rattle.cache_layout.proofs.SpaceLaws.{sound_space}
use Rattle.cache_layout.proofs.RoomLaws.{paged-covers}
use Rattle.cache_layout.proofs.PlaceLaws.{are_within}
use Rattle.ref_rewrite.proofs.HomeLaws.{header_fits, two_segments}
use Rattle.cache_build.specs.Head.{text_size}
use Rattle.cache_build.specs.Fits.{HasRoom, Fits}

-- ---- the header in the text segment

pub sound_begins : (image : Img) → IsSound image → HasRoom image.header image.segments
sound_begins image sound s found = header_fits image sound s (slice_get_within image.segments 0 s found) (sym (get_or_from_slice_get image.segments 0 s s found))

-- ---- the set

pub low_end : (images : List Img) → layout_break images ≡ None → (k g : ℕ) (i : Img) (s : Seg) → IsSegment images k g i s → is_linkedit_segment s ≡ false
    → (move_at (layout_of images) k g).file + s.vmsize ≤ 0x20000000
low_end images none k g i s there owned =
    let own = are_within images none k g i s there owned in
    omega (arith, own.2.end, own.2.span, paged-covers s.vmsize)

text_first : (ss : List Seg) (d : Seg) → 0 < length ss → text_size ss ≡ (get_or ss 0 d).vmsize
text_first [] d some = absurd (omega arith)
text_first (s ∷ ss) d some = refl

pub no_segment : Seg
no_segment = record { name = []; vmaddr = 0; vmsize = 0; fileoff = 0; filesize = 0; maxprot = 0; initprot = 0; flags = 0; bytes = [] }

abbrev pub AreSound : List Img → Type 0
AreSound images = (k : ℕ) (d : Img) → k < length images → IsSound (get_or images k d)

text_low : (images : List Img) (k : ℕ) (i : Img) → layout_break images ≡ None → k < length images → i ≡ get_or images k i → IsSound i → text_size i.segments ≤ 0x20000000
text_low images k i none lt at sound =
    let some : 2 ≤ length i.segments = two_segments i sound in
    let s : Seg = get_or i.segments 0 no_segment in
    let own : get_or i.segments 0 no_segment ≡ get_or i.segments 0 s = get_or_default i.segments 0 no_segment s (omega (arith, some)) in
    let owned : is_linkedit_segment s ≡ false = (sound_linkedit i sound 0 s (omega (arith, some)) own).0 (omega (arith, some)) in
    let there : IsSegment images k 0 i s = record { image_in = lt; image_is = at; segment_in = omega (arith, some); segment_is = own } in
    let end : (move_at (layout_of images) k 0).file + s.vmsize ≤ 0x20000000 = low_end images none k 0 i s there owned in
    omega (arith, end, text_first i.segments no_segment (omega (arith, some)))

pub image_fits : (images : List Img) (k : ℕ) (i : Img) → layout_break images ≡ None → k < length images → i ≡ get_or images k i → IsSound i → Fits i
image_fits images k i none lt at sound = record {
  low = λ g d below. let space = sound_space i sound g (get_or i.segments g d) below (get_or_default i.segments g d (get_or i.segments g d) below) in omega (arith, space.1);
  begins = sound_begins i sound;
  path = sound_path i sound;
  text = let low : text_size i.segments ≤ 0x20000000 = text_low images k i none lt at sound in omega (arith, low);
}
