-- The part of each mapping that one image's segments take: the parts follow one another, and hold the image's segments. And what adding a shift gives.
use Rattle.std.proofs.Common.{◌≡◌, ◌≤◌, ◌<◌, ℕ, ◌+◌, ◌-◌, ◌%◌, ◌^◌, List, [], length, take, get_or, ap, ◌∙◌, arith, Option, Some}
use Rattle.std.proofs.lemmas.List.{take_all}
use Rattle.macho_image.specs.Records.{Seg, Img}
use Rattle.cache_layout.specs.declared.mapping.Mapping.{Mapping}
use Rattle.dsc_base.specs.Region.{paged}
use Rattle.cache_layout.specs.Places.{mapping_of, segments_room, images_room, mapping_start, image_start, shift_of}
use Rattle.cache_layout.specs.Layouts.{layout_of}
use Rattle.cache_layout.specs.Apart.{IsSegment, move_at}
use Rattle.cache_layout.proofs.RoomLaws.{room_of-own}
use Rattle.cache_layout.proofs.MoveLaws.{room-fits, rooms-step, rooms-fit}
use Rattle.cache_layout.proofs.PlaceLaws.{place_of, shift_at-is}

-- the first image's part starts where the mapping does, each next one behind the one before it, and the last one ends where the mapping does
pub image_start-first : (m : Mapping) (is : List Img) → image_start is (take 0 is) m ≡ mapping_start m is
image_start-first m is = omega arith

pub image_start-next : (m : Mapping) (is : List Img) (k : ℕ) (i : Img) → k < length is → i ≡ get_or is k i
    → image_start is (take (k + 1) is) m ≡ image_start is (take k is) m + segments_room m i.segments
image_start-next m is k i lt at = omega (arith, rooms-step m is k i lt at)

pub image_ends : (m : Mapping) (is : List Img) (k : ℕ) (i : Img) → k < length is → i ≡ get_or is k i → image_start is (take k is) m + segments_room m i.segments ≤ mapping_start m is + images_room m is
image_ends m is k i lt at = omega (arith, rooms-fit m is k i lt at)

-- a segment stands in its image's part
pub place-starts : (m : Mapping) (is : List Img) (k g : ℕ) (i : Img) → image_start is (take k is) m ≤ place_of is k g i m
place-starts m is k g i = omega arith

pub place-in_image : (is : List Img) (k g : ℕ) (i : Img) (s : Seg) (m : Mapping) → IsSegment is k g i s → mapping_of s ≡ Some m
    → place_of is k g i m + paged s.vmsize ≤ image_start is (take k is) m + segments_room m i.segments
place-in_image is k g i s m there own = omega (arith, room_of-own m s own, room-fits m i.segments g s there.segment_in there.segment_is)

-- the old address and the shift make the new address
shifted : (new old : ℕ) → old ≤ 2 ^ 64 → (old + (new + (2 ^ 64 - old)) % 2 ^ 64) % 2 ^ 64 ≡ new % 2 ^ 64
shifted new old fits = omega arith
