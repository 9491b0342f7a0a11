-- The next place of each mapping is behind what was put there.
use Rattle.std.proofs.Common.{◌≡◌, ◌≤◌, ◌<◌, ℕ, ◌+◌, List, length, take, get_or, ap, ◌∙◌, arith}
use Rattle.std.proofs.lemmas.List.Sums.{sum_by_more_le}
use Rattle.macho_image.specs.Records.{Seg, Img}
use Rattle.macho_image.specs.declared.place.Moved.{Moved}
use Rattle.cache_layout.specs.declared.mapping.Mapping.{Mapping}
use Rattle.cache_layout.specs.declared.room.Room.{Room}
use Rattle.cache_layout.specs.Places.{mapping_of, room_of, segments_room, images_room, move_of, segment_place, segment_move}
use Rattle.cache_layout.specs.Rooms.{held}
use Rattle.cache_layout.proofs.NumberedLaws.{sum-step}

pub room-step : (m : Mapping) (ss : List Seg) (n : ℕ) (s : Seg) → n < length ss → s ≡ get_or ss n s → segments_room m (take (n + 1) ss) ≡ segments_room m (take n ss) + room_of m s
room-step m ss n s lt is = sum-step (room_of m) ss n s lt is

pub room-fits : (m : Mapping) (ss : List Seg) (n : ℕ) (s : Seg) → n < length ss → s ≡ get_or ss n s → segments_room m (take n ss) + room_of m s ≤ segments_room m ss
room-fits m ss n s lt is = omega (arith, sum_by_more_le (room_of m) ss n s lt, ap (room_of m) is)

pub rooms-step : (m : Mapping) (is : List Img) (n : ℕ) (i : Img) → n < length is → i ≡ get_or is n i → images_room m (take (n + 1) is) ≡ images_room m (take n is) + segments_room m i.segments
rooms-step m is n i lt at = sum-step (λ (i : Img). segments_room m i.segments) is n i lt at

pub rooms-fit : (m : Mapping) (is : List Img) (n : ℕ) (i : Img) → n < length is → i ≡ get_or is n i → images_room m (take n is) + segments_room m i.segments ≤ images_room m is
rooms-fit m is n i lt at = omega (arith, sum_by_more_le (λ (i : Img). segments_room m i.segments) is n i lt, ap (λ (i : Img). segments_room m i.segments) at)

-- a segment that is put at the next place goes where it should
pub moved-next : (starts : Mapping → ℕ) (ss : List Seg) (n : ℕ) (s : Seg) (next : Room) (moved : Moved) → ((m : Mapping) → held next m ≡ starts m + segments_room m (take n ss))
    → moved ≡ move_of (mapping_of s) (held next) → moved ≡ segment_move starts ss n s
moved-next starts ss n s next moved at is =
    let places : held next ≡ segment_place starts (take n ss) = λ j m. at m j in
    is ∙ ap (λ (p : Mapping → ℕ). move_of (mapping_of s) p) places
