-- Where each segment of a set of images goes: behind all that stands before it. Segments stand by mapping, then by image, then by command.
use Rattle.std.specs.Prelude.{ℕ, ◌+◌, ◌-◌, ◌*◌, ◌%◌, ◌^◌, Bool, true, false, nat_eq, if◌then◌else◌, Option, Some, None, List, length, map, take}
use Rattle.std.specs.List.{sum_by, enumerate_from}
use Rattle.dsc_base.specs.Region.{region_start, paged}
use Rattle.macho_image.specs.Records.{Seg, Img}
use Rattle.macho_image.specs.Rules.{is_linkedit_segment}
use Rattle.macho_image.specs.declared.place.Moved.{Moved}
use Rattle.cache_layout.specs.declared.mapping.Mapping.{Mapping}
use Rattle.cache_layout.specs.declared.mapping.Mapping.TheVariants.{Text, Writable, Fixed}

-- The mapping of a segment, by its protection: read and execute, read and write, or read. `__LINKEDIT` has none, since all images share one.
unfoldable pub mapping_of : Seg → Option Mapping
mapping_of s =
    if is_linkedit_segment s then None else
    (if nat_eq s.initprot 5 then Some Text else (if nat_eq s.initprot 3 then Some Writable else Some Fixed))

abbrev pub is_same : Mapping → Mapping → Bool
is_same Text Text = true
is_same Writable Writable = true
is_same Fixed Fixed = true
is_same m n = false

abbrev pub is_in : Mapping → Option Mapping → Bool
is_in m None = false
is_in m (Some n) = is_same m n

-- so many bytes, where they belong to the mapping, and 0 where they belong to another one or to none
abbrev pub share : Mapping → Option Mapping → ℕ → ℕ
share m None size = 0
share m (Some n) size = if is_same m n then size else 0

-- what a segment takes of a mapping: its size in memory in whole pages, where it belongs there
abbrev pub room_of : Mapping → Seg → ℕ
room_of m s = share m (mapping_of s) (paged s.vmsize)

abbrev pub segments_room : Mapping → List Seg → ℕ
segments_room m ss = sum_by (room_of m) ss

abbrev pub images_room : Mapping → List Img → ℕ
images_room m is = sum_by (λ (i : Img). segments_room m i.segments) is

-- the head of a cache, after <mach-o/dyld_cache_format.h>: its header, three mappings, an entry for each image in both tables of images, and the paths with a NUL each
abbrev pub path_size : Img → ℕ
path_size i = length i.install_name + 1

abbrev pub head_size : List Img → ℕ
head_size is = 0xF8 + 3 * 32 + 64 * length is + sum_by path_size is

-- where the segments of a mapping start in the file
abbrev pub mapping_start : Mapping → List Img → ℕ
mapping_start Text is = paged (head_size is)
mapping_start Writable is = paged (head_size is) + images_room Text is
mapping_start Fixed is = paged (head_size is) + images_room Text is + images_room Writable is

-- where the segments of an image start in each mapping, in the file: behind those of the images before it
abbrev pub image_start : List Img → List Img → Mapping → ℕ
image_start is before m = mapping_start m is + images_room m before

-- where a segment stands in each mapping if it belongs there: behind the segments before it
abbrev pub segment_place : (Mapping → ℕ) → List Seg → Mapping → ℕ
segment_place starts earlier m = starts m + segments_room m earlier

-- The file offset of every byte is its address less the region's start.
abbrev pub moved_to : ℕ → Moved
moved_to file = record { address = region_start + file; file = file }

-- where a segment goes, by its places; `__LINKEDIT` has none yet
abbrev pub move_of : Option Mapping → (Mapping → ℕ) → Moved
move_of None places = record { address = 0; file = 0 }
move_of (Some m) places = moved_to (places m)

-- the new address less the old one
abbrev pub shift_of : Option Mapping → ℕ → ℕ → ℕ
shift_of None new old = 0
shift_of (Some m) new old = (new + (2 ^ 64 - old)) % 2 ^ 64

-- a function of each item and its number
abbrev pub numbered : {X Y : Type 0} → (ℕ → X → Y) → List X → List Y
numbered f xs = map (λ p. f p.0 p.1) (enumerate_from 0 xs)

-- the move and the shift of segment g of an image, by where its segments start in each mapping; and those of all its segments
abbrev pub segment_move : (Mapping → ℕ) → List Seg → ℕ → Seg → Moved
segment_move starts ss g s = move_of (mapping_of s) (segment_place starts (take g ss))

abbrev pub segment_shift : (Mapping → ℕ) → List Seg → ℕ → Seg → ℕ
segment_shift starts ss g s = shift_of (mapping_of s) (segment_move starts ss g s).address s.vmaddr

abbrev pub image_moves : (Mapping → ℕ) → List Seg → List Moved
image_moves starts ss = numbered (segment_move starts ss) ss

abbrev pub image_shifts : (Mapping → ℕ) → List Seg → List ℕ
image_shifts starts ss = numbered (segment_shift starts ss) ss

-- the moves and the shifts of image k, and of all images
abbrev pub moves_at : List Img → ℕ → Img → List Moved
moves_at is k i = image_moves (image_start is (take k is)) i.segments

abbrev pub shifts_at : List Img → ℕ → Img → List ℕ
shifts_at is k i = image_shifts (image_start is (take k is)) i.segments

unfoldable pub all_moves : List Img → List (List Moved)
all_moves is = numbered (moves_at is) is

unfoldable pub all_shifts : List Img → List (List ℕ)
all_shifts is = numbered (shifts_at is) is
