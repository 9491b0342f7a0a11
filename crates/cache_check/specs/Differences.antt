-- How the images of a cache differ from files in all but their sections' bytes: in their number, their paths, their shapes and their exports.
use Rattle.std.specs.Prelude.{ℕ, ◌+◌, max, Bool, true, false, ◌&&◌, nat_eq, if◌then◌else◌, List, length, map, slice_get, slice_index, Option, Some, None, option_map}
use Rattle.macho_image.specs.Records.{Seg, Img}
use Rattle.macho_image.specs.Rules.{same_bytes, is_linkedit_segment}
use Rattle.macho_image.specs.Places.{wrap, above}
use Rattle.macho_image.specs.Segments.{header_address, segments_at, inside}
use Rattle.macho_image.specs.declared.places.segment_index.Inside.{Inside}
use Rattle.export_trie.specs.declared.export.Export.{Export as ExportEntry}
use Rattle.export_trie.specs.declared.export.Target.{Target}
use Rattle.export_trie.specs.declared.export.Target.TheVariants.{Offset, Absolute, Reexport}
use Rattle.export_trie.specs.Exports.{exports_of}
use Rattle.prebind.specs.Numbers.{Starts}
use Rattle.cache_header.specs.Records.{Entry}
use Rattle.cache_check.specs.declared.verdict.Difference.{Difference}
use Rattle.cache_check.specs.declared.verdict.Difference.TheVariants.{Images, Path, Shape, Export}
use Rattle.cache_check.specs.Firsts.{first_below}

-- ---- how many there are, and their paths

unfoldable pub count_difference : ℕ → ℕ → Option Difference
count_difference found wanted = if nat_eq found wanted then None else Some (Images found wanted)

abbrev pub path_of : ℕ → Option Entry → Option Img → Option Difference
path_of k (Some e) (Some file) = if same_bytes e.path file.install_name then None else Some (Path k e.path file.install_name)
path_of k _ _ = None

unfoldable pub path_difference : List Entry → List Img → ℕ → Option Difference
path_difference entries files k = path_of k (slice_get entries k) (slice_get files k)

-- ---- shapes

-- a shape that has ended counts as 0
unfoldable pub part_difference : ℕ → List ℕ → List ℕ → ℕ → Option Difference
part_difference k found wanted part =
    if nat_eq (slice_index found part) (slice_index wanted part) then None else Some (Shape k part (slice_index found part) (slice_index wanted part))

unfoldable pub shape_difference : ℕ → List ℕ → List ℕ → Option Difference
shape_difference k found wanted = first_below (part_difference k found wanted) (max (length found) (length wanted))

-- ---- where segments of a cache start

-- where a segment of a cached image starts; one that it lacks counts as starting at 0, and so does its `__LINKEDIT`
abbrev pub start_besides : Option Seg → ℕ
start_besides None = 0
start_besides (Some s) = if is_linkedit_segment s then 0 else s.vmaddr

unfoldable pub own_start : List Seg → ℕ → ℕ
own_start segments g = start_besides (slice_get segments g)

abbrev pub cached_starts : List Img → Starts
cached_starts cached k g = own_start (segments_at cached k) g

-- ---- exports

-- an offset from the header of a file as one from that of its cached image, to the same place
abbrev pub moved_place : (ℕ → ℕ) → ℕ → ℕ → Option Inside → ℕ
moved_place starts header offset None = offset
moved_place starts header offset (Some p) = above header (wrap (starts p.segment + p.distance))

unfoldable pub moved_offset : Img → Img → ℕ → ℕ
moved_offset file cached offset =
    moved_place (own_start cached.segments) (header_address cached.segments) offset (inside file.segments (wrap (header_address file.segments + offset)))

abbrev pub moved_target : (ℕ → ℕ) → Target → Target
moved_target moved (Offset o) = Offset (moved o)
moved_target moved (Absolute v) = Absolute v
moved_target moved (Reexport ordinal name) = Reexport ordinal name

-- an export of a file as its cached image should have it
abbrev pub moved_export : (ℕ → ℕ) → ExportEntry → ExportEntry
moved_export moved e = record { name = e.name; flags = e.flags; target = moved_target moved e.target }

abbrev pub same_target : Target → Target → Bool
same_target (Offset o) (Offset p) = nat_eq o p
same_target (Absolute v) (Absolute w) = nat_eq v w
same_target (Reexport ordinal name) (Reexport other text) = nat_eq ordinal other && same_bytes name text
same_target _ _ = false

abbrev pub same_export : Option ExportEntry → Option ExportEntry → Bool
same_export None None = true
same_export (Some e) (Some f) = same_bytes e.name f.name && (nat_eq e.flags f.flags && same_target e.target f.target)
same_export _ _ = false

-- a number at which two lists differ
unfoldable pub other_at : List ExportEntry → List ExportEntry → ℕ → Option ℕ
other_at found wanted index = if same_export (slice_get found index) (slice_get wanted index) then None else Some index

abbrev pub export_at : ℕ → List ExportEntry → List ExportEntry → ℕ → Difference
export_at k found wanted index = Export k index (slice_get found index) (slice_get wanted index)

-- the first of them
abbrev pub first_other : List ExportEntry → List ExportEntry → Option ℕ
first_other found wanted = first_below (other_at found wanted) (max (length found) (length wanted))

-- sorted lists of exports, by what each has at a number
abbrev pub listed_difference : ℕ → List ExportEntry → List ExportEntry → Option Difference
listed_difference k found wanted = option_map (export_at k found wanted) (first_other found wanted)

unfoldable pub exports_difference : ℕ → Img → Img → Option Difference
exports_difference k file cached =
    listed_difference k (exports_of cached.streams.exports) (map (moved_export (moved_offset file cached)) (exports_of file.streams.exports))
