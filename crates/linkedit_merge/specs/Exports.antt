-- Exports that move with the segments that hold them. An offset of a trie counts from the Mach header, after mach-o/loader.h.
use Rattle.std.specs.Prelude.{ℕ, ◌+◌, List, map, position, slice_get, Option, Some, None, option_map, unwrap_or}
use Rattle.macho_image.specs.Records.{Seg}
use Rattle.macho_image.specs.declared.place.Moved.{Moved}
use Rattle.macho_image.specs.declared.places.segment_index.Inside.{Inside}
use Rattle.macho_image.specs.Places.{wrap, above}
use Rattle.macho_image.specs.Segments.{is_text_segment, inside}
use Rattle.export_trie.specs.declared.export.Export.{Export}
use Rattle.export_trie.specs.declared.export.Target.{Target}
use Rattle.export_trie.specs.declared.export.Target.TheVariants.{Offset, Absolute, Reexport}
use Rattle.prebind.specs.Places.{address_of_export}

-- where a segment starts after the moves
abbrev pub new_start : List Moved → ℕ → ℕ
new_start moves g = unwrap_or (option_map (λ (m : Moved). m.address) (slice_get moves g)) 0

-- and the header, which stands at the start of `__TEXT`
abbrev pub start_in : List Moved → Option ℕ → ℕ
start_in moves None = 0
start_in moves (Some g) = new_start moves g

unfoldable pub new_header : List Seg → List Moved → ℕ
new_header segments moves = start_in moves (position is_text_segment segments)

-- the offset of a place in a segment; one that leads into no segment stays
abbrev pub offset_from : List Seg → List Moved → ℕ → Option Inside → ℕ
offset_from segments moves offset None = offset
offset_from segments moves offset (Some p) = above (new_header segments moves) (wrap (new_start moves p.segment + p.distance))

unfoldable pub moved_offset : List Seg → List Moved → ℕ → ℕ
moved_offset segments moves offset = offset_from segments moves offset (inside segments (address_of_export segments offset))

-- absolute values and re-exports lead to the same as before
abbrev pub moved_target : List Seg → List Moved → Target → Target
moved_target segments moves (Offset offset) = Offset (moved_offset segments moves offset)
moved_target segments moves (Absolute value) = Absolute value
moved_target segments moves (Reexport ordinal name) = Reexport ordinal name

-- name and flags are kept
abbrev pub moved_export : List Seg → List Moved → Export → Export
moved_export segments moves export = record { name = export.name; flags = export.flags; target = moved_target segments moves export.target }

abbrev pub moved_exports : List Seg → List Moved → List Export → List Export
moved_exports segments moves exports = map (moved_export segments moves) exports
