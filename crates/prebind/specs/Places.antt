-- Where the exports of an image lie: an offset of a trie counts from the Mach header, after mach-o/loader.h.
use Rattle.std.specs.Prelude.{ℕ, ◌+◌, Bool, true, false, List, [], map, position, Option, Some, None, option_map, slice_get, slice_index_or}
use Rattle.dsc_base.specs.declared.fault.Break.{Break}
use Rattle.dsc_base.specs.declared.rule.Rule.TheVariants.{ExportOutside}
use Rattle.macho_image.specs.Records.{Seg}
use Rattle.macho_image.specs.Rules.{is_linkedit_segment}
use Rattle.dsc_base.specs.Refusals.{broken, in_image}
use Rattle.macho_image.specs.declared.places.segment_index.Inside.{Inside}
use Rattle.macho_image.specs.Places.{wrap}
use Rattle.macho_image.specs.Segments.{header_address, segments_at, inside}
use Rattle.export_trie.specs.declared.export.Export.{Export}
use Rattle.export_trie.specs.declared.export.Target.{Target}
use Rattle.export_trie.specs.declared.export.Target.TheVariants.{Offset, Absolute, Reexport}
use Rattle.export_trie.specs.Exports.{exports_of}
use Rattle.prebind.specs.Sets.{StreamLists, ImageSet}

abbrev pub address_of_export : List Seg → ℕ → ℕ
address_of_export segments offset = wrap (header_address segments + offset)

-- the exports of each image of a set
abbrev pub exports_in : List StreamLists → List (List Export)
exports_in streams = map (λ (s : StreamLists). exports_of s.exports) streams

-- rule 131: an offset that leads into no segment, or into `__LINKEDIT`
abbrev pub is_linkedit_at : Option Seg → Bool
is_linkedit_at None = true
is_linkedit_at (Some s) = is_linkedit_segment s

abbrev pub is_stray : List Seg → Option Inside → Bool
is_stray segments None = true
is_stray segments (Some p) = is_linkedit_at (slice_get segments p.segment)

abbrev pub strays : List Seg → Target → Bool
strays segments (Offset offset) = is_stray segments (inside segments (address_of_export segments offset))
strays segments (Absolute value) = false
strays segments (Reexport ordinal name) = false

-- the least index of such an export of image k
unfoldable pub export_break : ImageSet → ℕ → Option Break
export_break set k =
    option_map (in_image k) (broken ExportOutside (position (λ (e : Export). strays (segments_at set.images k) e.target) (slice_index_or (exports_in set.streams) k [])))
