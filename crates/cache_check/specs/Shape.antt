-- The shape of a cache: three mappings that are the whole file, and slide information in the last of them.
use Rattle.std.specs.Prelude.{ℕ, ◌+◌, ◌-◌, ◌%◌, Bool, false, ◌&&◌, nat_eq, nat_le, List, [], ◌∷◌, Option, Some, None, if◌then◌else◌}
use Rattle.dsc_base.specs.Limits.{span_limit}
use Rattle.dsc_base.specs.Region.{region_start, region_size}
use Rattle.dsc_base.specs.Refusals.{first_break}
use Rattle.dsc_base.specs.declared.fault.Finding.{Finding}
use Rattle.dsc_base.specs.declared.fault.Span.{Span}
use Rattle.dsc_base.specs.declared.finding_kind.FindingKind.TheVariants.{MappingShape, SlideInfoShape}
use Rattle.cache_header.specs.declared.head.Mapping.{Mapping}
use Rattle.cache_header.specs.Findings.{finding}
use Rattle.cache_header.specs.Records.{Head}

-- whole pages at a place of the file, which is their distance from the region's start, with both protections the same
unfoldable pub is_mapping : ℕ → ℕ → Mapping → Bool
is_mapping place protection m =
    nat_eq m.address (region_start + place)
    && (nat_eq m.file place && (nat_eq m.max_prot protection && (nat_eq m.init_prot protection && nat_eq (m.size % 4096) 0)))

-- a file of so many bytes is text (read and execute), data (read and write) and linkedit (read), one behind the other
unfoldable pub are_three : ℕ → List Mapping → Bool
are_three size (text ∷ (writable ∷ (linkedit ∷ []))) =
    nat_eq (text.size + writable.size + linkedit.size) size
    && (is_mapping 0 5 text && (is_mapping text.size 3 writable && is_mapping (text.size + writable.size) 1 linkedit))
are_three size others = false

-- and it isn't too long, and stays in the shared region at the greatest slide
unfoldable pub is_mapped_whole : ℕ → Head → Bool
is_mapped_whole size head = nat_le size span_limit && (are_three size head.mappings && nat_le head.max_slide (region_size - size))

unfoldable pub mapping_finding : ℕ → Head → Option Finding
mapping_finding size head = if is_mapped_whole size head then None else Some (finding MappingShape 0 0x10)

-- ---- slide information

abbrev no_mapping : Mapping
no_mapping = record { address = 0; size = 0; file = 0; max_prot = 0; init_prot = 0 }

-- the mapping of the data, and that of the linkedit
abbrev pub data_mapping : List Mapping → Mapping
data_mapping (text ∷ (writable ∷ rest)) = writable
data_mapping others = no_mapping

abbrev pub linkedit_mapping : List Mapping → Mapping
linkedit_mapping (text ∷ (writable ∷ (linkedit ∷ rest))) = linkedit
linkedit_mapping others = no_mapping

-- the bytes of a range are all in a mapping's part of the file
abbrev pub is_in_mapping : Mapping → Span → Bool
is_in_mapping m s = nat_le m.file s.at && nat_le (s.at + s.len) (m.file + m.size)

unfoldable pub place_finding : Head → Option Finding
place_finding head =
    if is_in_mapping (linkedit_mapping head.mappings) head.slide_info then None else Some (finding SlideInfoShape 0 0x38)

-- what is wrong with the shape that the head of a cache of so many bytes tells
unfoldable pub shape_finding : ℕ → Head → Option Finding
shape_finding size head = first_break (mapping_finding size head ∷ place_finding head ∷ [])
