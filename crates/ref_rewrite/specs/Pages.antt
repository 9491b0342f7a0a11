-- The pages of images' segments in a cache before their words are set: the bytes of the file with zeros behind them, and in front of the first segment the header.
use Rattle.std.specs.Prelude.{ℕ, zero, suc, List, [], ◌++◌, drop, length, Option, Some, None, slice_get, slice_index_or}
use Rattle.std.specs.List.{flat_map}
use Rattle.dsc_base.specs.declared.edits.Edit.{Edit}
use Rattle.dsc_base.specs.declared.fault.Span.{Span}
use Rattle.dsc_base.specs.Region.{paged, padded}
use Rattle.macho_image.specs.Records.{Seg, Img}
use Rattle.macho_image.specs.Segments.{segments_at}
use Rattle.cache_layout.specs.declared.mapping.Mapping.{Mapping}
use Rattle.cache_layout.specs.declared.mapping.Mapping.TheVariants.{Text, Writable, Fixed}
use Rattle.ref_rewrite.specs.Plans.{Plan}

-- the bytes of segment g in whole pages
abbrev pub bytes_with : List ℕ → ℕ → Seg → List ℕ
bytes_with header zero s = header ++ drop (length header) s.bytes
bytes_with header (suc g) s = s.bytes

abbrev pub pages_of : List ℕ → ℕ → Seg → List ℕ
pages_of header g s = padded (paged s.vmsize) (bytes_with header g s)

abbrev pub pages_at : List ℕ → ℕ → Option Seg → List ℕ
pages_at header g None = []
pages_at header g (Some s) = pages_of header g s

-- those of each segment of an image, by number
abbrev pub segment_pages : List ℕ → List Seg → ℕ → List ℕ
segment_pages header segments g = pages_at header g (slice_get segments g)

-- by image and number, where the images have these headers
abbrev pub all_pages : List (List ℕ) → List Img → ℕ → ℕ → List ℕ
all_pages headers images k g = segment_pages (slice_index_or headers k []) (segments_at images k) g

-- ---- a mapping

-- an image's part of a mapping, by its plan
abbrev pub part_of : Mapping → Plan → Span
part_of Text p = p.text
part_of Writable p = p.writable
part_of Fixed p = p.fixed

-- the edits of all images
abbrev pub all_edits : List Plan → List Edit
all_edits plans = flat_map (λ (p : Plan). p.edits) plans
