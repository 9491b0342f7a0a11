-- Sizes of parts that are added up, as far as a limit.
use Rattle.std.specs.Prelude.{◌≡◌, ◌≤◌, ◌<◌, ℕ, ◌*◌, List, [], ◌∷◌, length, slice_index_or, nat_eq, if◌then◌else◌}
use Rattle.std.specs.List.{flat_map, sum_by}
use Rattle.dsc_base.specs.declared.fault.Span.{Span}
use Rattle.dsc_base.specs.declared.fault.SetFault.{SetFault}
use Rattle.dsc_base.specs.declared.fault.SetFault.TheVariants as set_faults
use Rattle.macho_image.specs.Records.{StreamBytes, Img}
use Rattle.macho_image.specs.declared.place.Moved.{Moved}
use Rattle.nlist_table.specs.Symbols.{Tabs}
use Rattle.cache_layout.specs.Places.{numbered}
use Rattle.export_trie.specs.Exports.{exports_of}
use Rattle.export_trie.specs.declared.export.Export.{Export}
use Rattle.export_trie.specs.Writing.{trie_bytes}
use Rattle.linkedit_merge.specs.declared.sizes.SizeFault.{SizeFault}
use Rattle.linkedit_merge.specs.declared.sizes.SizeFault.TheVariants.{TooLarge, Memory}
use Rattle.linkedit_merge.specs.declared.streams.StreamSpots.{StreamSpots}
use Rattle.dsc_base.specs.Region.{padded}
use Rattle.linkedit_merge.specs.Exports.{moved_exports}
use Rattle.linkedit_merge.specs.Parts.{eight_up, end_behind, lens_of}
use Rattle.linkedit_merge.specs.Linkedit.{too_large}

-- a fault that tells that a size exceeds a limit, where it does
abbrev pub Exceeds : ℕ → ℕ → SizeFault → Type 0
Exceeds limit size TooLarge = limit < size
Exceeds limit size Memory = Unit {0}

-- a number is the size, which keeps a limit
abbrev pub IsSize : ℕ → ℕ → ℕ → Type 0
IsSize limit size n = (n ≡ size) × (size ≤ limit)

-- a linkedit that exceeds what a cache may span, as a refusal of the set
abbrev pub refusal_of : SizeFault → SetFault
refusal_of TooLarge = set_faults.Broken too_large
refusal_of Memory = set_faults.Memory

-- the streams of an image in a linkedit, where it has these exports
abbrev pub own_streams : StreamBytes → List Export → List (List ℕ)
own_streams streams exports = streams.bind ∷ streams.lazy ∷ trie_bytes exports ∷ streams.function_starts ∷ streams.data_in_code ∷ []

-- where they stand
abbrev pub spans_of : StreamSpots → List Span
spans_of s = s.bind ∷ s.lazy ∷ s.exports ∷ s.function_starts ∷ s.data_in_code ∷ []

-- the moved exports of image k
abbrev pub moved_at : List (List Moved) → ℕ → Img → List Export
moved_at moves k image = moved_exports image.segments (slice_index_or moves k []) (exports_of image.streams.exports)

-- the streams of image k, and those of all images
abbrev pub own_at : List (List Export) → ℕ → Img → List (List ℕ)
own_at exports k image = own_streams image.streams (slice_index_or exports k [])

abbrev pub all_streams : List (List Export) → List Img → List (List ℕ)
all_streams exports images = flat_map (λ (parts : List (List ℕ)). parts) (numbered (own_at exports) images)

-- the entries of all tables
abbrev pub symbols_size : List Tabs → ℕ
symbols_size tables = sum_by (λ (t : Tabs). 16 * length t.symbols) tables

abbrev pub indirect_size : List Tabs → ℕ
indirect_size tables = sum_by (λ (t : Tabs). 4 * length t.indirect) tables

-- bytes made ready for a part of a size
abbrev pub opened : List ℕ → ℕ → List ℕ
opened before size = if nat_eq size 0 then before else padded (eight_up (length before)) before

-- all of it
unfoldable pub whole_size : List (List Export) → List Img → List Tabs → ℕ → ℕ
whole_size exports images tables pool = end_behind (end_behind 0 (lens_of (all_streams exports images))) (symbols_size tables ∷ indirect_size tables ∷ pool ∷ [])
