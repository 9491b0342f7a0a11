-- What is true of every layout: its ranges follow one another, its segments stand on whole pages in the ranges of their mappings, and no two share a byte.
use Rattle.std.specs.Prelude.{◌≡◌, ◌≤◌, ◌<◌, ◌⊎◌, ℕ, ◌+◌, ◌%◌, false, Some, List, [], length, slice_index_or}
use Rattle.dsc_base.specs.Region.{region_start, paged}
use Rattle.dsc_base.specs.declared.fault.Span.{Span}
use Rattle.macho_image.specs.Records.{Seg, Img}
use Rattle.macho_image.specs.Rules.{is_linkedit_segment}
use Rattle.macho_image.specs.declared.place.Moved.{Moved}
use Rattle.cache_layout.specs.declared.mapping.Mapping.{Mapping}
use Rattle.cache_layout.specs.declared.mapping.Mapping.TheVariants.{Text, Writable, Fixed}
use Rattle.cache_layout.specs.Places.{mapping_of, head_size}
use Rattle.cache_layout.specs.Layouts.{Laid}

-- the range of a mapping's segments
abbrev pub range_in : Laid → Mapping → Span
range_in l Text = l.text
range_in l Writable = l.writable
range_in l Fixed = l.fixed

-- The ranges of the mappings follow one another in whole pages, behind the head's pages and in the first 512 MiB.
pub record AreInTurn (is : List Img) (l : Laid) : Type 0 where
  pub text : l.text.at ≡ paged (head_size is)
  pub writable : l.writable.at ≡ l.text.at + l.text.len
  pub fixed : l.fixed.at ≡ l.writable.at + l.writable.len
  pub pages : (m : Mapping) → ((range_in l m).at % 4096 ≡ 0) × ((range_in l m).len % 4096 ≡ 0)
  pub span : l.fixed.at + l.fixed.len ≤ 0x20000000

-- segment g of image k
pub record IsSegment (is : List Img) (k g : ℕ) (i : Img) (s : Seg) : Type 0 where
  pub image_in : k < length is
  pub image_is : i ≡ slice_index_or is k i
  pub segment_in : g < length i.segments
  pub segment_is : s ≡ slice_index_or i.segments g s

-- where a layout puts it
abbrev pub move_at : Laid → ℕ → ℕ → Moved
move_at l k g = slice_index_or (slice_index_or l.moves k []) g (record { address = 0; file = 0 })

-- a segment that stands on whole pages in a range of the file, which lies in the first 512 MiB, at the address of its place in the file
pub record IsWithin (range : Span) (s : Seg) (moved : Moved) : Type 0 where
  pub address : moved.address ≡ region_start + moved.file
  pub pages : moved.file % 4096 ≡ 0
  pub start : range.at ≤ moved.file
  pub end : moved.file + paged s.vmsize ≤ range.at + range.len
  pub span : range.at + range.len ≤ 0x20000000

-- each segment other than `__LINKEDIT` stands so in the range of its mapping
abbrev pub AreWithin : List Img → Laid → Type 0
AreWithin is l = (k g : ℕ) (i : Img) (s : Seg) → IsSegment is k g i s → is_linkedit_segment s ≡ false
    → (m : Mapping) × (mapping_of s ≡ Some m) × IsWithin (range_in l m) s (move_at l k g)

-- one of two segments ends where the other one begins, or before
abbrev pub IsApart : ℕ → Seg → ℕ → Seg → Type 0
IsApart file s file' s' = (file + paged s.vmsize ≤ file') ⊎ (file' + paged s'.vmsize ≤ file)

-- no two segments other than `__LINKEDIT` share a byte of the file
abbrev pub AreApart : List Img → Laid → Type 0
AreApart is l = (k g : ℕ) (i : Img) (s : Seg) (k' g' : ℕ) (i' : Img) (s' : Seg) → IsSegment is k g i s → IsSegment is k' g' i' s'
    → is_linkedit_segment s ≡ false → is_linkedit_segment s' ≡ false → (k ≡ k' → g ≡ g' → ⊥)
    → IsApart (move_at l k g).file s (move_at l k' g').file s'
