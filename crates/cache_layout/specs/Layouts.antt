-- The layout of a set of images, and the set that is too large for one.
use Rattle.std.specs.Prelude.{ℕ, ◌+◌, List, nat_lt, if◌then◌else◌, Option, Some, None}
use Rattle.dsc_base.specs.declared.fault.Span.{Span}
use Rattle.dsc_base.specs.declared.fault.Break.{Break}
use Rattle.dsc_base.specs.declared.rule.Rule.TheVariants.{SpanTooLarge}
use Rattle.macho_image.specs.Records.{Img}
use Rattle.macho_image.specs.declared.place.Moved.{Moved}
use Rattle.cache_layout.specs.declared.mapping.Mapping.{Mapping}
use Rattle.cache_layout.specs.declared.mapping.Mapping.TheVariants.{Text, Writable, Fixed}
use Rattle.cache_layout.specs.Places.{images_room, mapping_start, all_moves, all_shifts}
use Rattle.dsc_base.specs.Limits.{span_limit}

-- A layout: by image and segment the new places and the shifts, and the ranges of the file that hold the segments of each mapping. The entries of `__LINKEDIT` are 0.
pub record Laid : Type 0 where
  pub moves : List (List Moved)
  pub shifts : List (List ℕ)
  pub text : Span
  pub writable : Span
  pub fixed : Span

abbrev pub range_of : Mapping → List Img → Span
range_of m is = record { at = mapping_start m is; len = images_room m is }

unfoldable pub layout_of : List Img → Laid
layout_of is = record {
  moves = all_moves is;
  shifts = all_shifts is;
  text = range_of Text is;
  writable = range_of Writable is;
  fixed = range_of Fixed is;
}

-- where the segments of all mappings end in the file
abbrev pub segments_end : List Img → ℕ
segments_end is = mapping_start Fixed is + images_room Fixed is

-- head and segments may have 512 MiB
unfoldable pub layout_break : List Img → Option Break
layout_break is =
    if nat_lt span_limit (segments_end is) then Some (record { rule = SpanTooLarge; image = 0; at = segments_end is }) else None
