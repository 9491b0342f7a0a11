-- Where each image finds its streams and tables, by the ranges that were told as the parts were put.
use Rattle.std.specs.Prelude.{◌≤◌, ℕ, ◌+◌, ◌*◌, ◌^◌, List, length, take, slice_index_or}
use Rattle.dsc_base.specs.Region.{paged}
use Rattle.macho_edit.specs.declared.spots.LinkSpots.{LinkSpots}
use Rattle.nlist_table.specs.Symbols.{Tabs}
use Rattle.cache_layout.specs.Places.{moved_to}
use Rattle.linkedit_merge.specs.declared.spots.Frame.{Frame}
use Rattle.linkedit_merge.specs.declared.streams.StreamSpots.{StreamSpots}
use Rattle.linkedit_merge.specs.Linkedit.{within}
use Rattle.linkedit_merge.specs.Shares.{no_tables}
use Rattle.linkedit_merge.specs.Sizes.{symbols_size, indirect_size}

-- places that the file may have
pub record IsLow (frame : Frame) : Type 0 where
  pub start : frame.start ≤ 2 ^ 32
  pub size : frame.size ≤ 2 ^ 32
  pub symbols : frame.symbols.at ≤ 2 ^ 63 + 2 ^ 33
  pub indirect : frame.indirect.at ≤ 2 ^ 63 + 2 ^ 33

unfoldable pub image_spots : Frame → StreamSpots → ℕ → ℕ → Tabs → LinkSpots
image_spots frame streams symbols_before indirect_before t = record {
  linkedit = moved_to frame.start;
  vmsize = paged frame.size;
  filesize = frame.size;
  rebase = record { at = 0; len = 0 };
  bind = streams.bind;
  lazy = streams.lazy;
  exports = streams.exports;
  function_starts = streams.function_starts;
  data_in_code = streams.data_in_code;
  symbols = within frame.symbols symbols_before (16 * length t.symbols);
  indirect = within frame.indirect indirect_before (4 * length t.indirect);
  strings = frame.strings;
  groups = t.groups;
}

-- those of image k
abbrev pub spots_from : Frame → List Tabs → ℕ → StreamSpots → LinkSpots
spots_from frame tables k streams =
    image_spots frame streams (symbols_size (take k tables)) (indirect_size (take k tables)) (slice_index_or tables k no_tables)
