-- Where slide information and the merged linkedit stand in the file, behind the segments of a layout, and where the cache ends.
use Rattle.std.specs.Prelude.{ℕ, ◌+◌, List, map}
use Rattle.dsc_base.specs.Region.{paged}
use Rattle.macho_image.specs.Records.{Img}
use Rattle.slide_chain.specs.Info.{info_bytes}
use Rattle.slide_chain.specs.Making.{info_of}
use Rattle.nlist_table.specs.Symbols.{tables_of}
use Rattle.prebind.specs.Sets.{ImageSet}
use Rattle.cache_layout.specs.Layouts.{Laid}
use Rattle.linkedit_merge.specs.Shares.{Share, shares_of}
use Rattle.linkedit_merge.specs.Linkedit.{linkedit_start, linkedit_size}
use Rattle.cache_build.specs.declared.frame.Frame.{Frame}
use Rattle.cache_build.specs.Edits.{chained_of}

-- the slide information of the data, where the distance to the next word of a chain has so many bits
abbrev pub slide_bytes : ℕ → Laid → ImageSet → List ℕ
slide_bytes bits l set = info_bytes (info_of bits l.writable.len (chained_of l set))

-- what each image has in the linkedit
abbrev pub shares_in : Laid → List Img → List Share
shares_in l images = shares_of images (map tables_of images) l.moves

-- the segments are followed by so many bytes of slide information and by the linkedit, each in whole pages
unfoldable pub frame_of : Laid → ℕ → List Share → Frame
frame_of l slide_size shares = record {
  slide_at = l.fixed.at + l.fixed.len;
  slide_size = slide_size;
  linkedit_at = linkedit_start l slide_size;
  span = linkedit_start l slide_size + paged (linkedit_size shares);
}
