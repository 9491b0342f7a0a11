-- The cache of any set of images, for any number of bits: the bytes of its parts, joined.
use Rattle.std.specs.Prelude.{ℕ, ◌-◌, List, [], ◌++◌, length, slice_index_or}
use Rattle.dsc_base.specs.Region.{padded}
use Rattle.dsc_base.specs.declared.fault.Span.{Span}
use Rattle.dsc_base.specs.declared.edits.Edit.{Edit}
use Rattle.dsc_base.specs.Edits.{put_all}
use Rattle.macho_image.specs.Records.{Img}
use Rattle.macho_edit.specs.declared.spots.LinkSpots.{LinkSpots}
use Rattle.macho_edit.specs.Cached.{cached_bytes}
use Rattle.cache_header.specs.Spelling.{head_bytes}
use Rattle.cache_layout.specs.declared.mapping.Mapping.TheVariants.{Text, Writable, Fixed}
use Rattle.cache_layout.specs.Places.{numbered}
use Rattle.cache_layout.specs.Layouts.{Laid, layout_of}
use Rattle.cache_layout.specs.Parts.{mapping_part}
use Rattle.slide_chain.specs.Linked.{linked_data}
use Rattle.prebind.specs.Sets.{ImageSet, image_set}
use Rattle.ref_rewrite.specs.Pages.{all_pages}
use Rattle.ref_rewrite.specs.Rewritten.{edits_in}
use Rattle.linkedit_merge.specs.Shares.{Share}
use Rattle.linkedit_merge.specs.Linkedit.{linkedit_of, spots_of}
use Rattle.cache_build.specs.declared.frame.Frame.{Frame}
use Rattle.cache_build.specs.Edits.{edits_of, chained_of}
use Rattle.cache_build.specs.Places.{slide_bytes, shares_in, frame_of}
use Rattle.cache_build.specs.Head.{head_of}

-- ---- headers

-- nowhere
abbrev pub no_span : Span
no_span = record { at = 0; len = 0 }

abbrev pub no_spots : LinkSpots
no_spots = record {
  linkedit = record { address = 0; file = 0 };
  vmsize = 0;
  filesize = 0;
  rebase = no_span;
  bind = no_span;
  lazy = no_span;
  exports = no_span;
  function_starts = no_span;
  data_in_code = no_span;
  symbols = no_span;
  indirect = no_span;
  strings = no_span;
  groups = [];
}

-- the header of image k in the cache, by where each image finds its streams and tables
abbrev pub header_of : Laid → List LinkSpots → ℕ → Img → List ℕ
header_of l spots k image = cached_bytes image (slice_index_or l.moves k []) (slice_index_or spots k no_spots)

-- the headers of all images
abbrev pub headers_of : Laid → List LinkSpots → List Img → List (List ℕ)
headers_of l spots images = numbered (header_of l spots) images

-- ---- the parts

-- the bytes of a range of the file with the edits in it made
abbrev pub edited : Span → List Edit → List ℕ → List ℕ
edited range edits bytes = put_all (edits_in range edits) bytes

-- slide information and the merged linkedit, each in whole pages
abbrev pub tail_of : Frame → List ℕ → List ℕ → List ℕ
tail_of frame slide_info linkedit = padded (frame.linkedit_at - frame.slide_at) slide_info ++ padded (frame.span - frame.linkedit_at) linkedit

-- the head's pages, the segments of each mapping, and the rest
abbrev pub parts_joined : List ℕ → List ℕ → List ℕ → List ℕ → List ℕ → List ℕ
parts_joined head text writable fixed rest = head ++ (text ++ (writable ++ (fixed ++ rest)))

-- the segments stand by mapping, image and command, and each word in them is set; those of the data that lead to places are linked
abbrev pub cache_with : ℕ → Laid → ImageSet → Frame → (ℕ → ℕ → List ℕ) → List ℕ → List ℕ
cache_with bits l set frame pages rest =
    parts_joined (padded l.text.at (head_bytes (head_of l frame set.images)))
    (edited l.text (edits_of l set) (mapping_part Text pages set.images))
    (linked_data bits (chained_of l set) (edits_in l.writable (edits_of l set)) (mapping_part Writable pages set.images))
    (edited l.fixed (edits_of l set) (mapping_part Fixed pages set.images))
    rest

-- by its slide information, and by what each image has in the linkedit
abbrev pub cache_by : ℕ → Laid → ImageSet → List ℕ → List Share → List ℕ
cache_by bits l set slide_info shares =
    let frame = frame_of l (length slide_info) shares in
    let headers = headers_of l (spots_of frame.linkedit_at shares) set.images in
    cache_with bits l set frame (all_pages headers set.images) (tail_of frame slide_info (linkedit_of shares))

unfoldable pub cache_from : ℕ → Laid → ImageSet → List ℕ
cache_from bits l set = cache_by bits l set (slide_bytes bits l set) (shares_in l set.images)

-- the cache of images, where the distance to the next word of a chain has so many bits
abbrev pub cache_of : ℕ → List Img → List ℕ
cache_of bits images = cache_from bits (layout_of images) (image_set images)
