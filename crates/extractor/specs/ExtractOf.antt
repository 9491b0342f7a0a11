-- The file that is made of one image of a cache, after `mach-o/loader.h`: a dylib with a linkedit of its own.
use Rattle.std.specs.Prelude.{ℕ, ◌+◌, ◌*◌, Bool, false, not, ◌&&◌, nat_eq, List, [], ◌∷◌, ◌++◌, length, map, filter, drop, Option, Some, None, unwrap_or, slice_get}
use Rattle.std.specs.List.{flat_map}
use Rattle.dsc_base.specs.Region.{padded, paged}
use Rattle.macho_image.specs.Records.{Seg, Img}
use Rattle.macho_image.specs.Rules.{is_linkedit_segment}
use Rattle.macho_image.specs.declared.place.Location.{Location}
use Rattle.macho_image.specs.declared.place.Moved.{Moved}
use Rattle.macho_image.specs.Places.{section_at}
use Rattle.macho_edit.specs.declared.spots.LinkSpots.{LinkSpots}
use Rattle.macho_edit.specs.Cached.{standalone_bytes}
use Rattle.rebase_ops.specs.Writing.{rebase_bytes}
use Rattle.nlist_table.specs.Symbols.{tables_of}
use Rattle.bind_ops.specs.Records.{BoundWord}
use Rattle.prebind.specs.Sets.{all_binds}
use Rattle.prebind.specs.Words.{is_bound}
use Rattle.linkedit_merge.specs.Parts.{joined, lens_of, span_of}
use Rattle.linkedit_merge.specs.Linkedit.{parts_of}
use Rattle.linkedit_merge.specs.Shares.{Share}
use Rattle.slide_chain.specs.declared.words.ChainWord.{ChainWord}
use Rattle.cache_check.specs.Images.{images_of}
use Rattle.cache_check.specs.Views.{View}
use Rattle.extractor.specs.declared.homes.Home.{Home}
use Rattle.extractor.specs.Placing.{data_start, home_of}

-- ---- rebases: the chain words in the image that aren't bound

abbrev pub is_home : ℕ → Option Home → Bool
is_home k None = false
is_home k (Some h) = nat_eq h.image k

abbrev pub is_free : ℕ → List Img → ℕ → List BoundWord → ChainWord → Bool
is_free start images k binds w = is_home k (home_of images (start + w.offset)) && not (is_bound binds (start + w.offset))

abbrev pub location_at : Img → ℕ → Option Home → Location
location_at i address None = record { segment = 0; section = 0; address = address }
location_at i address (Some h) = record { segment = h.segment; section = unwrap_or (section_at i.sections h.segment address) 0; address = address }

abbrev pub location_of : ℕ → List Img → Img → ChainWord → Location
location_of start images i w = location_at i (start + w.offset) (home_of images (start + w.offset))

unfoldable pub free_words : ℕ → List ChainWord → List Img → ℕ → Img → List Location
free_words start words images k i = map (location_of start images i) (filter (is_free start images k (all_binds i)) words)

-- nothing where there are none
abbrev pub rebase_stream : Img → List Location → List ℕ
rebase_stream i [] = []
rebase_stream i (l ∷ ls) = rebase_bytes i (l ∷ ls)

-- ---- the linkedit: the rebases, then all that the image has in the cache's, with a pool of its own names

unfoldable pub share_of : Img → Share
share_of i = record {
  bind = i.streams.bind;
  lazy = i.streams.lazy;
  exports = i.streams.exports;
  function_starts = i.streams.function_starts;
  data_in_code = i.streams.data_in_code;
  tables = tables_of i;
}

unfoldable pub linkedit_parts : Img → List Location → List (List ℕ)
linkedit_parts i words = rebase_stream i words ∷ parts_of (share_of i ∷ [])

unfoldable pub linkedit_of : Img → List Location → List ℕ
linkedit_of i words = joined (linkedit_parts i words)

-- the most bytes that it may have: then those of several files keep apart in memory
abbrev pub linkedit_limit : ℕ
linkedit_limit = 0x40000000

-- where that of file k is in memory
abbrev pub linkedit_address : ℕ → ℕ
linkedit_address k = 0x600000000000 + k * linkedit_limit

-- ---- the segments: each at the next page of the file, at its address in the cache

unfoldable pub moves_from : ℕ → List Seg → List Moved
moves_from at [] = []
moves_from at (s ∷ ss) = record { address = s.vmaddr; file = at } ∷ moves_from (paged (at + s.vmsize)) ss

-- the segments other than `__LINKEDIT`
abbrev pub bodies_of : Img → List Seg
bodies_of i = filter (λ (s : Seg). not (is_linkedit_segment s)) i.segments

abbrev pub whole_pages : List ℕ → List ℕ
whole_pages bytes = padded (paged (length bytes)) bytes

abbrev pub page_bytes : Seg → List ℕ
page_bytes s = whole_pages s.bytes

unfoldable pub body_bytes : Img → List ℕ
body_bytes i = flat_map page_bytes (bodies_of i)

-- ---- where the header says that streams and tables are

unfoldable pub spots_of : ℕ → Img → List Location → LinkSpots
spots_of k i words =
    let start = length (body_bytes i) in
    let lens = lens_of (linkedit_parts i words) in
    let own = span_of start lens in
    let size = length (linkedit_of i words) in
    record {
      linkedit = record { address = linkedit_address k; file = start };
      vmsize = paged size;
      filesize = size;
      rebase = own 0;
      bind = own 1;
      lazy = own 2;
      exports = own 3;
      function_starts = own 4;
      data_in_code = own 5;
      symbols = own 6;
      indirect = own 7;
      strings = own 8;
      groups = (tables_of i).groups;
    }

unfoldable pub header_of : ℕ → Img → List Location → List ℕ
header_of k i words = standalone_bytes i (moves_from 0 i.segments) (spots_of k i words)

-- ---- the file: the header in place of the old one, the other bytes of the segments, and the linkedit

unfoldable pub file_of : ℕ → Img → List Location → List ℕ
file_of k i words = header_of k i words ++ (drop (length (header_of k i words)) (body_bytes i) ++ linkedit_of i words)

-- how many bytes the linkedit of image k has there
abbrev pub size_in : ℕ → List ChainWord → List Img → ℕ → Option Img → ℕ
size_in start words images k None = 0
size_in start words images k (Some i) = length (linkedit_of i (free_words start words images k i))

abbrev pub file_in : View → ℕ → Option Img → List ℕ
file_in v k None = []
file_in v k (Some i) = file_of k i (free_words (data_start v) v.words (images_of v) k i)

unfoldable pub extract_of : View → ℕ → List ℕ
extract_of v k = file_in v k (slice_get (images_of v) k)
