-- What the head of a cache says of a set of images, of their layout and of what stands behind the segments.
use Rattle.std.specs.Prelude.{ℕ, ◌+◌, ◌-◌, List, [], ◌∷◌, map, slice_index_or}
use Rattle.dsc_base.specs.Region.{region_size}
use Rattle.macho_image.specs.Records.{Seg, Img}
use Rattle.macho_image.specs.declared.place.Moved.{Moved}
use Rattle.cache_header.specs.Records.{Entry, Head}
use Rattle.cache_header.specs.Identifier.{identifier_of}
use Rattle.cache_layout.specs.Places.{numbered}
use Rattle.cache_layout.specs.Layouts.{Laid}
use Rattle.load_model.specs.Mapped.{three_mappings}
use Rattle.cache_build.specs.declared.frame.Frame.{Frame}

-- the size in memory of the first segment, which is the text segment
abbrev pub text_size : List Seg → ℕ
text_size [] = 0
text_size (s ∷ ss) = s.vmsize

-- where the first segment goes
abbrev pub text_address : List Moved → ℕ
text_address moves = (slice_index_or moves 0 (record { address = 0; file = 0 })).address

-- an image has its header at the start of its text segment
abbrev pub entry_of : Laid → ℕ → Img → Entry
entry_of l k image = record {
  address = text_address (slice_index_or l.moves k []);
  path = image.install_name;
  uuid = image.uuid;
  text_size = text_size image.segments;
}

-- the text mapping begins with the head, and the linkedit mapping with the read-only segments
unfoldable pub head_of : Laid → Frame → List Img → Head
head_of l frame images = record {
  mappings = three_mappings l.writable.at l.writable.len (frame.span - (l.writable.at + l.writable.len));
  images = numbered (entry_of l) images;
  slide_info = record { at = frame.slide_at; len = frame.slide_size };
  uuid = identifier_of (map (λ (i : Img). i.uuid) images);
  max_slide = region_size - frame.span;
}
