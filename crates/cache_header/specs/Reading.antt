-- The numbers and tables at the head of a cache file, after <mach-o/dyld_cache_format.h>.
use Rattle.std.specs.Prelude.{ℕ, zero, suc, ◌+◌, ◌*◌, Bool, nat_eq, nat_le, if◌then◌else◌, List, [], ◌∷◌, take, drop, map, replicate}
use Rattle.std.specs.List.{before_first, range_with_len, sum_by}
use Rattle.dsc_base.specs.Numbers.{number_at}
use Rattle.dsc_base.specs.declared.fault.Span.{Span}
use Rattle.cache_header.specs.declared.head.Mapping.{Mapping}
use Rattle.cache_header.specs.Records.{Entry, Head}
use Rattle.cache_header.specs.Paths.{is_nul}

-- a number of the header; one that doesn't lie wholly below mappingOffset counts as 0
unfoldable pub header_number : ℕ → List ℕ → ℕ → ℕ
header_number w cache at = if nat_le (at + w) (number_at 4 cache 0x10) then number_at w cache at else 0

-- an identifier of the header, likewise
unfoldable pub header_identifier : List ℕ → ℕ → List ℕ
header_identifier cache at =
    if nat_le (at + 16) (number_at 4 cache 0x10) then take 16 (drop at cache) else replicate 16 0

-- dyld_cache_mapping_info
abbrev pub mapping_at : List ℕ → ℕ → Mapping
mapping_at cache at = record {
  address = number_at 8 cache at;
  size = number_at 8 cache (at + 8);
  file = number_at 8 cache (at + 16);
  max_prot = number_at 4 cache (at + 24);
  init_prot = number_at 4 cache (at + 28);
}

abbrev pub mappings_from : ℕ → List ℕ → ℕ → List Mapping
mappings_from zero cache at = []
mappings_from (suc n) cache at = mapping_at cache at ∷ mappings_from n cache (at + 32)

unfoldable pub mappings_of : List ℕ → List Mapping
mappings_of cache = mappings_from (number_at 4 cache 0x14) cache (number_at 4 cache 0x10)

-- the span of a cache: how many bytes its mappings have together
abbrev pub span : List ℕ → ℕ
span cache = sum_by (λ (m : Mapping). m.size) (mappings_of cache)

abbrev pub image_count : List ℕ → ℕ
image_count cache = header_number 4 cache 0x1C

-- dyld_cache_image_info: the address of the image's header, and its path up to the NUL
abbrev pub image_address : List ℕ → ℕ → ℕ
image_address cache k = number_at 8 cache (header_number 4 cache 0x18 + 32 * k)

abbrev pub path_offset : List ℕ → ℕ → ℕ
path_offset cache k = number_at 4 cache (header_number 4 cache 0x18 + 32 * k + 24)

abbrev pub image_path : List ℕ → ℕ → List ℕ
image_path cache k = before_first is_nul (drop (path_offset cache k) cache)

-- dyld_cache_image_text_info: the image's identifier and the size of its text segment, zeros where the table
-- hasn't an entry for each image
abbrev pub has_texts : List ℕ → Bool
has_texts cache = nat_eq (header_number 8 cache 0x90) (image_count cache)

abbrev pub image_uuid : List ℕ → ℕ → List ℕ
image_uuid cache k =
    if has_texts cache then take 16 (drop (header_number 8 cache 0x88 + 32 * k) cache) else replicate 16 0

abbrev pub image_text_size : List ℕ → ℕ → ℕ
image_text_size cache k =
    if has_texts cache then number_at 4 cache (header_number 8 cache 0x88 + 32 * k + 24) else 0

abbrev pub slide_info_bytes : List ℕ → List ℕ
slide_info_bytes cache = take (header_number 8 cache 0x40) (drop (header_number 8 cache 0x38) cache)

-- the greatest slide that the header permits
abbrev pub max_slide : List ℕ → ℕ
max_slide cache = header_number 8 cache 0xF0

-- the image with the number k
unfoldable pub image_at : List ℕ → ℕ → Entry
image_at cache k = record {
  address = image_address cache k;
  path = image_path cache k;
  uuid = image_uuid cache k;
  text_size = image_text_size cache k;
}

unfoldable pub images_of : List ℕ → List Entry
images_of cache = map (image_at cache) (range_with_len 0 (image_count cache))

abbrev pub slide_place : List ℕ → Span
slide_place cache = record { at = header_number 8 cache 0x38; len = header_number 8 cache 0x40 }

-- what a cache says at its head
unfoldable pub head_read : List ℕ → Head
head_read cache = record {
  mappings = mappings_of cache;
  images = images_of cache;
  slide_info = slide_place cache;
  uuid = header_identifier cache 0x58;
  max_slide = max_slide cache;
}
