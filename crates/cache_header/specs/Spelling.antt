-- The bytes of a cache's head: the header, the mapping table, the image table, the image text table and the
-- paths, one after another, as <mach-o/dyld_cache_format.h> has them.
use Rattle.std.specs.Prelude.{◌≡◌, ◌≤◌, ℕ, ◌+◌, ◌*◌, true, List, [], ◌∷◌, ◌++◌, length, take, All}
use Rattle.std.specs.List.{flat_map, enumerate_from, sum_by}
use Rattle.dsc_base.specs.Fields.{spelled}
use Rattle.dsc_base.specs.declared.fields.Field.{Field}
use Rattle.dsc_base.specs.declared.fields.Field.TheVariants.{U32, U64, Identifier, Zeros}
use Rattle.dsc_base.specs.declared.fault.Span.{Span}
use Rattle.dsc_base.specs.Region.{region_start, region_size}
use Rattle.cache_header.specs.declared.head.Mapping.{Mapping}
use Rattle.cache_header.specs.Records.{Entry, Head}
use Rattle.dsc_base.specs.Texts.{is_plain_text}

-- "dyld_v1  x86_64" and a NUL
abbrev pub magic : List ℕ
magic = 100 ∷ 121 ∷ 108 ∷ 100 ∷ 95 ∷ 118 ∷ 49 ∷ 32 ∷ 32 ∷ 120 ∷ 56 ∷ 54 ∷ 95 ∷ 54 ∷ 52 ∷ 0 ∷ []

-- a path and its NUL
abbrev pub path_bytes : Entry → List ℕ
path_bytes e = e.path ++ 0 ∷ []

-- the room that it takes
abbrev pub path_room : Entry → ℕ
path_room e = length e.path + 1

-- where the path of image k stands: behind both tables of the images, which have 32 bytes for each, and the
-- paths of the images before it
unfoldable pub path_place : List Entry → ℕ → ℕ
path_place images k = 0x158 + 64 * length images + sum_by path_room (take k images)

-- dyld_cache_header, of 0xF8 bytes, of a cache with so many images; their tables follow the three mappings
abbrev pub header_fields : ℕ → Span → List ℕ → ℕ → List Field
header_fields images slide_info uuid max_slide =
    Identifier magic ∷ U32 0xF8 ∷ U32 3 ∷ U32 0x158 ∷ U32 images ∷ Zeros 0x18
    ∷ U64 slide_info.at ∷ U64 slide_info.len ∷ Zeros 0x10
    ∷ Identifier uuid ∷ Zeros 0x20 ∷ U64 (0x158 + 32 * images) ∷ U64 images ∷ Zeros 0x40
    ∷ U32 1 ∷ Zeros 4 ∷ U64 region_start ∷ U64 region_size ∷ U64 max_slide ∷ []

-- dyld_cache_mapping_info
abbrev pub mapping_fields : Mapping → List Field
mapping_fields m = U64 m.address ∷ U64 m.size ∷ U64 m.file ∷ U32 m.max_prot ∷ U32 m.init_prot ∷ []

-- dyld_cache_image_info of an image whose path stands at a place; no time and no inode is told
abbrev pub image_info : ℕ → ℕ → List Field
image_info address path_at = U64 address ∷ U64 0 ∷ U64 0 ∷ U32 path_at ∷ U32 0 ∷ []

-- dyld_cache_image_text_info
abbrev pub text_info : List ℕ → ℕ → ℕ → ℕ → List Field
text_info uuid address text_size path_at = Identifier uuid ∷ U64 address ∷ U32 text_size ∷ U32 path_at ∷ []

-- the image table and the image text table: an entry for each image with its number
abbrev pub image_fields : List Entry → ℕ × Entry → List Field
image_fields images p = image_info p.1.address (path_place images p.0)

abbrev pub text_fields : List Entry → ℕ × Entry → List Field
text_fields images p = text_info p.1.uuid p.1.address p.1.text_size (path_place images p.0)

abbrev pub image_table : List Entry → List Field
image_table images = flat_map (image_fields images) (enumerate_from 0 images)

abbrev pub text_table : List Entry → List Field
text_table images = flat_map (text_fields images) (enumerate_from 0 images)

abbrev pub head_fields : Head → List Field
head_fields h =
    header_fields (length h.images) h.slide_info h.uuid h.max_slide
    ++ (flat_map mapping_fields h.mappings ++ (image_table h.images ++ text_table h.images))

unfoldable pub head_bytes : Head → List ℕ
head_bytes h = spelled (head_fields h) ++ flat_map path_bytes h.images

-- what a head must have to be written
pub record IsWritable (h : Head) : Type 0 where
  pub three : length h.mappings ≡ 3
  pub few : length h.images ≤ 4096
  pub plain : All (λ e. is_plain_text e.path ≡ true) h.images
