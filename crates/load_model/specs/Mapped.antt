-- Mapping a cache at a slide, and the images that a mapped cache holds.
use Rattle.std.specs.Prelude.{◌≡◌, ◌≤◌, ℕ, ◌+◌, ◌*◌, List, [], ◌∷◌, take, drop, map, Option}
use Rattle.std.specs.List.{flat_map}
use Rattle.dsc_base.specs.Region.{region_start}
use Rattle.macho_image.specs.Records.{Img}
use Rattle.macho_image.specs.Breaks.{image_at}
use Rattle.macho_image.specs.declared.form.Form.TheVariants.{Cached}
use Rattle.slide_chain.specs.Chains.{Slide, slid_area}
use Rattle.slide_chain.specs.Info.{info_read}
use Rattle.macho_image.specs.Places.{wrap, above}
use Rattle.load_model.specs.Memory.{Cells, nowhere, with_bytes}
use Rattle.cache_header.specs.declared.head.Mapping.{Mapping}
use Rattle.cache_header.specs.Reading.{mappings_of, image_address, slide_info_bytes}

-- the mappings of a cache by their sizes, one behind the other: text, data and linkedit
abbrev pub three_mappings : ℕ → ℕ → ℕ → List Mapping
three_mappings a b c =
    record { address = region_start; size = a; file = 0; max_prot = 5; init_prot = 5 }
    ∷ record { address = region_start + a; size = b; file = a; max_prot = 3; init_prot = 3 }
    ∷ record { address = region_start + (a + b); size = c; file = a + b; max_prot = 1; init_prot = 1 } ∷ []

-- a range of memory with its bytes
pub record Piece : Type 0 where
  pub address : ℕ
  pub bytes : List ℕ

abbrev pub piece_of : List ℕ → Mapping → Piece
piece_of cache m = record { address = m.address; bytes = take m.size (drop m.file cache) }

-- the second mapping has the data: each word that the chains reach is slid there
abbrev pub with_slid_data : Slide → ℕ → List Piece → List Piece
with_slid_data info slide [] = []
with_slid_data info slide (text ∷ []) = text ∷ []
with_slid_data info slide (text ∷ writable ∷ rest) =
    text ∷ record { address = writable.address; bytes = slid_area info slide writable.bytes } ∷ rest

-- the mappings' bytes at a slide, at their unslid addresses
unfoldable pub pieces_of : List ℕ → ℕ → List Piece
pieces_of cache slide = with_slid_data (info_read (slide_info_bytes cache)) slide (map (piece_of cache) (mappings_of cache))

unfoldable pub cells_of : ℕ → List Piece → Cells
cells_of slide [] = nowhere
cells_of slide (p ∷ ps) = with_bytes (wrap (p.address + slide)) p.bytes (cells_of slide ps)

-- the cache in memory
abbrev pub mapped : List ℕ → ℕ → Cells
mapped cache slide = cells_of slide (pieces_of cache slide)

-- the bytes of the cache mapped at slide 0, in file order
unfoldable pub flat : List ℕ → List ℕ
flat cache = flat_map (λ (p : Piece). p.bytes) (pieces_of cache 0)

-- image k of a cache: the Mach-O image whose header is at the address of entry k of the image table
unfoldable pub cached_image : List ℕ → ℕ → Option Img
cached_image cache k = image_at Cached (flat cache) (above region_start (image_address cache k))

-- a slide is permitted where it is a multiple of the page size up to the header's greatest slide
pub record IsPermitted (greatest slide : ℕ) : Type 0 where
  pub pages : ℕ
  pub whole : slide ≡ pages * 4096
  pub within : slide ≤ greatest
