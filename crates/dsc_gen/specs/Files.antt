-- The files of generated images.
use Rattle.std.specs.Prelude.{◌≤◌, ◌<◌, ◌^◌, ℕ, zero, suc, ◌+◌, ◌*◌, ◌/◌, List, [], ◌∷◌, ◌++◌, length}
use Rattle.rand_pcg.specs.Lcg.{Lcg}
use Rattle.dsc_base.specs.Region.{padded}
use Rattle.export_trie.specs.Writing.{trie_bytes}
use Rattle.dsc_gen.specs.declared.shape.Shape.{Shape}
use Rattle.dsc_gen.specs.declared.spots.Spot.{Spot}
use Rattle.dsc_gen.specs.declared.spots.Spots.{Spots}
use Rattle.dsc_gen.specs.Draws.{Draw, segment_size, text_start, seeded, drawn, behind}
use Rattle.dsc_gen.specs.Contents.{text_bytes, data_bytes}
use Rattle.dsc_gen.specs.Streams.{rebase_stream, bind_stream, exports_from}
use Rattle.dsc_gen.specs.Split.{split_stream}
use Rattle.dsc_gen.specs.Commands.{header_bytes}

-- what a shape must be: the pointers and the links have 32 bytes of the data each, and each delta 16 bytes of the text's section
pub record IsShape (shape : Shape) : Type 0 where
  pub some : 1 ≤ shape.pages
  pub few : shape.pages ≤ 256
  pub fits : shape.pointers + shape.links ≤ 128 * shape.pages

-- the parts of the linkedit
pub record Parts : Type 0 where
  pub rebase : List ℕ
  pub bind : List ℕ
  pub exports : List ℕ
  pub split : List ℕ

-- image 0 links to itself, each other one to the image before it
abbrev pub ordinal_of : ℕ → ℕ
ordinal_of zero = 0
ordinal_of (suc k) = 1

unfoldable pub parts_of : Shape → ℕ → Draw → Parts
parts_of shape k draw = record {
  rebase = rebase_stream shape.pointers;
  bind = bind_stream (ordinal_of k) shape.pointers draw.symbols;
  exports = trie_bytes (exports_from (segment_size shape) 0 draw.exports);
  split = split_stream (segment_size shape) draw.targets;
}

-- the least multiple of 8 that is not below n
abbrev pub room : ℕ → ℕ
room n = (n + 7) / 8 * 8

-- where the parts begin, each at the next multiple of 8
abbrev pub bind_offset : Parts → ℕ
bind_offset p = room (length p.rebase)

abbrev pub exports_offset : Parts → ℕ
exports_offset p = bind_offset p + room (length p.bind)

abbrev pub split_offset : Parts → ℕ
split_offset p = exports_offset p + room (length p.exports)

abbrev pub linkedit_size : Parts → ℕ
linkedit_size p = split_offset p + length p.split

abbrev pub spot : ℕ → List ℕ → Spot
spot offset bytes = record { offset = offset; size = length bytes }

abbrev pub spots_of : ℕ → Parts → Spots
spots_of start p = record {
  rebase = spot start p.rebase;
  bind = spot (start + bind_offset p) p.bind;
  exports = spot (start + exports_offset p) p.exports;
  split = spot (start + split_offset p) p.split;
}

-- none of the parts has more bytes than fields of four bytes have room for
pub record AreSmall (p : Parts) : Type 0 where
  pub rebase : length p.rebase < 2 ^ 28
  pub bind : length p.bind < 2 ^ 28
  pub exports : length p.exports < 2 ^ 28
  pub split : length p.split < 2 ^ 28

-- with zeros up to a multiple of 8
abbrev pub aligned : List ℕ → List ℕ
aligned bytes = padded (room (length bytes)) bytes

abbrev pub linkedit_bytes : Parts → List ℕ
linkedit_bytes p = aligned p.rebase ++ (aligned p.bind ++ (aligned p.exports ++ p.split))

-- the file of image k: the header up to the text's section, that section, the data, and the linkedit
abbrev pub file_with : Shape → ℕ → Draw → Parts → List ℕ
file_with shape k draw parts =
    padded text_start (header_bytes (segment_size shape) k (linkedit_size parts) draw.identifier (spots_of (2 * segment_size shape) parts))
    ++ (text_bytes (segment_size shape) draw.code draw.targets
    ++ (data_bytes (segment_size shape) draw.pointers ++ linkedit_bytes parts))

unfoldable pub file_of : Shape → ℕ → Draw → List ℕ
file_of shape k draw = file_with shape k draw (parts_of shape k draw)

-- the files of so many images from image k on
unfoldable pub files_from : Shape → ℕ → ℕ → Lcg → List (List ℕ)
files_from shape k zero g = []
files_from shape k (suc more) g = file_of shape k (drawn shape g) ∷ files_from shape (suc k) more (behind shape g)

unfoldable pub generated : ℕ → ℕ → Shape → List (List ℕ)
generated seed count shape = files_from shape 0 count (seeded seed)
