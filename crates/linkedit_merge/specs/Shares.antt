-- What an image has in a merged linkedit: the bytes of its streams, its export trie with moved offsets, and its tables with moved values.
use Rattle.std.specs.Prelude.{ℕ, List, [], map, slice_index_or}
use Rattle.macho_image.specs.Records.{Img}
use Rattle.macho_image.specs.declared.place.Moved.{Moved}
use Rattle.export_trie.specs.Exports.{exports_of}
use Rattle.export_trie.specs.Writing.{trie_bytes}
use Rattle.nlist_table.specs.Symbols.{Sym, Tabs}
use Rattle.nlist_table.specs.Moving.{moved_value}
use Rattle.cache_layout.specs.Places.{numbered}
use Rattle.linkedit_merge.specs.Exports.{moved_exports}

pub record Share : Type 0 where
  pub bind : List ℕ
  pub lazy : List ℕ
  pub exports : List ℕ
  pub function_starts : List ℕ
  pub data_in_code : List ℕ
  pub tables : Tabs

-- all that a table tells of a symbol but its value is kept
abbrev pub moved_symbol : Img → List Moved → Sym → Sym
moved_symbol image moves s = record { name = s.name; alias = s.alias; kind = s.kind; section = s.section; desc = s.desc; value = moved_value s image moves }

abbrev pub moved_tables : Img → List Moved → Tabs → Tabs
moved_tables image moves t = record { symbols = map (moved_symbol image moves) t.symbols; indirect = t.indirect; groups = t.groups }

-- the trie of an image with moved offsets
abbrev pub moved_trie : Img → List Moved → List ℕ
moved_trie image moves = trie_bytes (moved_exports image.segments moves (exports_of image.streams.exports))

unfoldable pub share_of : Img → Tabs → List Moved → Share
share_of image tables moves = record {
  bind = image.streams.bind;
  lazy = image.streams.lazy;
  exports = moved_trie image moves;
  function_starts = image.streams.function_starts;
  data_in_code = image.streams.data_in_code;
  tables = moved_tables image moves tables;
}

-- those of all images, by their tables and where their segments go
abbrev pub no_tables : Tabs
no_tables = record { symbols = []; indirect = []; groups = [] }

abbrev pub share_at : List Tabs → List (List Moved) → ℕ → Img → Share
share_at tables moves k image = share_of image (slice_index_or tables k no_tables) (slice_index_or moves k [])

unfoldable pub shares_of : List Img → List Tabs → List (List Moved) → List Share
shares_of images tables moves = numbered (share_at tables moves) images
