-- What is read back of a linkedit by an image's spots.
use Rattle.std.specs.Prelude.{◌≡◌, ◌<◌, ℕ, ◌^◌, List, [], length, Some, None, slice_get, slice_index_or, All}
use Rattle.macho_image.specs.Nlists.{nlists_of, indirect_of}
use Rattle.macho_image.specs.Records.{Img}
use Rattle.macho_image.specs.declared.place.Moved.{Moved}
use Rattle.export_trie.specs.declared.export.Export.{Export}
use Rattle.export_trie.specs.Exports.{exports_of}
use Rattle.export_trie.specs.Order.{trie_break}
use Rattle.export_trie.specs.Writing.{trie_bytes}
use Rattle.linkedit_merge.specs.Exports.{moved_exports}
use Rattle.macho_edit.specs.declared.spots.LinkSpots.{LinkSpots}
use Rattle.nlist_table.specs.Symbols.{Sym, Tabs, tables_from}
use Rattle.linkedit_merge.specs.Parts.{bytes_in}
use Rattle.linkedit_merge.specs.Shares.{Share}

-- what the types of the fields of tables say
pub record FitsSymbol (s : Sym) : Type 0 where
  pub desc : s.desc < 2 ^ 16
  pub value : s.value < 2 ^ 64

pub record HasFields (t : Tabs) : Type 0 where
  pub symbols : All FitsSymbol t.symbols
  pub indirect : All (λ index. index < 2 ^ 32) t.indirect
  pub groups : length t.groups ≡ 6

-- the tables that an image has of a linkedit that starts at a place of the file
abbrev pub tables_at : ℕ → List ℕ → LinkSpots → Tabs
tables_at start linkedit spots =
    tables_from (bytes_in start linkedit spots.strings) (nlists_of (bytes_in start linkedit spots.symbols)) spots.groups (indirect_of (bytes_in start linkedit spots.indirect))

-- an image finds what it has: the streams byte by byte, and the tables as they are read of any image, with the same names, and indices at the same symbols
pub record ReadsBack (start : ℕ) (linkedit : List ℕ) (share : Share) (spots : LinkSpots) : Type 0 where
  pub bind : bytes_in start linkedit spots.bind ≡ share.bind
  pub lazy : bytes_in start linkedit spots.lazy ≡ share.lazy
  pub exports : bytes_in start linkedit spots.exports ≡ share.exports
  pub function_starts : bytes_in start linkedit spots.function_starts ≡ share.function_starts
  pub data_in_code : bytes_in start linkedit spots.data_in_code ≡ share.data_in_code
  pub tables : tables_at start linkedit spots ≡ share.tables

-- each image does
abbrev pub AllReadBack : ℕ → List ℕ → List Share → List LinkSpots → Type 0
AllReadBack start linkedit shares spots =
    (k : ℕ) (share : Share) (s : LinkSpots) → slice_get shares k ≡ Some share → slice_get spots k ≡ Some s → ReadsBack start linkedit share s

-- the trie that is written of exports breaks no rule and has these exports
pub record IsTrie (exports : List Export) : Type 0 where
  pub accepted : trie_break (trie_bytes exports) ≡ None
  pub back : exports_of (trie_bytes exports) ≡ exports

-- those of each of so many images do
abbrev pub AreTries : List (List Export) → ℕ → Type 0
AreTries exports count = (k : ℕ) → k < count → IsTrie (slice_index_or exports k [])

-- the tries of all images, with moved offsets
abbrev pub HaveMovedTries : List Img → List (List Moved) → Type 0
HaveMovedTries images moves =
    (k : ℕ) (image : Img) → slice_get images k ≡ Some image → IsTrie (moved_exports image.segments (slice_index_or moves k []) (exports_of image.streams.exports))
