-- The merged linkedit of a cache: of each image its bind stream, lazy stream, export trie, function starts and data in code; then the symbols of all images, then their indirect tables, then the string pool.
use Rattle.std.specs.Prelude.{ℕ, ◌+◌, ◌*◌, nat_eq, nat_lt, if◌then◌else◌, Option, Some, None, List, [], ◌∷◌, ◌++◌, length, take}
use Rattle.std.specs.List.{flat_map, sum_by}
use Rattle.dsc_base.specs.Numbers.{little_bytes}
use Rattle.dsc_base.specs.Limits.{span_limit}
use Rattle.dsc_base.specs.Region.{paged}
use Rattle.dsc_base.specs.declared.fault.Span.{Span}
use Rattle.dsc_base.specs.declared.fault.Break.{Break}
use Rattle.dsc_base.specs.declared.rule.Rule.TheVariants.{LinkeditTooLarge}
use Rattle.macho_image.specs.Nlists.{Nlist}
use Rattle.macho_edit.specs.declared.spots.LinkSpots.{LinkSpots}
use Rattle.nlist_table.specs.Symbols.{Sym}
use Rattle.nlist_table.specs.Spelling.{nlist_bytes}
use Rattle.cache_layout.specs.Layouts.{Laid}
use Rattle.cache_layout.specs.Places.{moved_to, numbered}
use Rattle.linkedit_merge.specs.Parts.{joined, end_behind, lens_of, span_of}
use Rattle.linkedit_merge.specs.Pool.{pooled_behind, pool_bytes, index_in, symbol_names}
use Rattle.linkedit_merge.specs.Shares.{Share}

abbrev pub streams_in : Share → List (List ℕ)
streams_in share = share.bind ∷ share.lazy ∷ share.exports ∷ share.function_starts ∷ share.data_in_code ∷ []

abbrev pub all_symbols : List Share → List Sym
all_symbols shares = flat_map (λ (share : Share). share.tables.symbols) shares

abbrev pub all_indirect : List Share → List ℕ
all_indirect shares = flat_map (λ (share : Share). share.tables.indirect) shares

-- the names of the pool
abbrev pub pool_of : List Share → List (List ℕ)
pool_of shares = pooled_behind [] (flat_map symbol_names (all_symbols shares))

-- the entry of a symbol, whose names stand in the pool; the value of another name for a symbol is that one's index
abbrev pub entry_value : List (List ℕ) → Option (List ℕ) → ℕ → ℕ
entry_value pool None value = value
entry_value pool (Some name) value = index_in pool name

abbrev pub entry_of : List (List ℕ) → Sym → Nlist
entry_of pool s = record { strx = index_in pool s.name; kind = s.kind; section = s.section; desc = s.desc; value = entry_value pool s.alias s.value }

abbrev pub symbol_bytes : List (List ℕ) → Sym → List ℕ
symbol_bytes pool s = nlist_bytes (entry_of pool s)

-- the parts that all images share, by the names of the pool
abbrev pub tables_in : List (List ℕ) → List Share → List (List ℕ)
tables_in pool shares = flat_map (symbol_bytes pool) (all_symbols shares) ∷ flat_map (little_bytes 4) (all_indirect shares) ∷ pool_bytes pool ∷ []

unfoldable pub parts_of : List Share → List (List ℕ)
parts_of shares = flat_map streams_in shares ++ tables_in (pool_of shares) shares

-- the bytes, and how many there are
unfoldable pub linkedit_of : List Share → List ℕ
linkedit_of shares = joined (parts_of shares)

unfoldable pub linkedit_size : List Share → ℕ
linkedit_size shares = end_behind 0 (lens_of (parts_of shares))

-- where the linkedit starts in the file: behind so many bytes of slide information, on a page
unfoldable pub linkedit_start : Laid → ℕ → ℕ
linkedit_start layout slide_size = paged (layout.fixed.at + layout.fixed.len + slide_size)

-- a cache that ends with the linkedit's pages may span 512 MiB
abbrev pub too_large : Break
too_large = record { rule = LinkeditTooLarge; image = 0; at = span_limit }

unfoldable pub merge_break : Laid → ℕ → List Share → Option Break
merge_break layout slide_size shares =
    if nat_lt span_limit (linkedit_start layout slide_size + paged (linkedit_size shares)) then Some too_large else None

-- ---- where an image finds its streams and tables

-- so many bytes of a range, behind others in it; 0 and 0 for none
abbrev pub within : Span → ℕ → ℕ → Span
within whole before len = if nat_eq len 0 then record { at = 0; len = 0 } else record { at = whole.at + before; len = len }

abbrev pub symbols_len : Share → ℕ
symbols_len share = 16 * length share.tables.symbols

abbrev pub indirect_len : Share → ℕ
indirect_len share = 4 * length share.tables.indirect

-- image k has five parts of its own, its symbols and indices lie behind those of the images before it, and the pool serves all
unfoldable pub spots_in : ℕ → List Share → ℕ → Share → LinkSpots
spots_in start shares k share =
    let lens = lens_of (parts_of shares) in
    let own = span_of start lens in
    let tables = 5 * length shares in
    record {
      linkedit = moved_to start;
      vmsize = paged (linkedit_size shares);
      filesize = linkedit_size shares;
      rebase = record { at = 0; len = 0 };
      bind = own (5 * k);
      lazy = own (5 * k + 1);
      exports = own (5 * k + 2);
      function_starts = own (5 * k + 3);
      data_in_code = own (5 * k + 4);
      symbols = within (own tables) (sum_by symbols_len (take k shares)) (symbols_len share);
      indirect = within (own (tables + 1)) (sum_by indirect_len (take k shares)) (indirect_len share);
      strings = own (tables + 2);
      groups = share.tables.groups;
    }

unfoldable pub spots_of : ℕ → List Share → List LinkSpots
spots_of start shares = numbered (spots_in start shares) shares
