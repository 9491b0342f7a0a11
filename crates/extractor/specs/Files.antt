-- What the code keeps while the file of an image is made: the parts of its linkedit, and where each stands.
use Rattle.std.specs.Prelude.{◌≡◌, ◌≤◌, ℕ, ◌+◌, ◌-◌, ◌*◌, List, [], ◌∷◌, ◌++◌, length, slice_index_or}
use Rattle.std.specs.List.{All, flat_map}
use Rattle.dsc_base.specs.Limits.{span_limit}
use Rattle.dsc_base.specs.Numbers.{little_bytes}
use Rattle.dsc_base.specs.Region.{region_start, paged}
use Rattle.dsc_base.specs.declared.fault.Span.{Span}
use Rattle.macho_image.specs.Records.{Seg, StreamBytes, Img}
use Rattle.macho_image.specs.declared.place.Location.{Location}
use Rattle.macho_image.specs.declared.place.Moved.{Moved}
use Rattle.macho_edit.specs.declared.spots.LinkSpots.{LinkSpots}
use Rattle.nlist_table.specs.Symbols.{Tabs, tables_of}
use Rattle.rebase_ops.specs.Writing.{CanBeWritten}
use Rattle.linkedit_merge.specs.Linkedit.{symbol_bytes}
use Rattle.linkedit_merge.specs.Pool.{pool_bytes}
use Rattle.extractor.specs.declared.linkedit.OwnParts.{OwnParts}
use Rattle.extractor.specs.declared.parts.StreamSpans.{StreamSpans}
use Rattle.extractor.specs.declared.parts.TableSpans.{TableSpans}
use Rattle.extractor.specs.declared.parts.PartSpans.{PartSpans}
use Rattle.extractor.specs.ExtractOf.{rebase_stream, linkedit_of, linkedit_limit, linkedit_address, bodies_of}
use Rattle.linkedit_merge.specs.Indices.{names_of, IsPool}
use Rattle.extractor.specs.Prepared.{names_in}
use Rattle.extractor.specs.Reading.{IsRead}

-- ---- what an image needs

-- a segment in the shared region, whose memory is all in the file
pub record IsPlaced (s : Seg) : Type 0 where
  pub low : region_start ≤ s.vmaddr
  pub high : s.vmaddr + s.vmsize ≤ region_start + span_limit
  pub filled : s.filesize ≡ s.vmsize

-- an image with words that slide and aren't bound, of which a file can be made
pub record CanExtract (i : Img) (words : List Location) : Type 0 where
  pub read : IsRead i
  pub written : CanBeWritten i words
  pub linkedit : length (linkedit_of i words) ≤ linkedit_limit
  pub bodies : All IsPlaced (bodies_of i)

-- the whole pages of segments
unfoldable pub all_pages : List Seg → ℕ
all_pages [] = 0
all_pages (s ∷ ss) = paged s.vmsize + all_pages ss

-- where the last of some segments goes in the file
abbrev pub last_file : List Moved → ℕ
last_file moves = (slice_index_or moves (length moves - 1) (record { address = 0; file = 0 })).file

-- ---- the parts of its linkedit

pub record AreOwnParts (i : Img) (words : List Location) (p : OwnParts) : Type 0 where
  pub rebase : p.rebase.items ≡ rebase_stream i words
  pub tables : p.tables ≡ tables_of i
  pub pool : IsPool linkedit_limit p.pool
  pub names : names_of p.pool ≡ names_in (tables_of i)
  pub size : p.size ≡ length (linkedit_of i words)

-- tables whose entries have no more bytes than a linkedit may have
pub record AreFew (t : Tabs) : Type 0 where
  pub symbols : 16 * length t.symbols ≤ linkedit_limit
  pub indirect : 4 * length t.indirect ≤ linkedit_limit

abbrev pub stream_parts : List ℕ → StreamBytes → List (List ℕ)
stream_parts rebase s = rebase ∷ s.bind ∷ s.lazy ∷ s.exports ∷ s.function_starts ∷ s.data_in_code ∷ []

abbrev pub table_parts : List (List ℕ) → Tabs → List (List ℕ)
table_parts names t = flat_map (symbol_bytes names) t.symbols ∷ flat_map (little_bytes 4) t.indirect ∷ pool_bytes names ∷ []

-- ---- where they stand

abbrev pub stream_spans : StreamSpans → List Span
stream_spans s = s.rebase ∷ s.bind ∷ s.lazy ∷ s.exports ∷ s.function_starts ∷ s.data_in_code ∷ []

abbrev pub table_spans : TableSpans → List Span
table_spans t = t.symbols ∷ t.indirect ∷ t.strings ∷ []

abbrev pub part_spans : PartSpans → List Span
part_spans p = stream_spans p.streams ++ table_spans p.tables

-- the spots of image k, whose linkedit has so many bytes from a place in the file on
unfoldable pub own_spots : ℕ → ℕ → ℕ → PartSpans → List ℕ → LinkSpots
own_spots k start size p groups = record {
  linkedit = record { address = linkedit_address k; file = start };
  vmsize = paged size;
  filesize = size;
  rebase = p.streams.rebase;
  bind = p.streams.bind;
  lazy = p.streams.lazy;
  exports = p.streams.exports;
  function_starts = p.streams.function_starts;
  data_in_code = p.streams.data_in_code;
  symbols = p.tables.symbols;
  indirect = p.tables.indirect;
  strings = p.tables.strings;
  groups = groups;
}
