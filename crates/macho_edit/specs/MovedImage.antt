-- The image that a file has where a moved header stands.
use Rattle.std.specs.Prelude.{◌≡◌, ℕ, ◌+◌, ◌-◌, List, [], ◌∷◌, take, drop, length, map, get_or, Option, Some, None}
use Rattle.dsc_base.specs.declared.fault.Span.{Span}
use Rattle.macho_image.specs.declared.form.Form.TheVariants.{Standalone, Cached}
use Rattle.macho_image.specs.declared.place.Moved.{Moved}
use Rattle.macho_image.specs.declared.section.Section.{Section}
use Rattle.macho_image.specs.Records.{Seg, StreamBytes, Img}
use Rattle.macho_image.specs.Macho.{commands_of, command_where, is_dyld_info, is_symtab, is_dysymtab, is_function_starts, is_data_in_code}
use Rattle.macho_image.specs.Breaks.{image_at}
use Rattle.macho_edit.specs.declared.segment.SegmentPlace.{SegmentPlace}
use Rattle.macho_edit.specs.declared.spots.LinkSpots.{LinkSpots}
use Rattle.macho_edit.specs.Cached.{formed_header, unrebased, kept_header}
use Rattle.macho_edit.specs.Placed.{places_of, IsLinked, IsPlaced}

-- a segment at a place, with its bytes of the file b
abbrev pub seated : List ℕ → SegmentPlace → Seg → Seg
seated b p s = record s { vmaddr = p.address; vmsize = p.vmsize; fileoff = p.file; filesize = p.filesize; bytes = take p.filesize (drop p.file b) }

abbrev pub seated_all : List ℕ → List SegmentPlace → List Seg → List Seg
seated_all b [] ss = []
seated_all b (p ∷ ps) [] = []
seated_all b (p ∷ ps) (s ∷ ss) = seated b p s ∷ seated_all b ps ss

-- a section as far from its segment's new start as it was from the old one
abbrev pub followed : List Seg → List SegmentPlace → Section → Section
followed segments places x =
    record x { addr = get_or (map (λ p. p.address) places) x.segment 0 + (x.addr - get_or (map (λ s. s.vmaddr) segments) x.segment 0) }

-- the bytes of a span, where the header has the command that names it
abbrev pub named_by : Option (List ℕ) → List ℕ → Span → List ℕ
named_by None b s = []
named_by (Some c) b s = take s.len (drop s.at b)

abbrev pub spotted_streams : LinkSpots → List ℕ → List (List ℕ) → StreamBytes
spotted_streams spots b cs =
    let info = command_where is_dyld_info cs in
    let symtab = command_where is_symtab cs in
    record {
      rebase = named_by info b spots.rebase;
      bind = named_by info b spots.bind;
      weak = [];
      lazy = named_by info b spots.lazy;
      exports = named_by info b spots.exports;
      split = None;
      function_starts = named_by (command_where is_function_starts cs) b spots.function_starts;
      data_in_code = named_by (command_where is_data_in_code cs) b spots.data_in_code;
      symbols = named_by symtab b spots.symbols;
      strings = named_by symtab b spots.strings;
      indirect = named_by (command_where is_dysymtab cs) b spots.indirect;
    }

abbrev pub spotted_groups : LinkSpots → Option (List ℕ) → List ℕ
spotted_groups spots None = 0 ∷ 0 ∷ 0 ∷ 0 ∷ 0 ∷ 0 ∷ []
spotted_groups spots (Some c) = spots.groups

-- an image whose segments stand at places of the file b, with these streams and groups and this header
abbrev pub placed_image : Img → List SegmentPlace → StreamBytes → List ℕ → List ℕ → List ℕ → Img
placed_image image places streams groups header b = record {
  install_name = image.install_name;
  segments = seated_all b places image.segments;
  sections = map (followed image.segments places) image.sections;
  dependencies = image.dependencies;
  streams = streams;
  groups = groups;
  uuid = image.uuid;
  has_dyld_info = image.has_dyld_info;
  header = header;
}

-- the image in the cache
unfoldable pub moved_image : Img → List Moved → LinkSpots → List ℕ → Img
moved_image image moves spots b =
    let cs = commands_of image.header in
    placed_image image (places_of spots moves image.segments) (spotted_streams (unrebased spots) b cs) (spotted_groups spots (command_where is_dysymtab cs))
    (kept_header spots moves image.header) b

-- the image in a file of its own
unfoldable pub standalone_image : Img → List Moved → LinkSpots → List ℕ → Img
standalone_image image moves spots b =
    let cs = commands_of image.header in
    placed_image image (places_of spots moves image.segments) (spotted_streams spots b cs) (spotted_groups spots (command_where is_dysymtab cs))
    (formed_header Standalone spots moves image.header) b

-- in every cache that has these bytes for the image's header, with all that they name in place, the image is the moved one: it breaks no rule
abbrev pub Rereads : Img → List Moved → LinkSpots → List ℕ → Type 0
Rereads image moves spots header =
    (b : List ℕ) (h : ℕ) → take (length header) (drop h b) ≡ header → IsPlaced image moves spots b h → image_at Cached b h ≡ Some (moved_image image moves spots b)

-- the same of every file of its own, where the rebases are in the linkedit too
abbrev pub RereadsAlone : Img → List Moved → LinkSpots → List ℕ → Type 0
RereadsAlone image moves spots header =
    (b : List ℕ) (h : ℕ) → take (length header) (drop h b) ≡ header → IsPlaced image moves spots b h → IsLinked spots spots.rebase → image_at Standalone b h ≡ Some (standalone_image image moves spots b)

-- wherever bytes with this header spell an image of a cache, it is the moved one
abbrev pub SpellsMoved : Img → List Moved → LinkSpots → List ℕ → Type 0
SpellsMoved image moves spots header =
    (b : List ℕ) (h : ℕ) (i : Img) → take (length header) (drop h b) ≡ header → image_at Cached b h ≡ Some i → i ≡ moved_image image moves spots b

-- the same of a file of its own, which begins with the header
abbrev pub SpellsAlone : Img → List Moved → LinkSpots → List ℕ → Type 0
SpellsAlone image moves spots header =
    (b : List ℕ) (i : Img) → take (length header) b ≡ header → image_at Standalone b 0 ≡ Some i → i ≡ standalone_image image moves spots b
