-- A mapped cache corresponds to files that are loaded separately.
use Rattle.std.specs.Prelude.{◌≡◌, ◌<◌, ℕ, ◌+◌, ◌*◌, ◌^◌, nat_eq, if◌then◌else◌, List, [], ◌∷◌, ◌++◌, length, filter, not, Option, Some, None, slice_get, ◌⊎◌}
use Rattle.std.specs.List.{flat_map}
use Rattle.dsc_base.specs.Numbers.{big_number}
use Rattle.macho_image.specs.Records.{Seg, Img}
use Rattle.macho_image.specs.Rules.{is_linkedit_segment}
use Rattle.macho_image.specs.declared.section.Section.{Section}
use Rattle.macho_image.specs.declared.places.segment_index.Inside.{Inside}
use Rattle.macho_image.specs.Places.{wrap, above, numbered_section}
use Rattle.macho_image.specs.Segments.{start_of, header_address, segments_in, inside}
use Rattle.split_info.specs.declared.reference.RefKind.{RefKind}
use Rattle.split_info.specs.References.{width_of}
use Rattle.export_trie.specs.declared.export.Export.{Export}
use Rattle.export_trie.specs.declared.export.Target.{Target}
use Rattle.export_trie.specs.declared.export.Target.TheVariants.{Offset, Absolute, Reexport}
use Rattle.export_trie.specs.Exports.{exports_of}
use Rattle.export_trie.specs.Order.{trie_break}
use Rattle.prebind.specs.declared.resolved.WordTarget.{WordTarget}
use Rattle.prebind.specs.Sets.{ImageSet}
use Rattle.prebind.specs.Numbers.{Starts, LeadsTo}
use Rattle.prebind.specs.Words.{Word, words_of}
use Rattle.cache_header.specs.Reading.{image_count, image_path}
use Rattle.load_model.specs.Memory.{Cells, HasNumber}
use Rattle.load_model.specs.Loading.{loaded, loaded_starts}
use Rattle.load_model.specs.Mapped.{mapped, cached_image}

-- ---- shapes

-- The shape of an image, as a list of numbers: how many segments it has besides __LINKEDIT; for each of
-- them its name, size, protection and number of sections; and for each of its sections the name, the
-- distance from its segment's start, and the size.
abbrev pub section_shape : Seg → Section → List ℕ
section_shape segment s = big_number 16 s.name ∷ above segment.vmaddr s.addr ∷ s.size ∷ []

-- the sections of segment number g
abbrev pub sections_of : Img → ℕ → List Section
sections_of image g = filter (λ (s : Section). nat_eq s.segment g) image.sections

abbrev pub segment_shape : Seg → List Section → List ℕ
segment_shape segment sections =
    (big_number 16 segment.name ∷ segment.vmsize ∷ segment.initprot ∷ length sections ∷ []) ++ flat_map (section_shape segment) sections

abbrev pub shapes_from : Img → ℕ → List Seg → List ℕ
shapes_from image g [] = []
shapes_from image g (s ∷ ss) =
    (if is_linkedit_segment s then [] else segment_shape s (sections_of image g)) ++ shapes_from image (g + 1) ss

unfoldable pub shape_of : Img → List ℕ
shape_of image = length (filter (λ (s : Seg). not (is_linkedit_segment s)) image.segments) ∷ shapes_from image 0 image.segments

-- ---- exports

-- two exports lead to the same: the same place, the same number, or the same symbol of the same dependency
abbrev pub SameTarget : Img → Img → Target → Target → Type 0
SameTarget file cached (Offset o) (Offset p) =
    (place : Inside) × (inside file.segments (wrap (header_address file.segments + o)) ≡ Some place) × (inside cached.segments (wrap (header_address cached.segments + p)) ≡ Some place)
SameTarget file cached (Absolute v) (Absolute w) = v ≡ w
SameTarget file cached (Reexport ordinal name) (Reexport other text) = (ordinal ≡ other) × (name ≡ text)
SameTarget file cached _ _ = ⊥

abbrev pub SameExports : Img → Img → List Export → List Export → Type 0
SameExports file cached [] [] = Unit {0}
SameExports file cached (e ∷ es) (f ∷ fs) =
    (f.name ≡ e.name) × (f.flags ≡ e.flags) × SameTarget file cached e.target f.target × SameExports file cached es fs
SameExports file cached _ _ = ⊥

-- ---- words

-- a byte of a section, so far from its start, belongs to a word that stands there; sections count from 1
abbrev pub Covers : ℕ → Section → ℕ → Word → Type 0
Covers number s offset w = (w.at.section ≡ number) × (k : ℕ) × (k < width_of w.kind) × (s.addr + offset ≡ w.at.address + k)

abbrev pub InWord : List Word → ℕ → Section → ℕ → Type 0
InWord [] number s offset = ⊥
InWord (w ∷ ws) number s offset = Covers number s offset w ⊎ InWord ws number s offset

abbrev pub IsWordOf : List Word → Word → Type 0
IsWordOf [] w = ⊥
IsWordOf (v ∷ vs) w = (w ≡ v) ⊎ IsWordOf vs w

-- ---- one image on both sides

-- one side: what is in memory, where segments start there, and the slide of the image or of the cache
pub record Side : Type 0 where
  pub cells : Cells
  pub starts : Starts
  pub slide : ℕ

-- the number of a word at an address is there and leads to the word's target, where the image's header stands so before sliding
pub record Leads (side : Side) (address header : ℕ) (kind : RefKind) (target : WordTarget) : Type 0 where
  pub number : ℕ
  pub fits : number < 2 ^ (8 * width_of kind)
  pub there : HasNumber (width_of kind) side.cells (wrap (address + side.slide)) number
  pub leads : LeadsTo side.starts (wrap (address + side.slide)) (wrap (header + side.slide)) kind number target

-- a word stands so far from the start of a section of the file, and as far from that of the same section of the cached image; on each side it leads to its target
pub record WordCorresponds (file cached : Img) (separate together : Side) (w : Word) : Type 0 where
  pub section : Section
  pub section_is : numbered_section file.sections w.at.section ≡ Some section
  pub same : Section
  pub same_is : numbered_section cached.sections w.at.section ≡ Some same
  pub offset : ℕ
  pub place : w.at.address ≡ section.addr + offset
  pub loaded : Leads separate (section.addr + offset) (header_address file.segments) w.kind w.target
  pub mapped : Leads together (same.addr + offset) (header_address cached.segments) w.kind w.target

-- One file and its cached image, in memory: the file loaded at one slide, the cache mapped at another.
pub record ImageCorresponds (file cached : Img) (ws : List Word) (separate together : Side) : Type 0 where
  pub shape : shape_of cached ≡ shape_of file
  pub words : (w : Word) → IsWordOf ws w → WordCorresponds file cached separate together w
  -- each other byte of each section is there and is the same
  pub bytes : (j offset : ℕ) (s : Section) → slice_get file.sections j ≡ Some s → offset < s.size → (InWord ws (j + 1) s offset → ⊥)
      → (t : Section) × (slice_get cached.sections j ≡ Some t)
      × (b : ℕ) × (separate.cells (wrap (s.addr + offset + separate.slide)) ≡ Some b) × (together.cells (wrap (t.addr + offset + together.slide)) ≡ Some b)
  pub trie : trie_break cached.streams.exports ≡ None
  pub exports : SameExports file cached (exports_of file.streams.exports) (exports_of cached.streams.exports)

-- ---- a set

-- where each segment of a cached set starts once the cache is mapped
abbrev pub mapped_starts : (ℕ → Option Img) → ℕ → Starts
mapped_starts cached slide k g = wrap (start_of (slice_get (segments_in (cached k)) g) + slide)

-- image k of a set that is loaded, and a cache that is mapped
abbrev pub loaded_side : ImageSet → (ℕ → ℕ) → ℕ → Side
loaded_side set slides k = record { cells = loaded set slides k; starts = loaded_starts set slides; slide = slides k }

abbrev pub mapped_side : List ℕ → ℕ → Side
mapped_side cache slide = record { cells = mapped cache slide; starts = mapped_starts (cached_image cache) slide; slide = slide }

-- A set of files, each loaded at a slide of its own, and a cache that is mapped at one.
pub record Corresponds (set : ImageSet) (slides : ℕ → ℕ) (cache : List ℕ) (slide : ℕ) : Type 0 where
  pub count : image_count cache ≡ length set.images
  pub paths : (k : ℕ) (file : Img) → slice_get set.images k ≡ Some file → image_path cache k ≡ file.install_name
  pub images : (k : ℕ) (file : Img) → slice_get set.images k ≡ Some file
      → (image : Img) × (cached_image cache k ≡ Some image) × ImageCorresponds file image (words_of set k) (loaded_side set slides k) (mapped_side cache slide)
