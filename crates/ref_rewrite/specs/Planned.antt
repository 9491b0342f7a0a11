-- What is planned for each image of a set, by a layout and by the words that are bound or rebased.
use Rattle.std.specs.Prelude.{◌≡◌, ℕ, ◌-◌, Bool, true, false, not, ◌&&◌, nat_eq, List, [], ◌++◌, length, map, filter, take, Some, None, slice_get, slice_index_or}
use Rattle.std.specs.List.{flat_map, enumerate_from}
use Rattle.dsc_base.specs.declared.fault.Span.{Span}
use Rattle.macho_image.specs.Records.{Seg, Img}
use Rattle.macho_image.specs.Rules.{is_linkedit_segment}
use Rattle.prebind.specs.declared.resolved.WordTarget.{WordTarget}
use Rattle.prebind.specs.declared.resolved.WordTarget.TheVariants.{Place, Constant}
use Rattle.prebind.specs.declared.resolved.PlacedWord.{PlacedWord}
use Rattle.prebind.specs.Sets.{StreamLists, ImageSet, IsSplitRead}
use Rattle.prebind.specs.Words.{Word, pointer_word, reference_word, is_no_pointer, streams_at}
use Rattle.cache_layout.specs.declared.mapping.Mapping.{Mapping}
use Rattle.cache_layout.specs.declared.mapping.Mapping.TheVariants.{Text, Writable, Fixed}
use Rattle.cache_layout.specs.Places.{segments_room, image_start, numbered}
use Rattle.cache_layout.specs.Layouts.{Laid, layout_of, layout_break}
use Rattle.cache_layout.specs.Apart.{move_at}
use Rattle.ref_rewrite.specs.Moving.{header_move, new_offset, edit_of}
use Rattle.ref_rewrite.specs.Plans.{Part, Plan}

-- ---- what is given

-- the split-segment information of each image was read
abbrev pub AreSplitRead : ImageSet → Type 0
AreSplitRead set = (k : ℕ) (image : Img) (s : StreamLists) → slice_get set.images k ≡ Some image → slice_get set.streams k ≡ Some s → IsSplitRead image s

-- the layout of images that aren't too large for one
pub record IsLayout (l : Laid) (images : List Img) : Type 0 where
  pub is : l ≡ layout_of images
  pub fits : layout_break images ≡ None

-- ---- what is planned for one image

-- each segment other than `__LINKEDIT`, at its place
abbrev pub is_copied : ℕ × Seg → Bool
is_copied p = not (is_linkedit_segment p.1)

abbrev pub copy_of : Laid → ℕ → ℕ × Seg → Part
copy_of l k p = record { at = (move_at l k p.0).file; bytes = (p.1).bytes }

abbrev pub copies_of : Laid → ℕ → List Seg → List Part
copies_of l k segments = map (copy_of l k) (filter is_copied (enumerate_from 0 segments))

-- the words: pointers in address order, then references in reading order
abbrev pub words_with : ℕ → Img → StreamLists → List PlacedWord → List Word
words_with k image s placed =
    map pointer_word placed ++ map (reference_word k image.sections image.segments) (filter is_no_pointer s.references)

-- an image's part of a mapping
abbrev pub span_in : Mapping → List Img → ℕ → Img → Span
span_in m images k image = record { at = image_start images (take k images) m; len = segments_room m image.segments }

-- the offsets in the data mapping of the pointers that lead to places, by segments
abbrev pub leads_to_place : WordTarget → Bool
leads_to_place (Place k g distance) = true
leads_to_place (Constant c) = false

abbrev pub is_chained : ℕ → PlacedWord → Bool
is_chained g w = nat_eq w.at.segment g && leads_to_place w.target

abbrev pub data_offset : Laid → ℕ → List Seg → PlacedWord → ℕ
data_offset l k segments w = new_offset l k segments w.at.segment w.at.address - l.writable.at

abbrev pub chained_in : Laid → ℕ → List Seg → List PlacedWord → ℕ × Seg → List ℕ
chained_in l k segments placed p = map (data_offset l k segments) (filter (is_chained p.0) placed)

abbrev pub chained_words : Laid → ℕ → List Seg → List PlacedWord → List ℕ
chained_words l k segments placed = flat_map (chained_in l k segments placed) (enumerate_from 0 segments)

unfoldable pub plan_of : Laid → List Img → ℕ → Img → StreamLists → List PlacedWord → Plan
plan_of l images k image s placed = record {
  copies = copies_of l k image.segments;
  edits = map (edit_of l k image.segments) (words_with k image s placed);
  header = [];
  header_at = (header_move l k image.segments).file;
  text = span_in Text images k image;
  writable = span_in Writable images k image;
  fixed = span_in Fixed images k image;
  words = chained_words l k image.segments placed;
}

-- ---- and for all images

abbrev pub plan_in : Laid → ImageSet → List (List PlacedWord) → ℕ → Img → Plan
plan_in l set placed k image = plan_of l set.images k image (streams_at set k) (slice_index_or placed k [])

unfoldable pub plans_of : Laid → ImageSet → List (List PlacedWord) → List Plan
plans_of l set placed = numbered (plan_in l set placed) set.images

-- ---- the same with headers

-- a header for each image, as long as its own
abbrev pub AreSized : List (List ℕ) → List Img → Type 0
AreSized headers images = (k : ℕ) (image : Img) → slice_get images k ≡ Some image → length (slice_index_or headers k []) ≡ length image.header

abbrev pub with_header : List (List ℕ) → ℕ → Plan → Plan
with_header headers k p = record p { header = slice_index_or headers k [] }

abbrev pub with_headers : List (List ℕ) → List Plan → List Plan
with_headers headers plans = numbered (with_header headers) plans
