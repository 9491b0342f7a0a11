-- The words of an image: those that are bound, the rebases that aren't, and the references of the split-segment information that are no pointers; each with where it stands and where it leads.
use Rattle.std.specs.Prelude.{◌<◌, ℕ, ◌+◌, Bool, not, nat_eq, nat_le, if◌then◌else◌, List, [], ◌∷◌, ◌++◌, length, map, filter, Option, Some, None, slice_get, slice_index_or, unwrap_or}
use Rattle.std.specs.List.{list_any}
use Rattle.std.specs.List.Sorted.{IsPermutation, IsNonDecreasingBy}
use Rattle.macho_image.specs.Records.{Seg, Img}
use Rattle.macho_image.specs.declared.place.Location.{Location}
use Rattle.macho_image.specs.declared.section.Section.{Section}
use Rattle.macho_image.specs.Places.{section_around}
use Rattle.macho_image.specs.Segments.{segments_at, value_of}
use Rattle.bind_ops.specs.Records.{BoundWord}
use Rattle.split_info.specs.declared.reference.Reference.{Reference}
use Rattle.split_info.specs.declared.reference.RefKind.{RefKind}
use Rattle.split_info.specs.declared.reference.RefKind.TheVariants.{Pointer64}
use Rattle.split_info.specs.References.{width_of}
use Rattle.split_info.specs.Overlap.{is_pointer}
use Rattle.prebind.specs.declared.resolved.WordTarget.{WordTarget}
use Rattle.prebind.specs.declared.resolved.PlacedWord.{PlacedWord}
use Rattle.prebind.specs.Sets.{StreamLists, ImageSet}
use Rattle.prebind.specs.Targets.{bound_target, outcome_of, pointer_at, rebase_target, reference_target}

-- ---- pointers

abbrev pub placed_bind : ImageSet → ℕ → BoundWord → PlacedWord
placed_bind set k b = record { at = b.at; target = bound_target b.addend (outcome_of set k b) }

abbrev pub is_bound : List BoundWord → ℕ → Bool
is_bound binds address = list_any (λ (b : BoundWord). nat_eq b.at.address address) binds

-- what the streams of image k spell
abbrev pub streams_in : Option StreamLists → StreamLists
streams_in None = record { rebases = []; binds = []; references = []; exports = [] }
streams_in (Some s) = s

abbrev pub streams_at : ImageSet → ℕ → StreamLists
streams_at set k = streams_in (slice_get set.streams k)

-- the bound words of image k, in the order of its binds
unfoldable pub bound_words : ImageSet → ℕ → List PlacedWord
bound_words set k = map (placed_bind set k) (streams_at set k).binds

-- the rebases that aren't bound, by a test of an address that is bound and by the pointer that is recorded at an address
abbrev pub is_free : (ℕ → Bool) → Location → Bool
is_free bound l = not (bound l.address)

abbrev pub rebased_word : ℕ → List Seg → (ℕ → Option ℕ) → Location → PlacedWord
rebased_word k segments pointer l = record { at = l; target = rebase_target k segments (value_of segments l) (pointer l.address) }

abbrev pub rebased_words : ℕ → List Seg → (ℕ → Bool) → (ℕ → Option ℕ) → List Location → List PlacedWord
rebased_words k segments bound pointer ls = map (rebased_word k segments pointer) (filter (is_free bound) ls)

-- all pointers of image k, by its segments and what its streams spell: those that are bound, and the rebases that aren't
abbrev pub all_pointers : ImageSet → ℕ → List Seg → StreamLists → List PlacedWord
all_pointers set k segments s = map (placed_bind set k) s.binds ++ rebased_words k segments (is_bound s.binds) (pointer_at s.references) s.rebases

unfoldable pub pointers_of : ImageSet → ℕ → List PlacedWord
pointers_of set k = all_pointers set k (segments_at set.images k) (streams_at set k)

-- ---- words of every kind

pub record Word : Type 0 where
  pub at : Location
  pub kind : RefKind
  pub target : WordTarget

abbrev pub pointer_word : PlacedWord → Word
pointer_word w = record { at = w.at; kind = Pointer64; target = w.target }

-- a reference stands in the section of its segment that holds its bytes
abbrev pub reference_location : List Section → Reference → Location
reference_location sections r = record { segment = r.from_segment; section = unwrap_or (section_around sections r.from_segment r.from (width_of r.kind)) 0; address = r.from }

abbrev pub reference_word : ℕ → List Section → List Seg → Reference → Word
reference_word k sections segments r = record { at = reference_location sections r; kind = r.kind; target = reference_target k segments r }

abbrev pub is_no_pointer : Reference → Bool
is_no_pointer r = not (is_pointer r.kind)

abbrev pub sections_in : Option Img → List Section
sections_in None = []
sections_in (Some image) = image.sections

unfoldable pub words_of : ImageSet → ℕ → List Word
words_of set k =
    map pointer_word (pointers_of set k)
    ++ map (reference_word k (sections_in (slice_get set.images k)) (segments_at set.images k)) (filter is_no_pointer (streams_at set k).references)

-- ---- their order

-- words in the order of their addresses
pub record AreOrdered (all words : List PlacedWord) : Type 0 where
  pub moved : IsPermutation all words
  pub rises : IsNonDecreasingBy (λ (w : PlacedWord). w.at.address) words

-- and one at each address
pub record ArePlaced (all words : List PlacedWord) : Type 0 where
  pub moved : IsPermutation all words
  pub rises : (i : ℕ) (d : PlacedWord) → i + 1 < length words → (slice_index_or words i d).at.address < (slice_index_or words (i + 1) d).at.address

-- the words in the order of their addresses
abbrev pub put_word : PlacedWord → List PlacedWord → List PlacedWord
put_word w [] = w ∷ []
put_word w (v ∷ vs) = if nat_le w.at.address v.at.address then w ∷ (v ∷ vs) else v ∷ put_word w vs

abbrev pub in_word_order : List PlacedWord → List PlacedWord
in_word_order [] = []
in_word_order (w ∷ ws) = put_word w (in_word_order ws)

unfoldable pub ordered_pointers : ImageSet → ℕ → List PlacedWord
ordered_pointers set k = in_word_order (pointers_of set k)
