-- The segments of an image where `__LINKEDIT`, the last of them, is told by its addresses alone.
use Rattle.std.specs.Prelude.{◌≡◌, ◌<◌, ◌^◌, ℕ, Bool, true, not, All, List, [], ◌∷◌, ◌++◌, length, filter, codes}
use Rattle.dsc_base.specs.declared.fault.Span.{Span}
use Rattle.macho_image.specs.Records.{Seg}
use Rattle.macho_image.specs.Rules.{is_linkedit_segment}
use Rattle.macho_image.specs.Segments.{segments_at}
use Rattle.macho_image.specs.Index.{Indexes}
use Rattle.macho_image.specs.declared.places.segment_index.Entry.{Entry}
use Rattle.macho_image.specs.declared.place.Location.{Location}
use Rattle.bind_ops.specs.Records.{BoundWord}
use Rattle.split_info.specs.declared.reference.Reference.{Reference}
use Rattle.dep_closure.specs.Linked.{Linked}
use Rattle.prebind.specs.Sets.{ImageSet}
use Rattle.prebind.specs.Words.{streams_at}
use Rattle.prebind.specs.Indexed.{bare_segment, IndexOf, AreOf}

-- `__LINKEDIT` by its addresses
abbrev pub linkedit_at : Span → Seg
linkedit_at span = record (bare_segment span) { name = codes "__LINKEDIT" ++ (0 ∷ 0 ∷ 0 ∷ 0 ∷ 0 ∷ 0 ∷ []) }

abbrev pub whole_of : List Seg → Span → List Seg
whole_of segments linkedit = segments ++ linkedit_at linkedit ∷ []

-- the segments other than `__LINKEDIT`
abbrev pub is_body : Seg → Bool
is_body s = not (is_linkedit_segment s)

abbrev pub body_of : List Seg → List Seg
body_of segments = filter is_body segments

-- segments other than `__LINKEDIT`, in a number that the names of segments can tell, and an index of them
pub record IsBody (segments : List Seg) (index : List Entry) : Type 0 where
  pub few : length segments < 2 ^ 32
  pub others : All (λ (s : Seg). is_body s ≡ true) segments
  pub indexed : Indexes segments index

-- what image k of a set has: its segments other than `__LINKEDIT`, in command order, and what its streams spell
pub record AreOfImage (set : ImageSet) (k : ℕ) (segments : List Seg) (rebases : List Location) (binds : List BoundWord) (references : List Reference) : Type 0 where
  pub body : segments ≡ body_of (segments_at set.images k)
  pub rebased : rebases ≡ (streams_at set k).rebases
  pub bound : binds ≡ (streams_at set k).binds
  pub recorded : references ≡ (streams_at set k).references

pub record AreOfOneImage (links : Linked) (indexed : IndexOf) (k : ℕ) (segments : List Seg) (rebases : List Location) (binds : List BoundWord) (references : List Reference) : Type 0 where
  pub set : ImageSet
  pub are : AreOf set links indexed
  pub within : k < length set.images
  pub own : AreOfImage set k segments rebases binds references

-- what holds of the set and its image k, whichever set it is
abbrev pub InEachImage : Linked → IndexOf → ℕ → List Seg → List Location → List BoundWord → List Reference → (ImageSet → Type 0) → Type 0
InEachImage links indexed k segments rebases binds references holds =
    (set : ImageSet) → AreOf set links indexed → AreOfImage set k segments rebases binds references → holds set
