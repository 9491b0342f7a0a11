-- What tells where the symbols of a set lead once its files are read: its links, the exports of its images by their names, and where the headers and segments of these stand.
use Rattle.std.specs.Prelude.{◌≡◌, ◌<◌, ℕ, List, [], map, slice_index}
use Rattle.std.specs.List.{All}
use Rattle.dsc_base.specs.declared.fault.Span.{Span}
use Rattle.macho_image.specs.Records.{Seg, Img}
use Rattle.macho_image.specs.Breaks.{IsSound}
use Rattle.macho_image.specs.Segments.{header_address}
use Rattle.export_trie.specs.declared.export.Export.{Export}
use Rattle.dep_closure.specs.Linked.{Linked}
use Rattle.prebind.specs.Sets.{ImageSet, IsSoundSet}
use Rattle.prebind.specs.Places.{exports_in}

-- where the header of an image stands, and the addresses of its segments in command order
pub record FrameOf : Type 0 where
  pub header : ℕ
  pub segments : List Span

abbrev pub span_of : Seg → Span
span_of s = record { at = s.vmaddr; len = s.vmsize }

-- and back: a segment of which the addresses alone are known
abbrev pub bare_segment : Span → Seg
bare_segment span = record { name = []; vmaddr = span.at; vmsize = span.len; fileoff = 0; filesize = 0; maxprot = 0; initprot = 0; flags = 0; bytes = [] }

abbrev pub frame_of : Img → FrameOf
frame_of image = record { header = header_address image.segments; segments = map span_of image.segments }

-- the frame and the exports of each image
pub record IndexOf : Type 0 where
  pub frames : List FrameOf
  pub names : List (List Export)

-- an image that was read: its header is sound, and made of bytes
pub record WasRead (image : Img) : Type 0 where
  pub sound : IsSound image
  pub bytes : (k : ℕ) → slice_index image.header k < 256

-- an index of a set, whose images were read
pub record IsIndexOf (set : ImageSet) (indexed : IndexOf) : Type 0 where
  pub sound : IsSoundSet set
  pub read : All WasRead set.images
  pub frames : indexed.frames ≡ map frame_of set.images
  pub names : indexed.names ≡ exports_in set.streams

-- the links and an index of a set
pub record AreOf (set : ImageSet) (links : Linked) (indexed : IndexOf) : Type 0 where
  pub linked : links ≡ set.links
  pub index : IsIndexOf set indexed

pub record AreOfOneSet (links : Linked) (indexed : IndexOf) : Type 0 where
  pub set : ImageSet
  pub are : AreOf set links indexed

-- what holds of the set, whichever it is
abbrev pub InEachSet : Linked → IndexOf → (ImageSet → Type 0) → Type 0
InEachSet links indexed holds = (set : ImageSet) → AreOf set links indexed → holds set
