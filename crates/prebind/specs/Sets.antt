-- A set of images as contracts see it: the files, what their streams spell, and what links them.
use Rattle.std.specs.Prelude.{◌≡◌, ◌≤◌, ◌⊎◌, ℕ, List, [], ◌∷◌, ◌++◌, length, map, Option, Some, None, slice_get}
use Rattle.dsc_base.specs.declared.fault.Site.{Site}
use Rattle.dsc_base.specs.Refusals.{first_break}
use Rattle.macho_image.specs.Records.{Img}
use Rattle.macho_image.specs.declared.place.Location.{Location}
use Rattle.macho_image.specs.Order.{addresses_of}
use Rattle.rebase_ops.specs.Rebases.{rebases_of, rebase_break}
use Rattle.bind_ops.specs.Records.{BoundWord}
use Rattle.bind_ops.specs.Binds.{binds_of, bind_break, places_of}
use Rattle.bind_ops.specs.Weak.{weak_break}
use Rattle.bind_ops.specs.Clash.{clash_break}
use Rattle.bind_ops.specs.declared.kind.StreamKind.TheVariants.{Bind, Lazy}
use Rattle.split_info.specs.declared.reference.Reference.{Reference}
use Rattle.split_info.specs.Split.{references_of, split_break}
use Rattle.export_trie.specs.Order.{trie_break}
use Rattle.dep_closure.specs.Linked.{Linked, links_of}
use Rattle.dep_closure.specs.Breaks.{link_break}

-- what the streams of an image spell, and the bytes of its export trie
pub record StreamLists : Type 0 where
  pub rebases : List Location
  pub binds : List BoundWord
  pub references : List Reference
  pub exports : List ℕ

pub record ImageSet : Type 0 where
  pub images : List Img
  pub streams : List StreamLists
  pub links : Linked

-- the binds of both streams of an image, those of the lazy one last
abbrev pub all_binds : Img → List BoundWord
all_binds image = binds_of Bind image.streams.bind image ++ binds_of Lazy image.streams.lazy image

-- the split-segment information was read, and accepted
pub record IsSplitRead (image : Img) (s : StreamLists) : Type 0 where
  pub is : s.references ≡ references_of image.streams.split image
  pub accepted : split_break image.streams.split image s.rebases (places_of s.binds) ≡ None

-- the lists are those that the streams of the image spell, and none of their rules is broken
pub record AreStreamsOf (image : Img) (s : StreamLists) : Type 0 where
  pub rebases : s.rebases ≡ rebases_of image.streams.rebase image
  pub rebases_accepted : rebase_break image.streams.rebase image ≡ None
  pub binds : s.binds ≡ all_binds image
  pub binds_accepted : bind_break Bind image.streams.bind image ≡ None
  pub lazy_accepted : bind_break Lazy image.streams.lazy image ≡ None
  pub weak_accepted : weak_break image.streams.weak ≡ None
  pub apart : clash_break (addresses_of s.rebases) (addresses_of (places_of (binds_of Bind image.streams.bind image))) (addresses_of (places_of (binds_of Lazy image.streams.lazy image))) ≡ None
  pub exports : s.exports ≡ image.streams.exports
  pub exports_accepted : trie_break s.exports ≡ None
  pub references : IsSplitRead image s ⊎ (s.references ≡ [])

-- the first rule that the streams of an image break, in the order in which they are read: rules 21 to 30, 41 to 56, 61 to 76, 81, 82, 91 to 98 and 101 to 109
abbrev pub clash_of : Img → Option Site
clash_of image =
    clash_break (addresses_of (rebases_of image.streams.rebase image)) (addresses_of (places_of (binds_of Bind image.streams.bind image))) (addresses_of (places_of (binds_of Lazy image.streams.lazy image)))

abbrev pub split_of : Img → Option Site
split_of image = split_break image.streams.split image (rebases_of image.streams.rebase image) (places_of (all_binds image))

unfoldable pub streams_break : Img → Option Site
streams_break image =
    first_break (rebase_break image.streams.rebase image ∷ bind_break Bind image.streams.bind image ∷ bind_break Lazy image.streams.lazy image
    ∷ weak_break image.streams.weak ∷ clash_of image ∷ trie_break image.streams.exports ∷ split_of image ∷ [])

-- what the streams of an image spell
unfoldable pub lists_of : Img → StreamLists
lists_of image = record {
  rebases = rebases_of image.streams.rebase image;
  binds = all_binds image;
  references = references_of image.streams.split image;
  exports = image.streams.exports;
}

-- the set that images make: with what their streams spell, and what links them
unfoldable pub image_set : List Img → ImageSet
image_set images = record { images = images; streams = map lists_of images; links = links_of images }

-- a set whose streams were read without a fault, and whose links are those of its files
pub record IsSoundSet (set : ImageSet) : Type 0 where
  pub few : length set.images ≤ 4097
  pub many : length set.streams ≡ length set.images
  pub streams : (k : ℕ) (image : Img) (s : StreamLists) → slice_get set.images k ≡ Some image → slice_get set.streams k ≡ Some s → AreStreamsOf image s
  pub links : set.links ≡ links_of set.images
  pub linked : link_break set.images ≡ None
