-- What is known of files that were read.
use Rattle.std.specs.Prelude.{◌≡◌, ◌≤◌, ℕ, List, length, map, Some, None, slice_get}
use Rattle.macho_image.specs.Records.{Img}
use Rattle.dep_closure.specs.Linked.{links_of}
use Rattle.export_trie.specs.Order.{trie_break}
use Rattle.prebind.specs.Sets.{ImageSet, lists_of, image_set}
use Rattle.load_model.specs.Placed.{AreAllPlaced}
use Rattle.load_model.specs.declared.set.FileSet.{FileSet}

-- no export trie breaks a rule
abbrev pub HaveTries : List Img → Type 0
HaveTries images = (k : ℕ) (i : Img) → slice_get images k ≡ Some i → trie_break i.streams.exports ≡ None

-- the files' images with all that they spell
pub record AreRead (files : FileSet) : Type 0 where
  pub few : length files.images.items ≤ 4096
  pub streams : files.streams.items ≡ map lists_of files.images.items
  pub links : files.links ≡ links_of files.images.items
  pub words : AreAllPlaced (image_set files.images.items) files.words.items
  pub tries : HaveTries files.images.items

-- the set that they make
abbrev pub file_set : FileSet → ImageSet
file_set f = record { images = f.images.items; streams = f.streams.items; links = f.links }
