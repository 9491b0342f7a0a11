-- A cache of which nothing is found, as contracts see it.
use Rattle.std.specs.Prelude.{◌≡◌, ◌<◌, ℕ, List, map, slice_index_or, None}
use Rattle.macho_image.specs.Records.{Img}
use Rattle.macho_image.specs.declared.place.Location.{Location}
use Rattle.dep_closure.specs.Linked.{Linked, links_of}
use Rattle.prebind.specs.Sets.{StreamLists, IsSoundSet}
use Rattle.cache_check.specs.Images.{images_of}
use Rattle.cache_check.specs.Views.{View, IsSoundView}
use Rattle.extractor.specs.declared.vetted.Vetted.TheInside.{Inside}
use Rattle.extractor.specs.Free.{AreFree, AllWritable, lists}
use Rattle.extractor.specs.Placing.{data_start}
use Rattle.extractor.specs.Vetting.{cached_lists, vet_finding}

-- the view, its images, what their streams spell, what links them, and of each the chain words that aren't bound
pub record Parts : Type 0 where
  pub view : View
  pub images : List Img
  pub streams : List StreamLists
  pub links : Linked
  pub free : List (List Location)

-- none of the findings is there; the view's bytes are bytes; and the parts are those of the view: a sound set, and rebases that can be written
pub record IsVetted (p : Parts) : Type 0 where
  pub none : vet_finding p.view ≡ None
  pub view : IsSoundView p.view
  pub bytes : (n : ℕ) → slice_index_or p.view.flat n 0 < 256
  pub images_are : p.images ≡ images_of p.view
  pub streams_are : p.streams ≡ map cached_lists p.images
  pub links_are : p.links ≡ links_of p.images
  pub sound : IsSoundSet (record { images = p.images; streams = p.streams; links = p.links })
  pub free_are : AreFree (data_start p.view) p.view.words p.images p.free
  pub writable : AllWritable p.images p.free

abbrev pub parts_of : Inside → Parts
parts_of i = record { view = i.view.now; images = i.images.items; streams = i.streams.items; links = i.links; free = lists i.free.items }

abbrev pub IsVettedInside : Inside → Type 0
IsVettedInside i = IsVetted (parts_of i)
