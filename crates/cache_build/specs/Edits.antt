-- The words of all images of a set in its cache: what each becomes, and which of those in the data are chained.
use Rattle.std.specs.Prelude.{ℕ, List, map}
use Rattle.std.specs.List.{flat_map, enumerate_from}
use Rattle.dsc_base.specs.declared.edits.Edit.{Edit}
use Rattle.macho_image.specs.Records.{Img}
use Rattle.prebind.specs.Sets.{ImageSet}
use Rattle.prebind.specs.Words.{streams_at, ordered_pointers}
use Rattle.cache_layout.specs.Layouts.{Laid}
use Rattle.ref_rewrite.specs.Moving.{edit_of}
use Rattle.ref_rewrite.specs.Planned.{words_with, chained_words}

-- each word of image k, at its place in the file, set to the number that leads to its target in the cache
abbrev pub image_edits : Laid → ImageSet → ℕ → Img → List Edit
image_edits l set k image = map (edit_of l k image.segments) (words_with k image (streams_at set k) (ordered_pointers set k))

-- the offsets in the data of those of its pointers that lead to places
abbrev pub image_chained : Laid → ImageSet → ℕ → Img → List ℕ
image_chained l set k image = chained_words l k image.segments (ordered_pointers set k)

-- those of all images
unfoldable pub edits_of : Laid → ImageSet → List Edit
edits_of l set = flat_map (λ p. image_edits l set p.0 p.1) (enumerate_from 0 set.images)

unfoldable pub chained_of : Laid → ImageSet → List ℕ
chained_of l set = flat_map (λ p. image_chained l set p.0 p.1) (enumerate_from 0 set.images)
