use Rattle.std.proofs.Common.{take}
use Rattle.macho_image.specs.Order.{addresses_of}
use Rattle.load_model.specs.Phases.{contents}
use Rattle.load_model.specs.Areas.{AreAreas}
use Rattle.load_model.specs.Loading.{segment_cells, rebased}
use Rattle.load_model.proofs.loading.raise_words.Given as goal

abbrev pub invariant-loop-word : goal.invariant-loop-word
invariant-loop-word l = AreAreas (rebased l.slide (addresses_of (take l.word-index l.rebases)) (segment_cells l.slide l.image.segments)) l.slide l.image.segments (contents l.areas.items)
