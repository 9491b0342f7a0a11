use Rattle.std.proofs.Common.{map, take}
use Rattle.macho_image.specs.Order.{addresses_of}
use Rattle.prebind.specs.Steps.{set_of}
use Rattle.prebind.specs.Words.{placed_bind}
use Rattle.prebind.proofs.WordLaws.{AreUnbroken}
use Rattle.load_model.specs.Phases.{contents}
use Rattle.load_model.specs.Areas.{slide_at, AreAreas}
use Rattle.load_model.specs.Loading.{segment_cells, loaded_starts, rebased, bound_to}
use Rattle.load_model.proofs.loading.set_words.Given as goal

abbrev pub invariant-loop-index : goal.invariant-loop-index
invariant-loop-index l = record {
  areas : AreAreas (bound_to (loaded_starts (set_of l.set) (slide_at l.slides)) (slide_at l.slides l.number) (map (placed_bind (set_of l.set) l.number) (take l.index l.streams.binds)) (rebased (slide_at l.slides l.number) (addresses_of l.streams.rebases) (segment_cells (slide_at l.slides l.number) l.image.segments))) (slide_at l.slides l.number) l.image.segments (contents l.areas.items);
  unbroken : AreUnbroken (set_of l.set) l.number l.streams.binds l.index;
}
