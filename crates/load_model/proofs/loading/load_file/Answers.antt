use Rattle.std.proofs.Common.{rules, ◌≡◌, List, map, sym, subst, slice_index_or}
use Rattle.std.specs.Prelude.{All}
use Rattle.std.proofs.lemmas.Option.{slice_get-get_or}
use Rattle.macho_image.specs.declared.place.Location.{Location}
use Rattle.macho_image.specs.Order.{addresses_of}
use Rattle.macho_image.specs.Places.{IsWord}
use Rattle.prebind.specs.Steps.{set_of}
use Rattle.prebind.specs.Words.{placed_bind}
use Rattle.load_model.specs.Memory.{Cells}
use Rattle.load_model.specs.Mapped.{Piece}
use Rattle.load_model.specs.Phases.{contents}
use Rattle.load_model.specs.Loading.{segment_cells, loaded_starts, rebased, bound_to}
use Rattle.load_model.specs.Areas.{slide_at, AreLoadedSegments, bodies_of}
use Rattle.load_model.proofs.SpreadLaws.{rebases_read, bound_is_word}
use Rattle.load_model.proofs.SoundApart.{sound_apart}
use Rattle.load_model.proofs.AreaLaws.{areas_start}
use Rattle.load_model.proofs.PieceLaws.{pieces_loaded}
use Rattle.load_model.proofs.loading.load_file.Goals as goal

pub raise_words-requires-clause-words : goal.raise_words-requires-clause-words
raise_words-requires-clause-words c =
    let same : c.deref.result.now ≡ c.args.streams.now.rebases = search rules in
    subst (λ (ls : List Location). All (IsWord c.args.image.now) ls) (sym same) (rebases_read c.args.image.now c.args.streams.now c.requires.streams).all

pub raise_words-requires-clause-areas : goal.raise_words-requires-clause-areas
raise_words-requires-clause-areas c =
    areas_start c.unwrap_or-slide.result c.args.image.now.segments (contents c.in_ok-areas.areas.items) (sound_apart c.args.image.now c.facts.ensures) c.in_ok-areas.ensures

pub set_words-requires-clause-words : goal.set_words-requires-clause-words
set_words-requires-clause-words c =
    λ k d lt. bound_is_word c.args.image.now c.args.streams.now (slice_index_or c.args.streams.now.binds k d) c.requires.streams (record { number = k; found = slice_get-get_or c.args.streams.now.binds k d lt })

pub returns-clause-loaded : goal.returns-clause-loaded
returns-clause-loaded c =
    let cells : Cells =
    bound_to (loaded_starts (set_of c.args.set.now) (slide_at c.args.slides.now)) (slide_at c.args.slides.now c.args.number) (map (placed_bind (set_of c.args.set.now) c.args.number) c.args.streams.now.binds)
    (rebased (slide_at c.args.slides.now c.args.number) (addresses_of c.args.streams.now.rebases) (segment_cells (slide_at c.args.slides.now c.args.number) c.args.image.now.segments)) in
    subst (λ (ps : List Piece). AreLoadedSegments cells (slide_at c.args.slides.now c.args.number) (bodies_of c.args.image.now.segments) ps) (sym (search rules))
    (pieces_loaded cells (slide_at c.args.slides.now c.args.number) c.args.image.now.segments (contents c.set_words.new.areas.items) c.in_ok-set_words.ensures.areas)
