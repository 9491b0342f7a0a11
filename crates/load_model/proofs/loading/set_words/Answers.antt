use Rattle.std.proofs.Common.{rules, ◌≡◌, ◌∙◌, ◌<◌, ◌-◌, [], slice_set, None, ℕ, List, length, map, refl, sym, ap, subst, slice_index_or}
use Rattle.std.specs.Prelude.{slice_get, Some}
use Rattle.std.proofs.lemmas.List.{take_all}
use Rattle.std.proofs.lemmas.Option.{slice_get_read, slice_get_within, get_or_from_slice_get}
use Rattle.dsc_base.specs.Numbers.{put_number}
use Rattle.macho_image.specs.Segments.{start_of}
use Rattle.split_info.specs.declared.reference.RefKind.TheVariants.{Pointer64}
use Rattle.prebind.specs.Numbers.{number_to}
use Rattle.prebind.specs.WordRules.{bind_fault}
use Rattle.prebind.proofs.WordLaws.{unbroken_more}
use Rattle.macho_image.specs.Order.{addresses_of}
use Rattle.macho_image.specs.Places.{IsWord}
use Rattle.bind_ops.specs.Records.{BoundWord}
use Rattle.prebind.specs.Steps.{set_of}
use Rattle.prebind.specs.Words.{placed_bind}
use Rattle.load_model.specs.Memory.{Cells}
use Rattle.load_model.specs.Phases.{contents}
use Rattle.load_model.specs.Areas.{slide_at, AreAreas}
use Rattle.load_model.specs.Loading.{segment_cells, loaded_starts, rebased, bound_to}
use Rattle.load_model.proofs.PieceLaws.{bound_none, bound_step}
use Rattle.load_model.proofs.loading.set_words.Goals as goal

pub loop-index-init : goal.loop-index-init
loop-index-init c =
    let slide : ℕ = slide_at c.args.slides.now c.args.number in
    let start : Cells = rebased (slide_at c.args.slides.now c.args.number) (addresses_of c.args.streams.now.rebases) (segment_cells (slide_at c.args.slides.now c.args.number) c.args.image.now.segments) in
    record {
      areas = subst (λ (cells : Cells). AreAreas cells slide c.args.image.now.segments (contents c.args.areas.now.items)) (sym (bound_none (loaded_starts (set_of c.args.set.now) (slide_at c.args.slides.now)) slide start)) c.requires.areas;
      unbroken = refl;
    }

pub returns-clause-areas : goal.returns-clause-areas
returns-clause-areas c =
    let slide : ℕ = slide_at c.args.slides.now c.args.number in
    let start : Cells = rebased (slide_at c.args.slides.now c.args.number) (addresses_of c.args.streams.now.rebases) (segment_cells (slide_at c.args.slides.now c.args.number) c.args.image.now.segments) in
    subst (λ (bs : List BoundWord). AreAreas (bound_to (loaded_starts (set_of c.args.set.now) (slide_at c.args.slides.now)) slide (map (placed_bind (set_of c.args.set.now) c.args.number) bs) start) slide c.args.image.now.segments (contents c.loop-index.areas.items))
    (take_all c.loop-index.index c.args.streams.now.binds (search rules)) c.loop-index.invariant.areas

pub loop-index-preserved : goal.loop-index-preserved
loop-index-preserved c =
    let slide : ℕ = slide_at c.args.slides.now c.args.number in
    let start : Cells = rebased (slide_at c.args.slides.now c.args.number) (addresses_of c.args.streams.now.rebases) (segment_cells (slide_at c.args.slides.now c.args.number) c.args.image.now.segments) in
    let areas : List (List ℕ) = contents c.loop-index.areas.items in
    let b : BoundWord = c.bind-item.result in
    let same : c.deref-bind-items.result.now ≡ c.args.streams.now.binds = search rules in
    let got : slice_get c.args.streams.now.binds c.loop-index.index ≡ Some c.bind-item.result =
    ap (λ (bs : List BoundWord). slice_get bs c.loop-index.index) (sym same) ∙ slice_get_read c.deref-bind-items.result.now (length c.deref-bind-items.result.now) c.loop-index.index c.bind-item.result refl c.loop-index-test.true c.bind-item.is in
    let lt : c.loop-index.index < length c.args.streams.now.binds = slice_get_within c.args.streams.now.binds c.loop-index.index c.bind-item.result got in
    let word : IsWord c.args.image.now c.bind-item.result.at = subst (λ (x : BoundWord). IsWord c.args.image.now x.at) (get_or_from_slice_get c.args.streams.now.binds c.loop-index.index b b got) (c.requires.words c.loop-index.index b lt) in
    let far : c.offset_of-at.result ≡ c.bind-item.result.at.address - start_of (slice_get c.args.image.now.segments c.bind-item.result.at.segment) = search rules in
    let value : c.in_ok-value.value ≡ number_to (loaded_starts (set_of c.args.set.now) (slide_at c.args.slides.now)) 0 0 Pointer64 (placed_bind (set_of c.args.set.now) c.args.number c.bind-item.result).target = search rules in
    let put : contents c.put_word.new.areas.items ≡ slice_set (contents c.loop-index.areas.items) c.bind-item.result.at.segment (put_number 8 (slice_index_or (contents c.loop-index.areas.items) c.bind-item.result.at.segment []) c.offset_of-at.result c.in_ok-value.value) = search rules in
    let none : bind_fault (set_of c.args.set.now) c.args.number c.loop-index.index c.bind-item.result ≡ None = search rules in
    record {
      areas =
          bound_step (set_of c.args.set.now) c.args.number (loaded_starts (set_of c.args.set.now) (slide_at c.args.slides.now)) slide c.loop-index.index c.args.image.now c.args.streams.now.binds b start areas (contents c.put_word.new.areas.items) c.in_ok-value.value
          c.requires.image c.loop-index.invariant.areas lt got word c.offset_of-at.result far value put;
      unbroken = unbroken_more (set_of c.args.set.now) c.args.number c.loop-index.index c.args.streams.now.binds b lt (sym (get_or_from_slice_get c.args.streams.now.binds c.loop-index.index b b got)) none c.loop-index.invariant.unbroken;
    }
