use Rattle.std.proofs.Common.{ℕ, take, sym, subst, arith, slice_index_or}
use Rattle.std.proofs.lemmas.List.{length-map}
use Rattle.std.proofs.lemmas.Option.{slice_get-get_or}
use Rattle.macho_image.specs.declared.place.Location.{Location}
use Rattle.macho_image.specs.Order.{addresses_of}
use Rattle.macho_image.specs.Places.{IsWord}
use Rattle.load_model.specs.Memory.{Cells}
use Rattle.load_model.specs.Phases.{contents}
use Rattle.load_model.specs.Areas.{AreAreas}
use Rattle.load_model.specs.Loading.{segment_cells, rebased}
use Rattle.load_model.proofs.PieceLaws.{rebased_none, area_of_word, raised_step}
use Rattle.load_model.proofs.loading.raise_words.Goals as goal

pub loop-word-init : goal.loop-word-init
loop-word-init c =
    subst (λ (cells : Cells). AreAreas cells c.args.slide c.args.image.now.segments (contents c.args.areas.now.items)) (sym (rebased_none c.args.slide (segment_cells c.args.slide c.args.image.now.segments))) c.requires.areas

pub raise_word-requires-clause-segment : goal.raise_word-requires-clause-segment
raise_word-requires-clause-segment c =
    let d : Location = record { segment = 0; section = 0; address = 0 } in
    let n : ℕ = c.loop-word.word-index in
    let word : IsWord c.args.image.now (slice_index_or c.args.rebases.now c.loop-word.word-index d) = c.requires.words n d c.loop-word-test.true in
    let there = area_of_word (rebased c.args.slide (addresses_of (take n c.args.rebases.now)) (segment_cells c.args.slide c.args.image.now.segments)) c.args.slide c.args.image.now (contents c.loop-word.areas.items) (slice_index_or c.args.rebases.now n d) c.loop-word.invariant word in
    omega (arith, there.0, length-map c.loop-word.areas.items (λ f. f.items))

pub loop-word-preserved : goal.loop-word-preserved
loop-word-preserved c =
    let d : Location = record { segment = 0; section = 0; address = 0 } in
    let n : ℕ = c.loop-word.word-index in
    let l : Location = slice_index_or c.args.rebases.now c.loop-word.word-index d in
    raised_step c.args.slide n c.args.image.now c.args.rebases.now l (segment_cells c.args.slide c.args.image.now.segments) (contents c.loop-word.areas.items) (contents c.raise_word.new.areas.items)
    c.requires.sound c.loop-word.invariant c.loop-word-test.true (slice_get-get_or c.args.rebases.now n d c.loop-word-test.true) (c.requires.words n d c.loop-word-test.true) c.offset_of-at.result c.offset_of-at.ensures c.raise_word.ensures
