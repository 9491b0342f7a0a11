use Rattle.std.proofs.Common.{rules, ◌≡◌, ◌∙◌, ap, List, length, refl, sym, arith}
use Rattle.std.specs.Prelude.{slice_get, Some}
use Rattle.std.proofs.lemmas.Option.{slice_get_read}
use Rattle.macho_image.specs.Records.{Seg}
use Rattle.load_model.proofs.LoadingLaws.{IsLow, low_at}
use Rattle.load_model.proofs.SoundApart.{sound_apart}
use Rattle.load_model.proofs.loading.areas_of.Goals as goal

pub memory_of-requires-clause-within : goal.memory_of-requires-clause-within
memory_of-requires-clause-within c =
    let same : c.deref-segment-items.result.now ≡ c.args.image.now.segments = search rules in
    let got : slice_get c.args.image.now.segments c.loop-segment.segment-index ≡ Some c.segment-item.result =
    ap (λ (ss : List Seg). slice_get ss c.loop-segment.segment-index) (sym same) ∙ slice_get_read c.deref-segment-items.result.now (length c.deref-segment-items.result.now) c.loop-segment.segment-index c.segment-item.result refl c.loop-segment-test.true c.segment-item.is in
    let low : IsLow c.segment-item.result = low_at c.loop-segment.segment-index c.segment-item.result c.args.image.now.segments (sound_apart c.args.image.now c.requires) got in
    omega (arith, low.bytes, low.within)

pub memory_of-requires-clause-whole : goal.memory_of-requires-clause-whole
memory_of-requires-clause-whole c =
    let same : c.deref-segment-items.result.now ≡ c.args.image.now.segments = search rules in
    let got : slice_get c.args.image.now.segments c.loop-segment.segment-index ≡ Some c.segment-item.result =
    ap (λ (ss : List Seg). slice_get ss c.loop-segment.segment-index) (sym same) ∙ slice_get_read c.deref-segment-items.result.now (length c.deref-segment-items.result.now) c.loop-segment.segment-index c.segment-item.result refl c.loop-segment-test.true c.segment-item.is in
    (low_at c.loop-segment.segment-index c.segment-item.result c.args.image.now.segments (sound_apart c.args.image.now c.requires) got).bytes
