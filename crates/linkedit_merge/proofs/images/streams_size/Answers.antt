-- The streams of one image more.
use Rattle.std.proofs.Common.{◌≡◌, ◌∙◌, ◌+◌, ℕ, List, Vec, Global, map, drop, refl, sym, ap, arith}
use Rattle.std.specs.List.{flat_map}
use Rattle.dsc_base.specs.Limits.{span_limit}
use Rattle.macho_image.specs.Records.{Img}
use Rattle.export_trie.specs.declared.export.Export.{Export}
use Rattle.cache_layout.specs.Places.{numbered}
use Rattle.linkedit_merge.specs.Parts.{end_behind, lens_of}
use Rattle.linkedit_merge.specs.Sizes.{own_streams, own_at, all_streams}
use Rattle.linkedit_merge.proofs.PartLaws.{end-rises}
use Rattle.linkedit_merge.proofs.SizeLaws.{exceeds_exit}
use Rattle.linkedit_merge.proofs.ImageLaws.{is_next, end_next, end_last}
use Rattle.linkedit_merge.proofs.images.streams_size.Goals as goal

pub loop-number-init : goal.loop-number-init
loop-number-init c = record { end = refl; low = omega arith }

pub loop-number-preserved : goal.loop-number-preserved
loop-number-preserved c =
    let exports = map (λ (e : Vec Export Global). e.items) c.args.exports.now in
    let n = c.loop-number.number in
    let images = c.args.images.now in
    let streams = c.image.inside.streams in
    let own = c.deref.result.now in
    let h =
    is_next c.args.exports.now images n c.index-images-number.result c.index-exports-number.result streams own c.requires.one_each c.loop-number-test.true c.index-images-number.is c.index-exports-number.is
    (ap (λ (i : Img). i.streams) c.image.view_is) c.deref.ensures.value in
    record {
      end =
          ap (λ (k : ℕ). end_behind k (lens_of (flat_map (λ (parts : List (List ℕ)). parts) (drop (n + 1) (numbered (own_at exports) images))))) c.in_ok-end.ensures.size.0
          ∙ (sym (end_next exports images n streams own c.loop-number.end h) ∙ c.loop-number.invariant.end);
      low = omega (arith, c.in_ok-end.ensures.size.0, c.in_ok-end.ensures.size.1);
    }

pub returns-in_err-end-clause-cause : goal.returns-in_err-end-clause-cause
returns-in_err-end-clause-cause c =
    let exports = map (λ (e : Vec Export Global). e.items) c.args.exports.now in
    let n = c.loop-number.number in
    let images = c.args.images.now in
    let streams = c.image.inside.streams in
    let own = c.deref.result.now in
    let h =
    is_next c.args.exports.now images n c.index-images-number.result c.index-exports-number.result streams own c.requires.one_each c.loop-number-test.true c.index-images-number.is c.index-exports-number.is
    (ap (λ (i : Img). i.streams) c.image.view_is) c.deref.ensures.value in
    let next = end_behind c.loop-number.end (lens_of (own_streams streams own)) in
    let rest = lens_of (flat_map (λ (parts : List (List ℕ)). parts) (drop (n + 1) (numbered (own_at exports) images))) in
    let whole : end_behind 0 (lens_of (all_streams exports images)) ≡ end_behind next rest = sym c.loop-number.invariant.end ∙ end_next exports images n streams own c.loop-number.end h in
    exceeds_exit span_limit next (end_behind 0 (lens_of (all_streams exports images))) c.from_residual.result c.in_err-end.field-0.0 (omega (arith, whole, end-rises next rest)) c.from_residual.ensures.1 c.in_err-end.ensures.cause

pub returns-clause-size : goal.returns-clause-size
returns-clause-size c =
    let exports = map (λ (e : Vec Export Global). e.items) c.args.exports.now in
    let whole : c.loop-number.end ≡ end_behind 0 (lens_of (all_streams exports c.args.images.now)) =
    sym (end_last exports c.args.images.now c.loop-number.number c.loop-number.end c.loop-number-test.false) ∙ c.loop-number.invariant.end in
    (whole, omega (arith, whole, c.loop-number.invariant.low))
