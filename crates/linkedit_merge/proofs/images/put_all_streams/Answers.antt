-- The streams of one image more.
use Rattle.std.proofs.Common.{◌∙◌, ◌+◌, ℕ, List, Vec, Global, map, length, refl, ap, arith}
use Rattle.std.specs.List.{flat_map}
use Rattle.std.proofs.lemmas.List.{length_push}
use Rattle.macho_image.specs.Records.{Img}
use Rattle.export_trie.specs.declared.export.Export.{Export}
use Rattle.linkedit_merge.specs.declared.streams.StreamSpots.{StreamSpots}
use Rattle.linkedit_merge.specs.Parts.{joined_behind, spans_behind}
use Rattle.linkedit_merge.specs.Sizes.{spans_of}
use Rattle.linkedit_merge.proofs.ImageLaws.{is_next, bytes_next, spots_next, tries_next}
use Rattle.linkedit_merge.proofs.images.put_all_streams.Goals as goal

pub loop-number-init : goal.loop-number-init
unfolding joined_behind spans_behind
loop-number-init c = record {
  bytes = refl;
  spots = ap (λ (l : List StreamSpots). flat_map spans_of l) c.in_ok-spots.ensures.items;
  tries = λ k none. absurd (omega arith);
  many = ap (λ (l : List StreamSpots). length l) c.in_ok-spots.ensures.items;
}

pub loop-number-preserved : goal.loop-number-preserved
loop-number-preserved c =
    let exports = map (λ (e : Vec Export Global). e.items) c.args.exports.now in
    let n = c.loop-number.number in
    let images = c.args.images.now in
    let streams = c.image.inside.streams in
    let own = c.deref.result.now in
    let h =
    is_next c.args.exports.now images n c.index-images-number.result c.index-exports-number.result streams own c.requires.one_each c.loop-number-test.true c.index-images-number.is c.index-exports-number.is
    (ap (λ (i : Img). i.streams) c.image.view_is) c.deref.ensures.value in
    record {
      bytes = bytes_next exports images n streams own c.args.out.now.items c.loop-number.out.items c.put_streams.new.out.items h c.loop-number.invariant.bytes c.in_ok-put_streams.ensures.bytes;
      spots =
          spots_next exports images n streams own c.args.start c.args.out.now.items c.loop-number.out.items c.loop-number.spots.items c.push.new.self.items c.in_ok-put_streams.field-0
          h c.loop-number.invariant.bytes c.loop-number.invariant.spots c.in_ok-put_streams.ensures.spots c.in_ok-push.ensures.items;
      tries = tries_next exports n own c.loop-number.invariant.tries h.own_is c.in_ok-put_streams.ensures.trie;
      many = ap (λ (l : List StreamSpots). length l) c.in_ok-push.ensures.items ∙ (length_push c.loop-number.spots.items c.in_ok-put_streams.field-0 ∙ ap (λ (k : ℕ). k + 1) c.loop-number.invariant.many);
    }
