-- The exports of one image more.
use Rattle.std.proofs.Common.{◌∙◌, List, Vec, Global, map, ap, sym, subst, All}
use Rattle.std.proofs.lemmas.List.Elements.{All-push}
use Rattle.macho_image.specs.declared.place.Moved.{Moved}
use Rattle.export_trie.specs.Exports.{exports_of}
use Rattle.export_trie.specs.Writing.{IsWritable}
use Rattle.export_trie.specs.declared.export.Export.{Export}
use Rattle.cache_layout.proofs.NumberedLaws.{numbered-grown, map-push}
use Rattle.linkedit_merge.specs.Exports.{moved_exports}
use Rattle.linkedit_merge.specs.Sizes.{moved_at}
use Rattle.linkedit_merge.proofs.images.move_all.Goals as goal

pub loop-number-preserved : goal.loop-number-preserved
loop-number-preserved c =
    let items = λ (e : Vec Export Global). e.items in
    let i = c.index-images-number.result in
    let v = c.in_ok-move_exports.field-0 in
    record {
      moved =
          numbered-grown (moved_at c.args.layout.now.moves) c.args.images.now c.loop-number.number i (map items c.loop-number.exports.items) (map items c.push.new.self.items) v.items
          c.loop-number-test.true c.index-images-number.is c.loop-number.invariant.moved
          (ap (λ (l : List (Vec Export Global)). map items l) c.in_ok-push.ensures.items ∙ map-push items c.loop-number.exports.items v)
          (c.in_ok-move_exports.ensures.moved ∙ ap (λ (m : List Moved). moved_exports i.segments m (exports_of i.streams.exports)) c.moves.ensures);
      writable =
          subst (λ (l : List (Vec Export Global)). All (λ (e : Vec Export Global). IsWritable e.items) l) (sym c.in_ok-push.ensures.items)
          (All-push (λ (e : Vec Export Global). IsWritable e.items) c.loop-number.exports.items v c.loop-number.invariant.writable c.in_ok-move_exports.ensures.writable);
    }
