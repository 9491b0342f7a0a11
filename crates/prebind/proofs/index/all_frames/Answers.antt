use Rattle.std.proofs.Common.{◌<◌, ℕ, subst}
use Rattle.std.specs.Prelude.{slice_index}
use Rattle.macho_image.specs.Records.{Img}
use Rattle.prebind.specs.Indexed.{frame_of, WasRead}
use Rattle.prebind.proofs.ListLaws.{mapped_more, all_more}
use Rattle.prebind.proofs.index.all_frames.Goals as goal

pub loop-image-preserved : goal.loop-image-preserved
loop-image-preserved c = record {
  frames =
      mapped_more frame_of c.args.images.now c.loop-image.image-index c.image-item.result c.loop-image.frames.items c.push.new.self.items c.in_ok-frame.frame c.loop-image-test.true c.image-item.is c.loop-image.invariant.frames c.in_ok-frame.ensures
      c.in_ok-push.ensures.items;
  read =
      all_more WasRead c.args.images.now c.loop-image.image-index c.image-item.result c.loop-image-test.true c.image-item.is c.loop-image.invariant.read
      (record { sound = c.facts.ensures; bytes = subst (λ (i : Img). (k : ℕ) → slice_index i.header k < 256) c.image.view_is c.are_bytes.ensures });
}
