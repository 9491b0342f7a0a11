use Rattle.std.proofs.Common.{List, subst, ap, ◌∙◌}
use Rattle.bind_ops.specs.Records.{BoundWord}
use Rattle.prebind.specs.Sets.{StreamLists}
use Rattle.extractor.specs.Chained.{AreAddresses}
use Rattle.extractor.proofs.BoundsLaws.{bounds_more}
use Rattle.extractor.proofs.bounds.all_bounds.Goals as goal

pub loop-image-preserved : goal.loop-image-preserved
loop-image-preserved c =
    bounds_more c.args.streams.now c.loop-image.bounds.items c.push.new.self.items c.loop-image.image-index c.image-item.result c.in_ok-own.own c.loop-image.invariant c.loop-image-test.true c.image-item.is
    (subst (λ (bs : List BoundWord). AreAddresses bs c.in_ok-own.own) (c.deref.ensures.value ∙ ap (λ (s : StreamLists). s.binds) c.image.view_is) c.in_ok-own.ensures) c.in_ok-push.ensures.items
