use Rattle.std.proofs.Common.{length, map, ◌∙◌}
use Rattle.dep_closure.proofs.LinkLaws.{items_of}
use Rattle.dep_closure.proofs.OrderLaws.{orders_more}
use Rattle.dep_closure.proofs.search.search_orders.Goals as goal

pub loop-image-preserved : goal.loop-image-preserved
loop-image-preserved c = record {
  orders =
      orders_more (map items_of c.args.links.now) (length c.args.links.now) c.loop-image.image c.loop-image.orders.items c.push.new.self.items c.in_ok-order.order c.loop-image.invariant.orders c.in_ok-order.ensures.order
      c.in_ok-push.ensures.items;
  stamps = c.search_from.auto.stamps ∙ c.loop-image.invariant.stamps;
  fresh = c.in_ok-order.ensures.stamps;
  pending = c.in_ok-order.ensures.none;
}
