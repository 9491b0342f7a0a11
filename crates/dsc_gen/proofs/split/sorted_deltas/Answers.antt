-- The sort leaves the deltas in their order.
use Rattle.std.proofs.Common.{◌∙◌, ap}
use Rattle.dsc_gen.specs.Split.{in_order}
use Rattle.dsc_gen.proofs.OrderLaws.{delta_order}
use Rattle.dsc_gen.proofs.split.sorted_deltas.Goals as goal

pub returns : goal.returns
returns c = delta_order _ _ c.in_ok-sort.ensures.permutation c.in_ok-sort.ensures.sorted ∙ ap in_order c.in_ok-deltas.ensures
