use Rattle.std.proofs.Common.{◌≡◌, ◌≤◌, [], length, map}
use Rattle.std.specs.Prelude.{All}
use Rattle.std.specs.List.{range_with_len}
use Rattle.dep_closure.specs.SearchOrder.{visit}
use Rattle.dep_closure.proofs.LinkLaws.{items_of}
use Rattle.dep_closure.proofs.search.search_orders.Given as goal

abbrev pub invariant-loop-image : goal.invariant-loop-image
invariant-loop-image l = record {
  orders : map items_of l.orders.items ≡ map (visit (length l.links) (map items_of l.links) []) (range_with_len 0 l.image);
  stamps : length l.marks ≡ length l.links;
  fresh : All (λ s. s ≤ l.image) l.marks;
  pending : l.pending.items ≡ [];
}
