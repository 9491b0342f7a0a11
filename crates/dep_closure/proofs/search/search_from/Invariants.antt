use Rattle.std.proofs.Common.{◌+◌, suc, [], length, map, get_or}
use Rattle.dep_closure.proofs.LinkLaws.{items_of}
use Rattle.dep_closure.proofs.SearchLaws.{Searching}
use Rattle.dep_closure.proofs.VisitLaws.{left}
use Rattle.dep_closure.proofs.search.search_from.Given as goal

abbrev pub invariant-loop-next : goal.invariant-loop-next
invariant-loop-next l = Searching (map items_of l.links) (length l.links) l.image l.stamps l.order.items l.pending.items

abbrev pub decreases-loop-next : goal.decreases-loop-next
decreases-loop-next l = left (λ k. suc (length (get_or (map items_of l.links) k []))) l.order.items (length l.links) + length l.pending.items
