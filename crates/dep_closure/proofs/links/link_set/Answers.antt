use Rattle.std.proofs.Common.{length, List, Vec, Global, ℕ, ap, map, subst, sym, ◌∙◌}
use Rattle.dep_closure.specs.Linked.{Linked, links_of, AreLinks}
use Rattle.dep_closure.proofs.LinkLaws.{items_of}
use Rattle.dep_closure.proofs.LinkedLaws.{links_sound}
use Rattle.dep_closure.proofs.OrderLaws.{links_within, orders_are}
use Rattle.dep_closure.proofs.links.link_set.Goals as goal

pub search_orders-requires-clause-inside : goal.search_orders-requires-clause-inside
search_orders-requires-clause-inside c =
    links_within c.args.images.now c.deref.result.now (ap (λ (vs : List (Vec ℕ Global)). map items_of vs) c.deref.ensures.value ∙ c.in_ok-reexports.ensures)

pub returns-clause-links : goal.returns-clause-links
unfolding links_of
returns-clause-links c =
    let orders = orders_are c.args.images.now c.deref.result.now (map items_of c.in_ok-orders.orders.items) (ap (λ (vs : List (Vec ℕ Global)). map items_of vs) c.deref.ensures.value ∙ c.in_ok-reexports.ensures) c.in_ok-orders.ensures in
    λ j. record {
      dependencies = c.in_ok-dependencies.ensures.found j;
      orders = orders j;
    }

pub returns-clause-sound : goal.returns-clause-sound
returns-clause-sound c = subst (λ (l : Linked). AreLinks (length c.args.images.now) l) (sym (returns-clause-links c)) (links_sound c.args.images.now)
