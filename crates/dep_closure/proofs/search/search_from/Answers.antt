use Rattle.std.proofs.Common.{◌<◌, ◌++◌, List, ℕ, length, map, reverse, ap, ◌∙◌, Some}
use Rattle.std.proofs.lemmas.List.Elements.{All-pop}
use Rattle.dep_closure.proofs.LinkLaws.{items_of}
use Rattle.dep_closure.proofs.SearchLaws.{search_old, search_new, steps_new, inside_of, links_at}
use Rattle.dep_closure.proofs.search.search_from.Goals as goal

pub loop-next-preserved-then-stamps-next : goal.loop-next-preserved-then-stamps-next
loop-next-preserved-then-stamps-next c =
    search_old (map items_of c.args.links.now) (length c.args.links.now) c.args.image c.loop-next.stamps c.loop-next.order.items c.loop-next.pending.items c.pop.new.self.items c.in-Some.next
    c.loop-next.invariant c.in-Some.ensures.items c.if-stamps-next.true

pub loop-next-preserved : goal.loop-next-preserved
loop-next-preserved c =
    let next : c.in-Some.next < length c.args.links.now = (All-pop (λ k. k < length c.args.links.now) c.loop-next.pending.items c.pop.new.self.items (Some c.in-Some.next) c.in-Some.ensures.items c.loop-next.invariant.inside).1 in
    search_new (map items_of c.args.links.now) (length c.args.links.now) c.args.image c.loop-next.stamps c.loop-next.order.items c.loop-next.pending.items c.pop.new.self.items c.in-Some.next
    c.push-in-Some.new.self.items c.put_first.new.pending.items (inside_of (length c.args.links.now) c.args.links.now c.requires.inside)
    c.loop-next.invariant c.in-Some.ensures.items (c.loop-next.auto.stamps ∙ c.requires.stamps) c.if-stamps-next.false c.in_ok-push-2.ensures.items
    (c.in_ok-put_first.ensures ∙ ap (λ (ts : List ℕ). c.pop.new.self.items ++ reverse ts) (links_at c.args.links.now c.in-Some.next c.index-links-next.result c.deref.result.now next c.index-links-next.is c.deref.ensures.value))

pub loop-next-smaller : goal.loop-next-smaller
loop-next-smaller c =
    let next : c.in-Some.next < length c.args.links.now = (All-pop (λ k. k < length c.args.links.now) c.loop-next.pending.items c.pop.new.self.items (Some c.in-Some.next) c.in-Some.ensures.items c.loop-next.invariant.inside).1 in
    steps_new (map items_of c.args.links.now) (length c.args.links.now) c.args.image c.loop-next.stamps c.loop-next.order.items c.loop-next.pending.items c.pop.new.self.items c.in-Some.next
    c.push-in-Some.new.self.items c.put_first.new.pending.items c.loop-next.invariant c.in-Some.ensures.items c.if-stamps-next.false c.in_ok-push-2.ensures.items
    (c.in_ok-put_first.ensures ∙ ap (λ (ts : List ℕ). c.pop.new.self.items ++ reverse ts) (links_at c.args.links.now c.in-Some.next c.index-links-next.result c.deref.result.now next c.index-links-next.is c.deref.ensures.value))
