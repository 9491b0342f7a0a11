use Rattle.std.proofs.Common.{◌≡◌, ◌<◌, ◌∙◌, ℕ, List, length, sym, ap, subst, arith}
use Rattle.std.specs.List.{All}
use Rattle.prebind.specs.Indexed.{IndexOf}
use Rattle.prebind.proofs.SoundLaws.{order_within}
use Rattle.prebind.proofs.IndexLaws.{many_frames, many_names, links_of_set}
use Rattle.prebind.proofs.tests.steps.found_in_order.Goals as goal

pub search_order-requires : goal.search_order-requires
search_order-requires g c =
    let one = c.requires.one in
    omega (arith, (links_of_set one.set c.args.links.now c.args.indexed.now one.are).orders, many_frames one.set c.args.links.now c.args.indexed.now one.are, c.requires.image)

pub first_named-requires : goal.first_named-requires
first_named-requires g c =
    let one = c.requires.one in
    let within : 1 < length one.set.images = omega (arith, many_frames one.set c.args.links.now c.args.indexed.now one.are, c.requires.image) in
    let many : length one.set.images ≡ length c.indexed.inside.names = sym (ap (λ (i : IndexOf). length i.names) c.indexed.view_is ∙ many_names one.set c.args.links.now c.args.indexed.now one.are) in
    record {
      order =
          subst (λ (order : List ℕ). All (λ (k : ℕ). k < length c.indexed.inside.names) order) (sym c.search_order.ensures)
          (order_within (length one.set.images) (length c.indexed.inside.names) c.args.links.now 1 (links_of_set one.set c.args.links.now c.args.indexed.now one.are) many within);
    }
