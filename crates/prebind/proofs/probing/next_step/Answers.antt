use Rattle.std.proofs.Common.{◌≡◌, ◌<◌, ◌^◌, ◌∙◌, ℕ, List, length, sym, ap, subst, arith}
use Rattle.std.specs.List.{All}
use Rattle.dep_closure.specs.declared.dep.Dep.TheVariants as deps
use Rattle.prebind.specs.Indexed.{FrameOf, IndexOf}
use Rattle.prebind.specs.Framed.{entry_seen}
use Rattle.prebind.specs.Steps.{step_seen}
use Rattle.prebind.proofs.SoundLaws.{dependency_within, order_within}
use Rattle.prebind.proofs.IndexLaws.{many_frames, many_names, links_of_set, frames_few, step_is, probes_are, found_image, searched_image}
use Rattle.prebind.proofs.probing.next_step.Goals as goal

pub dependency-requires : goal.dependency-requires
dependency-requires g c =
    let one = c.requires.one in
    omega (arith, (links_of_set one.set c.args.links.now c.args.indexed.now one.are).dependencies, many_frames one.set c.args.links.now c.args.indexed.now one.are, c.requires.image)

pub search_order-order-requires : goal.search_order-order-requires
search_order-order-requires g c =
    let one = c.requires.one in
    let links = links_of_set one.set c.args.links.now c.args.indexed.now one.are in
    let image : c.args.image < length one.set.images = omega (arith, many_frames one.set c.args.links.now c.args.indexed.now one.are, c.requires.image) in
    omega (arith, dependency_within (length one.set.images) c.args.links.now c.args.image c.args.ordinal c.in-Image.first links image c.in-Image.ensures, links.orders)

pub first_named-found-requires : goal.first_named-found-requires
first_named-found-requires g c =
    let one = c.requires.one in
    let links = links_of_set one.set c.args.links.now c.args.indexed.now one.are in
    let image : c.args.image < length one.set.images = omega (arith, many_frames one.set c.args.links.now c.args.indexed.now one.are, c.requires.image) in
    let within = dependency_within (length one.set.images) c.args.links.now c.args.image c.args.ordinal c.in-Image.first links image c.in-Image.ensures in
    let many : length one.set.images ≡ length c.indexed.inside.names = sym (ap (λ (i : IndexOf). length i.names) c.indexed.view_is ∙ many_names one.set c.args.links.now c.args.indexed.now one.are) in
    record {
      order =
          subst (λ (order : List ℕ). All (λ (k : ℕ). k < length c.indexed.inside.names) order) (sym c.search_order-order.ensures)
          (order_within (length one.set.images) (length c.indexed.inside.names) c.args.links.now c.in-Image.first links many within);
    }

pub found_step-requires-clause-few : goal.found_step-requires-clause-few
found_step-requires-clause-few g c =
    let one = c.requires.one in
    subst (λ (fs : List FrameOf). All (λ (f : FrameOf). length f.segments < 2 ^ 32) fs) (sym (c.deref.ensures.value ∙ ap (λ (i : IndexOf). i.frames) c.indexed.view_is))
    (frames_few one.set c.args.links.now c.args.indexed.now one.are)

pub returns-in-BadOrdinal-clause-found : goal.returns-in-BadOrdinal-clause-found
returns-in-BadOrdinal-clause-found g c = λ set are. step_is set c.args.links.now c.args.indexed.now c.args.image c.args.ordinal c.args.name.now deps.BadOrdinal are c.in-BadOrdinal.ensures

pub returns-in-BadOrdinal-clause-counted : goal.returns-in-BadOrdinal-clause-counted
returns-in-BadOrdinal-clause-counted g c = λ set are. omega (arith, probes_are set c.args.links.now c.args.indexed.now c.args.image c.args.ordinal c.args.name.now deps.BadOrdinal are c.in-BadOrdinal.ensures)

pub returns-in-Missing-clause-found : goal.returns-in-Missing-clause-found
returns-in-Missing-clause-found g c = λ set are. step_is set c.args.links.now c.args.indexed.now c.args.image c.args.ordinal c.args.name.now deps.Missing are c.in-Missing.ensures

pub returns-in-Missing-clause-counted : goal.returns-in-Missing-clause-counted
returns-in-Missing-clause-counted g c = λ set are. omega (arith, probes_are set c.args.links.now c.args.indexed.now c.args.image c.args.ordinal c.args.name.now deps.Missing are c.in-Missing.ensures)

pub returns-in-Image-clause-found : goal.returns-in-Image-clause-found
returns-in-Image-clause-found g c = λ set are.
    found_image set c.args.links.now c.args.indexed.now c.args.image c.args.ordinal c.in-Image.first c.args.name.now c.search_order-order.result.now c.deref.result.now c.indexed.inside.names (entry_seen c.first_named-found.result)
    (step_seen c.found_step.result) are c.in-Image.ensures (c.deref.ensures.value ∙ ap (λ (i : IndexOf). i.frames) c.indexed.view_is) (ap (λ (i : IndexOf). i.names) c.indexed.view_is) c.search_order-order.ensures
    c.first_named-found.ensures.first c.found_step.ensures

pub returns-in-Image-clause-counted : goal.returns-in-Image-clause-counted
returns-in-Image-clause-counted g c = λ set are.
    searched_image set c.args.links.now c.args.indexed.now c.args.image c.args.ordinal c.in-Image.first c.args.name.now c.search_order-order.result.now c.indexed.inside.names c.args.steps.now c.first_named-found.new.steps are c.in-Image.ensures
    (ap (λ (i : IndexOf). i.names) c.indexed.view_is) c.search_order-order.ensures c.first_named-found.ensures.counted
