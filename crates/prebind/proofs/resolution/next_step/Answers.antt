use Rattle.std.proofs.Common.{◌<◌, ℕ, List, length, sym, subst, arith}
use Rattle.std.specs.List.{All}
use Rattle.prebind.specs.Steps.{set_of}
use Rattle.prebind.proofs.SoundLaws.{sound_links, sound_tries, dependency_within, order_within}
use Rattle.prebind.proofs.resolution.next_step.Goals as goal

pub dependency-requires : goal.dependency-requires
dependency-requires c =
    let links = (sound_links (set_of c.args.set.now) c.requires.sound).dependencies in
    omega (arith, links, c.requires.image)

pub search_order-order-requires : goal.search_order-order-requires
search_order-order-requires c =
    let links = sound_links (set_of c.args.set.now) c.requires.sound in
    let within = dependency_within (length c.args.set.now.images.now) c.args.set.now.links.now c.args.image c.args.ordinal c.in-Image.first links c.requires.image c.in-Image.ensures in
    omega (arith, within, links.orders)

pub first_exporting-requires-clause-tries : goal.first_exporting-requires-clause-tries
first_exporting-requires-clause-tries c = sound_tries (set_of c.args.set.now) c.requires.sound

pub first_exporting-requires-clause-order : goal.first_exporting-requires-clause-order
first_exporting-requires-clause-order c =
    let links = sound_links (set_of c.args.set.now) c.requires.sound in
    let within = dependency_within (length c.args.set.now.images.now) c.args.set.now.links.now c.args.image c.args.ordinal c.in-Image.first links c.requires.image c.in-Image.ensures in
    subst (λ (order : List ℕ). All (λ (k : ℕ). k < length c.args.set.now.streams.now) order) (sym c.search_order-order.ensures)
    (order_within (length c.args.set.now.images.now) (length c.args.set.now.streams.now) c.args.set.now.links.now c.in-Image.first links (sym c.requires.sound.many) within)
