use Rattle.std.proofs.Common.{rules, List, ap, ◌∙◌}
use Rattle.std.proofs.lemmas.List.Sorted.{IsPartitionPoint-from_clause}
use Rattle.macho_image.specs.declared.place.Location.{Location}
use Rattle.split_info.specs.Split.{is_rebased}
use Rattle.split_info.proofs.WordLaws.{is_below, below_parted, stands_at, stands_past}
use Rattle.split_info.proofs.words.Words.have.Goals as goal

pub returns-in-Some : goal.returns-in-Some
returns-in-Some c =
    let from = c.args.reference.now.from in
    let words = c.self.inside.places.now in
    let point = IsPartitionPoint-from_clause (is_below from) words c.partition_point-index.result c.partition_point-index.ensures.partitioned
    (below_parted from words c.self.invariant) (λ a r f h. search rules) in
    let lookup = c.in-Some.ensures.lookup in
    stands_at from words c.partition_point-index.result c.in-Some.word.now c.self.invariant point lookup.3.0 lookup.1 ∙ ap (λ (ls : List Location). is_rebased ls c.args.reference.now) c.self.view_is

pub returns-in-None : goal.returns-in-None
returns-in-None c =
    let from = c.args.reference.now.from in
    let words = c.self.inside.places.now in
    let point = IsPartitionPoint-from_clause (is_below from) words c.partition_point-index.result c.partition_point-index.ensures.partitioned
    (below_parted from words c.self.invariant) (λ a r f h. search rules) in
    stands_past from words c.partition_point-index.result point c.in-None.ensures.lookup.3 ∙ ap (λ (ls : List Location). is_rebased ls c.args.reference.now) c.self.view_is
