use Rattle.std.proofs.Common.{rules, ℕ, List, ap, ◌∙◌}
use Rattle.std.proofs.lemmas.List.Sorted.{IsPartitionPoint-from_clause}
use Rattle.macho_image.specs.declared.place.Location.{Location}
use Rattle.split_info.specs.References.{width_of}
use Rattle.split_info.specs.Overlap.{shares, meets_word}
use Rattle.split_info.proofs.WordLaws.{ends_by, ends_parted, shares_here, shares_past}
use Rattle.split_info.proofs.words.Words.meet.Goals as goal

pub returns-in-Some : goal.returns-in-Some
returns-in-Some c =
    let from = c.args.reference.now.from in
    let words = c.self.inside.places.now in
    let point = IsPartitionPoint-from_clause (ends_by from) words c.partition_point-index.result c.partition_point-index.ensures.partitioned
    (ends_parted from words c.self.invariant) (λ a r f h. search rules) in
    let lookup = c.in-Some.ensures.lookup in
    c.shares.ensures ∙ (ap (λ (w : ℕ). shares from w c.in-Some.word.now.address 8) c.width.ensures.width
    ∙ (shares_here from (width_of c.args.reference.now.kind) words c.partition_point-index.result c.in-Some.word.now c.self.invariant point lookup.3.0 lookup.1
    ∙ ap (λ (ls : List Location). meets_word ls c.args.reference.now) c.self.view_is))

pub returns-in-None : goal.returns-in-None
returns-in-None c =
    let from = c.args.reference.now.from in
    let words = c.self.inside.places.now in
    let point = IsPartitionPoint-from_clause (ends_by from) words c.partition_point-index.result c.partition_point-index.ensures.partitioned
    (ends_parted from words c.self.invariant) (λ a r f h. search rules) in
    shares_past from (width_of c.args.reference.now.kind) words c.partition_point-index.result point c.in-None.ensures.lookup.3
    ∙ ap (λ (ls : List Location). meets_word ls c.args.reference.now) c.self.view_is
