use Rattle.std.proofs.Common.{rules, ◌∙◌}
use Rattle.std.proofs.lemmas.List.Sorted.{IsPartitionPoint-from_clause}
use Rattle.macho_image.specs.Index.{ends_by}
use Rattle.macho_image.proofs.IndexLaws.{parted, found_at, found_before, found_past}
use Rattle.macho_image.proofs.places.segment_index.find_in.Goals as goal

pub returns-in_err-entry : goal.returns-in_err-entry
returns-in_err-entry c =
    let point = IsPartitionPoint-from_clause (ends_by c.args.address) c.args.entries.now c.partition_point-index.result c.partition_point-index.ensures.partitioned
    (parted c.args.address c.args.entries.now c.requires) (λ a r f h. search rules) in
    c.from_residual.ensures ∙ found_past c.args.address c.args.entries.now c.partition_point-index.result point c.in_err-entry.ensures.lookup.3

pub returns-then-entry-address : goal.returns-then-entry-address
returns-then-entry-address c =
    let point = IsPartitionPoint-from_clause (ends_by c.args.address) c.args.entries.now c.partition_point-index.result c.partition_point-index.ensures.partitioned
    (parted c.args.address c.args.entries.now c.requires) (λ a r f h. search rules) in
    let lookup = c.in_ok-entry.ensures.lookup in
    found_at c.args.address c.args.entries.now c.partition_point-index.result c.in_ok-entry.entry.now point lookup.3.0 lookup.1 c.if-entry-address.true

pub returns-else-entry-address : goal.returns-else-entry-address
returns-else-entry-address c =
    let point = IsPartitionPoint-from_clause (ends_by c.args.address) c.args.entries.now c.partition_point-index.result c.partition_point-index.ensures.partitioned
    (parted c.args.address c.args.entries.now c.requires) (λ a r f h. search rules) in
    let lookup = c.in_ok-entry.ensures.lookup in
    found_before c.args.address c.args.entries.now c.partition_point-index.result c.in_ok-entry.entry.now c.requires point lookup.3.0 lookup.1 c.if-entry-address.false
