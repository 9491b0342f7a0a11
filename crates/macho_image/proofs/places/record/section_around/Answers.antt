use Rattle.std.proofs.Common.{rules, sym, ◌∙◌}
use Rattle.std.proofs.lemmas.List.Sorted.{IsPartitionPoint-from_clause}
use Rattle.macho_image.specs.Places.{is_behind}
use Rattle.macho_image.proofs.SectionLaws.{parted, section_found, section_none, section_past}
use Rattle.macho_image.proofs.places.record.section_around.Goals as goal

pub returns-in_err-section : goal.returns-in_err-section
returns-in_err-section c =
    let point = IsPartitionPoint-from_clause (is_behind c.args.width c.args.segment c.args.address) c.args.sections.now c.partition_point-index.result c.partition_point-index.ensures.partitioned
    (parted c.args.width c.args.segment c.args.address c.args.sections.now c.requires.order) (λ a r f h. search rules) in
    c.from_residual.ensures ∙ sym (section_past c.args.width c.args.segment c.args.address c.args.sections.now c.partition_point-index.result point c.in_err-section.ensures.lookup.3)

pub returns-then-holds : goal.returns-then-holds
returns-then-holds c =
    let point = IsPartitionPoint-from_clause (is_behind c.args.width c.args.segment c.args.address) c.args.sections.now c.partition_point-index.result c.partition_point-index.ensures.partitioned
    (parted c.args.width c.args.segment c.args.address c.args.sections.now c.requires.order) (λ a r f h. search rules) in
    let lookup = c.in_ok-section.ensures.lookup in
    sym (section_found c.args.width c.args.segment c.args.address c.args.sections.now c.partition_point-index.result c.in_ok-section.section.now point lookup.3.0 lookup.1 (sym c.if-holds.ensures))

pub returns-else-holds : goal.returns-else-holds
returns-else-holds c =
    let point = IsPartitionPoint-from_clause (is_behind c.args.width c.args.segment c.args.address) c.args.sections.now c.partition_point-index.result c.partition_point-index.ensures.partitioned
    (parted c.args.width c.args.segment c.args.address c.args.sections.now c.requires.order) (λ a r f h. search rules) in
    let lookup = c.in_ok-section.ensures.lookup in
    sym (section_none c.args.width c.args.segment c.args.address c.args.sections.now c.partition_point-index.result c.in_ok-section.section.now c.requires.order point lookup.3.0 lookup.1 (sym c.if-holds.ensures))
