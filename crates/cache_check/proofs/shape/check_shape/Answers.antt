use Rattle.std.proofs.Common.{sym, ap, subst, ◌∙◌}
use Rattle.dsc_base.specs.Refusals.{IsViewRefusal}
use Rattle.dsc_base.specs.declared.fault.Span.{Span}
use Rattle.cache_header.specs.declared.head.Mapping.{Mapping}
use Rattle.cache_header.specs.Records.{Head}
use Rattle.cache_check.specs.Shape.{is_in_mapping, shape_finding}
use Rattle.cache_check.proofs.ShapeLaws.{whole_is, count_three, found_mappings, found_place, found_none}
use Rattle.cache_check.proofs.shape.check_shape.Goals as goal

pub returns-then-not-is_mapped_whole : goal.returns-then-not-is_mapped_whole
returns-then-not-is_mapped_whole c =
    subst (IsViewRefusal (shape_finding c.args.size c.args.head.now)) (sym c.found.ensures)
    (found_mappings c.args.size c.args.head.now (sym c.is_mapped_whole.ensures ∙ c.if-not-is_mapped_whole.true))

pub linkedit_mapping-requires : goal.linkedit_mapping-requires
linkedit_mapping-requires c =
    count_three c.args.size c.args.head.now.mappings (whole_is c.args.size c.args.head.now (sym c.is_mapped_whole.ensures ∙ c.if-not-is_mapped_whole.false)).0

pub returns-then-not-is_in_mapping : goal.returns-then-not-is_in_mapping
returns-then-not-is_in_mapping c =
    let range = ap (λ (h : Head). h.slide_info) c.head.view_is in
    subst (IsViewRefusal (shape_finding c.args.size c.args.head.now)) (sym c.found-then-not-is_in_mapping.ensures)
    (found_place c.args.size c.args.head.now (sym c.is_mapped_whole.ensures ∙ c.if-not-is_mapped_whole.false)
    (ap (λ (m : Mapping). is_in_mapping m c.args.head.now.slide_info) (sym c.linkedit_mapping.ensures)
    ∙ (ap (λ (s : Span). is_in_mapping c.linkedit_mapping.result s) (sym range) ∙ (sym c.is_in_mapping.ensures ∙ c.if-not-is_in_mapping.true))))

pub returns : goal.returns
returns c =
    let range = ap (λ (h : Head). h.slide_info) c.head.view_is in
    found_none c.args.size c.args.head.now (sym c.is_mapped_whole.ensures ∙ c.if-not-is_mapped_whole.false)
    (ap (λ (m : Mapping). is_in_mapping m c.args.head.now.slide_info) (sym c.linkedit_mapping.ensures)
    ∙ (ap (λ (s : Span). is_in_mapping c.linkedit_mapping.result s) (sym range) ∙ (sym c.is_in_mapping.ensures ∙ c.if-not-is_in_mapping.false)))
