use Rattle.std.proofs.Common.{◌≡◌, ◌≤◌, ◌+◌, ◌%◌, length, take, drop, sym, ap, subst, ◌∙◌}
use Rattle.dsc_base.specs.declared.fault.Span.{Span}
use Rattle.slide_chain.specs.Chains.{Slide, Suits}
use Rattle.cache_header.specs.Records.{Head}
use Rattle.slide_chain.specs.Info.{info_read}
use Rattle.cache_check.specs.Views.{data_bytes}
use Rattle.cache_check.proofs.ViewLaws.{mappings_count, data_inside, data_pages, slide_inside, suits_of}
use Rattle.cache_check.proofs.read.read_words.Goals as goal

pub data_range-range-requires : goal.data_range-range-requires
data_range-range-requires c = mappings_count (length c.args.cache.now) c.args.head.now c.requires.shaped

pub range_of-requires : goal.range_of-requires
range_of-requires c =
    subst (λ (h : Head). h.slide_info.at + h.slide_info.len ≤ length c.args.cache.now) (sym c.head.view_is) (slide_inside (length c.args.cache.now) c.args.head.now c.requires.shaped)

pub read_slide_info-requires : goal.read_slide_info-requires
read_slide_info-requires c =
    subst (λ (s : Span). s.len % 4096 ≡ 0) (sym c.data_range-range.ensures) (data_pages (length c.args.cache.now) c.args.head.now c.requires.shaped)

pub range_of-requires-2 : goal.range_of-requires-2
range_of-requires-2 c =
    subst (λ (s : Span). s.at + s.len ≤ length c.args.cache.now) (sym c.data_range-range.ensures) (data_inside (length c.args.cache.now) c.args.head.now c.requires.shaped)

pub read_chains-requires : goal.read_chains-requires
read_chains-requires c =
    let area = c.range_of-2.ensures ∙ ap (λ (s : Span). take s.len (drop s.at c.args.cache.now)) c.data_range-range.ensures in
    subst (Suits c.in_ok-info.info) (sym area)
    (suits_of c.in_ok-info.info c.args.head.now c.args.cache.now c.requires.shaped (c.in_ok-info.ensures.pages ∙ ap (λ (s : Span). s.len) c.data_range-range.ensures) c.in_ok-info.ensures.run)

pub returns-clause-suits : goal.returns-clause-suits
returns-clause-suits c =
    let bytes = c.range_of.ensures ∙ ap (λ (h : Head). take h.slide_info.len (drop h.slide_info.at c.args.cache.now)) c.head.view_is in
    subst (λ (s : Slide). Suits s (data_bytes c.args.head.now c.args.cache.now)) (c.in_ok-info.ensures.info ∙ ap info_read bytes)
    (suits_of c.in_ok-info.info c.args.head.now c.args.cache.now c.requires.shaped (c.in_ok-info.ensures.pages ∙ ap (λ (s : Span). s.len) c.data_range-range.ensures) c.in_ok-info.ensures.run)
