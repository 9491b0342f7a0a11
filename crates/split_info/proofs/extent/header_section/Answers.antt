use Rattle.std.proofs.Common.{◌≡◌, ℕ, List, sym, ap, subst, ◌∙◌, Fits, Fits-lit, w32, Some}
use Rattle.std.specs.List.{position}
use Rattle.std.specs.Option.{option_and_then}
use Rattle.macho_image.specs.Records.{Img, Seg}
use Rattle.macho_image.specs.Segments.{is_text_segment}
use Rattle.macho_image.proofs.HeaderLaws.{text_position}
use Rattle.split_info.specs.References.{segment_section}
use Rattle.split_info.proofs.extent.header_section.Goals as goal

pub overflow_cast-number : goal.overflow_cast-number
overflow_cast-number c =
    let same = c.deref.ensures.value ∙ ap (λ (i : Img). i.segments) c.image.view_is in
    let at : Some c.in_ok-number.number ≡ Some 0 =
    sym c.in_ok-number.was ∙ (c.text_number.ensures ∙ (ap (λ (ss : List Seg). position is_text_segment ss) same ∙ text_position c.args.image.now c.facts.ensures)) in
    let first : c.in_ok-number.number ≡ 0 = cc in
    subst (λ (n : ℕ). Fits w32 n) (sym first) (Fits-lit tt)

pub returns : goal.returns
returns c =
    let same = c.deref.ensures.value ∙ ap (λ (i : Img). i.segments) c.image.view_is in
    let other = c.deref-2.ensures.value ∙ ap (λ (i : Img). i.segments) c.image.view_is in
    let at = sym c.in_ok-number.was ∙ (c.text_number.ensures ∙ ap (λ (ss : List Seg). position is_text_segment ss) same) in
    c.segment_section.ensures
    ∙ (ap (λ (ss : List Seg). segment_section ss c.in_ok-number.number) other
    ∙ ap (option_and_then (segment_section c.args.image.now.segments)) at)
