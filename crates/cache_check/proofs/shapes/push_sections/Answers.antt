use Rattle.std.proofs.Common.{◌+◌, ◌++◌, ℕ, List, Vec, Global, get_or, refl, sym, ap, subst, ◌∙◌, nat_eq}
use Rattle.std.specs.Prelude.{filter}
use Rattle.std.specs.List.{flat_map}
use Rattle.std.proofs.lemmas.Bool.{eq-eqb, ne_eqb}
use Rattle.std.proofs.lemmas.List.{take_all}
use Rattle.macho_image.specs.declared.section.Section.{Section}
use Rattle.load_model.specs.Corresponds.{section_shape}
use Rattle.cache_check.proofs.PartLaws.{AreShaped, blank, shaped_start, shaped_more, shaped_other}
use Rattle.cache_check.proofs.shapes.push_sections.Goals as goal
use Rattle.cache_check.proofs.shapes.push_sections.Goals.{then-section-number+in_ok-push_section, else-section-number}

pub loop-section-init : goal.loop-section-init
loop-section-init c = shaped_start c.args.segment.now c.args.number c.args.sections.now c.args.numbers.now.items

pub loop-section-preserved : goal.loop-section-preserved
loop-section-preserved c = elim c.if-section-number.branch [
  | then-section-number+in_ok-push_section w ↦
      shaped_more c.args.segment.now c.args.number c.loop-section.section-index c.args.sections.now c.args.numbers.now.items c.loop-section.numbers.items c.if-section-number.numbers.items blank
      (get_or c.args.sections.now c.loop-section.section-index blank) c.loop-section.invariant c.loop-section-test.true refl (eq-eqb (get_or c.args.sections.now c.loop-section.section-index blank).segment c.args.number w.if-section-number.true)
      (ap (λ (v : Vec ℕ Global). v.items) w.numbers-is ∙ w.in_ok-push_section.ensures)
  | else-section-number w ↦
      subst (λ (v : Vec ℕ Global). AreShaped c.args.segment.now c.args.number c.args.sections.now c.args.numbers.now.items v.items (c.loop-section.section-index + 1)) (sym w.numbers-is)
      (shaped_other c.args.segment.now c.args.number c.loop-section.section-index c.args.sections.now c.args.numbers.now.items c.loop-section.numbers.items blank
      (get_or c.args.sections.now c.loop-section.section-index blank) c.loop-section.invariant c.loop-section-test.true refl (ne_eqb (get_or c.args.sections.now c.loop-section.section-index blank).segment c.args.number w.if-section-number.false))
]

pub returns : goal.returns
returns c =
    c.loop-section.invariant.are
    ∙ ap (λ (ss : List Section). c.args.numbers.now.items ++ flat_map (section_shape c.args.segment.now) (filter (λ (s : Section). nat_eq s.segment c.args.number) ss)) (take_all c.loop-section.section-index c.args.sections.now c.loop-section-test.false)
