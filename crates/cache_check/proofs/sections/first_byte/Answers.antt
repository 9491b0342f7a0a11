use Rattle.std.proofs.Common.{ℕ, sym, ap, ◌∙◌}
use Rattle.cache_check.specs.Bytes.{in_section}
use Rattle.cache_check.specs.Firsts.{first_below}
use Rattle.cache_check.specs.Steps.Gaps.{held_mismatch}
use Rattle.cache_check.proofs.FirstLaws.{none_below, none_more, none_all, found_here}
use Rattle.cache_check.proofs.sections.first_byte.Goals as goal

pub loop-number-init : goal.loop-number-init
loop-number-init c = none_below (in_section (held_mismatch c.args.extents.now) c.args.matching.now.file.now c.args.matching.now.cached.now)

pub returns-in-Some : goal.returns-in-Some
returns-in-Some c =
    found_here (in_section (held_mismatch c.args.extents.now) c.args.matching.now.file.now c.args.matching.now.cached.now) c.loop-number.number c.section_count-number-end.result c.byte_of.result c.in-Some.other c.loop-number.invariant c.loop-number-test.true c.byte_of.ensures c.in-Some.is
    ∙ ap (λ (n : ℕ). first_below (in_section (held_mismatch c.args.extents.now) c.args.matching.now.file.now c.args.matching.now.cached.now) n) c.section_count-number-end.ensures.count

pub loop-number-preserved : goal.loop-number-preserved
loop-number-preserved c =
    none_more (in_section (held_mismatch c.args.extents.now) c.args.matching.now.file.now c.args.matching.now.cached.now) c.loop-number.number c.loop-number.invariant (sym c.byte_of.ensures ∙ c.in_default.is)

pub returns : goal.returns
returns c =
    sym (ap (λ (n : ℕ). first_below (in_section (held_mismatch c.args.extents.now) c.args.matching.now.file.now c.args.matching.now.cached.now) n) (sym c.section_count-number-end.ensures.count)
    ∙ none_all (in_section (held_mismatch c.args.extents.now) c.args.matching.now.file.now c.args.matching.now.cached.now) c.loop-number.number c.section_count-number-end.result c.loop-number.invariant c.loop-number-test.false c.loop-number.auto.number-end)
