use Rattle.std.proofs.Common.{ℕ, sym, ap, ◌∙◌}
use Rattle.cache_check.specs.Differences.{part_difference, shape_difference}
use Rattle.cache_check.specs.Firsts.{first_below}
use Rattle.cache_check.proofs.FirstLaws.{none_below, none_more, none_all, found_here}
use Rattle.cache_check.proofs.comparing.compare_shapes.Goals as goal

pub loop-part-init : goal.loop-part-init
loop-part-init c = none_below (part_difference c.args.number c.args.found.now c.args.wanted.now)

pub returns-in-Some : goal.returns-in-Some
unfolding shape_difference
returns-in-Some c =
    found_here (part_difference c.args.number c.args.found.now c.args.wanted.now) c.loop-part.part c.max-part-end.result c.compare_part.result c.in-Some.differs c.loop-part.invariant c.loop-part-test.true c.compare_part.ensures c.in-Some.is
    ∙ ap (λ (n : ℕ). first_below (part_difference c.args.number c.args.found.now c.args.wanted.now) n) c.max-part-end.ensures

pub loop-part-preserved : goal.loop-part-preserved
loop-part-preserved c =
    none_more (part_difference c.args.number c.args.found.now c.args.wanted.now) c.loop-part.part c.loop-part.invariant (sym c.compare_part.ensures ∙ c.in_default.is)

pub returns : goal.returns
unfolding shape_difference
returns c =
    sym (ap (λ (n : ℕ). first_below (part_difference c.args.number c.args.found.now c.args.wanted.now) n) (sym c.max-part-end.ensures)
    ∙ none_all (part_difference c.args.number c.args.found.now c.args.wanted.now) c.loop-part.part c.max-part-end.result c.loop-part.invariant c.loop-part-test.false c.loop-part.auto.part-end)
