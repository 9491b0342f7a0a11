use Rattle.std.proofs.Common.{◌<◌, ℕ, length, sym, subst, ◌∙◌}
use Rattle.cache_check.specs.Differences.{path_difference}
use Rattle.cache_check.proofs.DifferenceLaws.{path_at}
use Rattle.cache_check.proofs.FirstLaws.{none_below, none_more, found_here}
use Rattle.cache_check.proofs.comparing.compare_paths.Goals as goal

pub loop-number-init : goal.loop-number-init
loop-number-init c = none_below (path_difference c.args.entries.now c.args.files.now)

pub returns-in-Some : goal.returns-in-Some
returns-in-Some c =
    let lt = subst (λ (n : ℕ). c.loop-number.number < n) c.requires.same c.loop-number-test.true in
    found_here (path_difference c.args.entries.now c.args.files.now) c.loop-number.number (length c.args.files.now) c.in_ok-found.field-0 c.in-Some.found c.loop-number.invariant lt
    (path_at c.args.entries.now c.args.files.now c.loop-number.number c.index-entries-number.result c.index-files-number.result c.in_ok-found.field-0 c.loop-number-test.true lt c.index-entries-number.is c.index-files-number.is c.in_ok-found.ensures)
    c.in-Some.is

pub loop-number-preserved : goal.loop-number-preserved
loop-number-preserved c =
    let lt = subst (λ (n : ℕ). c.loop-number.number < n) c.requires.same c.loop-number-test.true in
    none_more (path_difference c.args.entries.now c.args.files.now) c.loop-number.number c.loop-number.invariant
    (sym (path_at c.args.entries.now c.args.files.now c.loop-number.number c.index-entries-number.result c.index-files-number.result c.in_ok-found.field-0 c.loop-number-test.true lt c.index-entries-number.is c.index-files-number.is c.in_ok-found.ensures)
    ∙ c.in_default.is)
