use Rattle.std.proofs.Common.{◌<◌, ℕ, Some, length, get_or, sym, ap, subst, ◌∙◌, arith}
use Rattle.std.proofs.lemmas.List.{get_or_default}
use Rattle.cache_check.specs.declared.extents.Extent.{Extent}
use Rattle.cache_check.specs.declared.mismatch.Mismatch.{Mismatch}
use Rattle.cache_check.specs.Steps.Gaps.{AreSame, held_mismatch}
use Rattle.cache_check.specs.Steps.Sides.{pair_view}
use Rattle.cache_check.proofs.GapLaws.{tried_start, tried_more, differs_at, none_differs}
use Rattle.cache_check.proofs.gaps.byte_mismatch.Goals as goal

pub loop-index-init : goal.loop-index-init
loop-index-init c =
    tried_start c.args.extents.now c.args.number (pair_view c.args.pair.now) c.count_before-index.result c.count_before-index.ensures.bound c.requires.narrow c.count_before-index.ensures.before

pub returns-in-Some : goal.returns-in-Some
unfolding held_mismatch
returns-in-Some c =
    let inside : c.loop-index.index < length c.args.extents.now = omega (arith, c.loop-index-test.true, c.count_below-index-end.ensures.bound) in
    let below = c.count_below-index-end.ensures.below c.loop-index.index (record { at = 0; width = 0 }) c.loop-index-test.true in
    let first = c.in-Some.ensures in
    ap (λ (m : Mismatch). Some m) c.other_byte.ensures
    ∙ sym (differs_at c.args.extents.now c.args.number (pair_view c.args.pair.now) c.loop-index.index c.loop-index.at c.requires.sorted c.loop-index.invariant c.in-Some.offset c.args.pair.now.here.now.size
    (omega (arith, first.1, c.saturating_sub-from.ensures, below)) first.0 first.2 first.3
    (λ i d from lt.
    let order = c.requires.sorted c.loop-index.index i d from lt in
    let same = ap (λ (x : Extent). x.at) (get_or_default c.args.extents.now c.loop-index.index d (record { at = 0; width = 0 }) inside) in
    omega (arith, order, same, first.1, c.saturating_sub-from.ensures)))

pub loop-index-preserved : goal.loop-index-preserved
loop-index-preserved c =
    let inside : c.loop-index.index < length c.args.extents.now = omega (arith, c.loop-index-test.true, c.count_below-index-end.ensures.bound) in
    tried_more c.args.extents.now c.args.number (pair_view c.args.pair.now) c.loop-index.index c.loop-index.at c.requires.sorted c.loop-index.invariant (get_or c.args.extents.now c.loop-index.index (record { at = 0; width = 0 })) c.max-at.result inside
    (λ d. get_or_default c.args.extents.now c.loop-index.index d (record { at = 0; width = 0 }) inside)
    (subst (λ (n : ℕ). AreSame (pair_view c.args.pair.now) c.loop-index.at n) c.saturating_sub-from.ensures c.in_default.ensures)
    (omega (arith, c.max-at.ensures)) (omega (arith, c.max-at.ensures, c.saturating_sub.ensures)) (λ more. omega (arith, c.max-at.ensures, c.saturating_sub.ensures, more))

pub returns-in-Some-first_other : goal.returns-in-Some-first_other
unfolding held_mismatch
returns-in-Some-first_other c =
    let first = c.in-Some-first_other.ensures in
    ap (λ (m : Mismatch). Some m) c.other_byte-in-Some-first_other.ensures
    ∙ sym (differs_at c.args.extents.now c.args.number (pair_view c.args.pair.now) c.loop-index.index c.loop-index.at c.requires.sorted c.loop-index.invariant c.in-Some-first_other.offset c.args.pair.now.here.now.size
    first.1 first.0 first.2 first.3
    (λ i d from lt. let over = c.count_below-index-end.ensures.above i d (omega (arith, from, c.loop-index-test.false)) lt in omega (arith, over, first.1)))

pub returns-in-None : goal.returns-in-None
unfolding held_mismatch
returns-in-None c =
    sym (none_differs c.args.extents.now c.args.number (pair_view c.args.pair.now) c.loop-index.index c.loop-index.at c.requires.sorted c.loop-index.invariant c.args.pair.now.here.now.size c.in-None.ensures)
