use Rattle.std.specs.Prelude.{suc}
use Rattle.std.proofs.Common.{◌≡◌, ◌++◌, ◌+◌, ℕ, List, ap, ◌∙◌, arith, take, drop, slice_set, slice_index_or}
use Rattle.dsc_base.specs.InMemory.{after_call, one_call_later}
use Rattle.dsc_base.specs.declared.outside.planned.Planned.{Planned}
use Rattle.dsc_base.proofs.OutsideLaws.{map_step}
use Rattle.dsc_base.proofs.outside.planned.count_call.Goals as goal

pub loop-plan-preserved : goal.loop-plan-preserved
loop-plan-preserved c =
    let none : Planned = record { turn = 0; taken = 0 } in
    let i : ℕ = c.loop-plan.plan-index in
    let next : suc i ≡ i + 1 = omega arith in
    ap (λ (n : ℕ). let p : Planned = record { turn = n; taken = (slice_index_or c.loop-plan.planned i none).taken } in slice_set c.loop-plan.planned i p) c.saturating_sub-plan.ensures
    ∙ ap (λ (ps : List Planned). slice_set ps i (one_call_later (slice_index_or ps i none))) c.loop-plan.invariant
    ∙ map_step one_call_later c.args.planned.now i none c.loop-plan-test.true
    ∙ ap (λ (k : ℕ). after_call (take k c.args.planned.now) ++ drop k c.args.planned.now) next
