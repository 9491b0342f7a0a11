use Rattle.std.proofs.Common.{◌≤◌, ◌<◌, ◌+◌, length, get_or, arith}
use Rattle.bind_ops.proofs.ClashLaws.{merging_step}
use Rattle.bind_ops.proofs.clash.first_below.Goals as goal
use Rattle.bind_ops.proofs.clash.first_below.Goals.{else-next-upper-via-then-next-upper+else-saturating_sub-lt-WORD, else-next-upper-via-else-next-upper}

pub loop-low-preserved : goal.loop-low-preserved
loop-low-preserved c =
    let lower = c.args.lower.now in
    let upper = c.args.upper.now in
    let i = c.loop-low.low-index in
    let next = c.first_above-next.result in
    let high : next < length upper → get_or lower i 0 + 8 ≤ get_or upper next 0 = elim c.else-next-upper.branch [
      | else-next-upper-via-then-next-upper+else-saturating_sub-lt-WORD w ↦ (λ lt. let apart = w.saturating_sub.ensures in let far = w.if-saturating_sub-lt-WORD.false in omega arith)
      | else-next-upper-via-else-next-upper w ↦ (λ lt. let past = w.if-next-upper.false in absurd (omega arith))
    ] in
    merging_step c.args.gap lower upper i c.loop-low.next next c.requires.lower c.requires.upper c.loop-low.invariant c.loop-low-test.true c.first_above-next.ensures.within c.first_above-next.ensures.passed high
