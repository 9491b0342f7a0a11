use Rattle.std.proofs.Common.{ℕ, List, Bor, arith}
use Rattle.dsc_tool.proofs.ListLaws.{one_more}
use Rattle.dsc_tool.proofs.command.copy_names.Goals as goal

pub loop-name-preserved : goal.loop-name-preserved
loop-name-preserved c =
    one_more (λ (name : Bor (List ℕ)). name.now) c.args.names.now c.loop-name.name-index _ c.in_ok-from_str.field-0 _ _ (omega arith) c.in_ok-from_str.ensures c.loop-name.invariant
    c.in_ok-push.ensures.items
