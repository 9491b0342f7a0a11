use Rattle.bind_ops.proofs.ClashLaws.{Merging}
use Rattle.bind_ops.proofs.clash.first_below.Given as goal

abbrev pub invariant-loop-low : goal.invariant-loop-low
invariant-loop-low l = Merging l.gap l.lower l.upper l.low-index l.next
