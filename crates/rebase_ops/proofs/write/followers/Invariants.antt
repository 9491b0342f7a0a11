-- So many go on with the run, and the last of them is known.
use Rattle.rebase_ops.proofs.RunLaws.{Follows}
use Rattle.rebase_ops.proofs.write.followers.Given as goal

abbrev pub invariant-loop-i : goal.invariant-loop-i
invariant-loop-i l = Follows l.fn.first l.rest l.i l.last
