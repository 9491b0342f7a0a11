use Rattle.std.proofs.Common.{◌+◌, ◌*◌, length, max}
use Rattle.ref_rewrite.proofs.rewrite.+run.Given as goal

-- halves are shorter than the whole; a closure stands between the call that makes it and the one in it
abbrev pub decreases-rewrite_run : goal.decreases-rewrite_run
decreases-rewrite_run g l = 3 * length l.plans.now

abbrev pub decreases-rewrite_halves : goal.decreases-rewrite_halves
decreases-rewrite_halves g l = 3 * max (length l.left.now) (length l.right.now) + 2

abbrev pub decreases-rewrite_halves-front : goal.decreases-rewrite_halves-front
decreases-rewrite_halves-front g l = 3 * length l.left.now + 1

abbrev pub decreases-rewrite_halves-back : goal.decreases-rewrite_halves-back
decreases-rewrite_halves-back g l = 3 * length l.right.now + 1
