-- Each call has one byte less left.
use Rattle.dsc_base.proofs.uleb.+front_sleb.Given as goal

abbrev pub decreases-front_sleb : goal.decreases-front_sleb
decreases-front_sleb l = l.left
