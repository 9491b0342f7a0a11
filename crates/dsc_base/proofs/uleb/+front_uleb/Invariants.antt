-- Each call has one byte less left.
use Rattle.dsc_base.proofs.uleb.+front_uleb.Given as goal

abbrev pub decreases-front_uleb : goal.decreases-front_uleb
decreases-front_uleb l = l.left
