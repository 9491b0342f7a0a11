-- The bytes so far and those for what is above them.
use Rattle.dsc_base.proofs.UlebLaws.{IsCounted}
use Rattle.dsc_base.proofs.uleb.uleb_len.Given as goal

abbrev pub invariant-loop-rest : goal.invariant-loop-rest
invariant-loop-rest l = IsCounted l.len l.rest l.value

abbrev pub decreases-loop-rest : goal.decreases-loop-rest
decreases-loop-rest l = l.rest
