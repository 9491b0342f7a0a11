-- The bytes so far and the spelling of what is above them are the number's spelling.
use Rattle.std.proofs.Common.{◌≡◌, length}
use Rattle.dsc_base.proofs.UlebLaws.{IsSpelt}
use Rattle.dsc_base.proofs.uleb.put_uleb.Given as goal

abbrev pub invariant-loop-rest : goal.invariant-loop-rest
invariant-loop-rest l = IsSpelt l.spelling l.len l.rest l.value × (length l.spelling ≡ 10)

abbrev pub decreases-loop-rest : goal.decreases-loop-rest
decreases-loop-rest l = l.rest
