-- The numbers fit, since each byte behind leaves room for 128 times as few of them.
use Rattle.std.proofs.Common.{arith}
use Rattle.dsc_base.proofs.StepLaws.{room_nine, room_one, room_two}
use Rattle.dsc_base.proofs.uleb.+front_uleb.Goals as goal
use Rattle.dsc_base.proofs.uleb.+front_uleb.Goals.{else-left-eq1-via-then-left-eq1+else-byte-gt1, else-left-eq1-via-else-left-eq1}

pub overflow_mul-result : goal.overflow_mul-result
overflow_mul-result t c =
    omega (arith, c.in_ok-value-in-len1-up.ensures.fits, room_nine c.args.left (omega arith) (omega arith))

pub overflow_add-result : goal.overflow_add-result
overflow_add-result t c =
    omega (arith, c.from.ensures, c.in_ok-value-in-len1-up.ensures.fits, room_nine c.args.left (omega arith) (omega arith))

pub returns-else-left-eq1-clause-fits : goal.returns-else-left-eq1-clause-fits
returns-else-left-eq1-clause-fits t c =
    elim c.else-left-eq1.branch [
      | else-left-eq1-via-then-left-eq1+else-byte-gt1 w ↦
          omega (arith, c.from-in-len1-up.ensures, room_one c.args.left (omega arith))
      | else-left-eq1-via-else-left-eq1 w ↦
          omega (arith, c.from-in-len1-up.ensures, room_two c.args.left (omega arith))
    ]
