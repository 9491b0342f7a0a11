-- The numbers fit, since each byte behind leaves room for 128 times as few of them.
use Rattle.std.proofs.Common.{arith}
use Rattle.std.proofs.lemmas.Int.{ints}
use Rattle.dsc_base.proofs.StepLaws.{room_nine, room_one, room_two, room_step, signed_bits-seven, signed_bits-none, signed_bits-all}
use Rattle.dsc_base.proofs.uleb.+front_sleb.Goals as goal
use Rattle.dsc_base.proofs.uleb.+front_sleb.Goals.{else-left-eq1-via-then-left-eq1+then-byte-gt0+else-byte-lt127, else-left-eq1-via-then-left-eq1+else-byte-gt0, else-left-eq1-via-else-left-eq1}

pub above-requires-clause-from : goal.above-requires-clause-from
above-requires-clause-from t c =
    omega (arith, ints, c.in_ok-value-in-len1-up.ensures.low, room_nine c.args.left (omega arith) (omega arith))

pub above-requires-clause-to : goal.above-requires-clause-to
above-requires-clause-to t c =
    omega (arith, ints, c.in_ok-value-in-len1-up.ensures.high, room_nine c.args.left (omega arith) (omega arith))

pub returns-then-byte-ge128-clause-high : goal.returns-then-byte-ge128-clause-high
returns-then-byte-ge128-clause-high t c =
    omega (arith, ints, c.above.ensures, c.in_ok-value-in-len1-up.ensures.high, room_step c.args.left (omega arith))

pub returns-else-left-eq1-clause-low : goal.returns-else-left-eq1-clause-low
returns-else-left-eq1-clause-low t c =
    elim c.else-left-eq1.branch [
      | else-left-eq1-via-then-left-eq1+then-byte-gt0+else-byte-lt127 w ↦
          omega (arith, ints, c.sign_extended.ensures, room_one c.args.left (omega arith), (signed_bits-all _ (omega arith) w.if-byte-lt127.false).from)
      | else-left-eq1-via-then-left-eq1+else-byte-gt0 w ↦
          omega (arith, ints, c.sign_extended.ensures, room_one c.args.left (omega arith), (signed_bits-none _ w.if-byte-gt0.false).from)
      | else-left-eq1-via-else-left-eq1 w ↦
          omega (arith, ints, c.sign_extended.ensures, room_two c.args.left (omega arith), (signed_bits-seven _ c.if-byte-ge128.false).from)
    ]

pub returns-else-left-eq1-clause-high : goal.returns-else-left-eq1-clause-high
returns-else-left-eq1-clause-high t c =
    elim c.else-left-eq1.branch [
      | else-left-eq1-via-then-left-eq1+then-byte-gt0+else-byte-lt127 w ↦
          omega (arith, ints, c.sign_extended.ensures, room_one c.args.left (omega arith), (signed_bits-all _ (omega arith) w.if-byte-lt127.false).to)
      | else-left-eq1-via-then-left-eq1+else-byte-gt0 w ↦
          omega (arith, ints, c.sign_extended.ensures, room_one c.args.left (omega arith), (signed_bits-none _ w.if-byte-gt0.false).to)
      | else-left-eq1-via-else-left-eq1 w ↦
          omega (arith, ints, c.sign_extended.ensures, room_two c.args.left (omega arith), (signed_bits-seven _ c.if-byte-ge128.false).to)
    ]
