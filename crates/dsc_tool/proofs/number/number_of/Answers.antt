-- What up to 20 digits spell is far from 2 to the 128.
use Rattle.std.proofs.Common.{get_or, sym, arith}
use Rattle.dsc_tool.proofs.NumberLaws.{tens_small, digit_small}
use Rattle.dsc_tool.proofs.number.number_of.Goals as goal

pub overflow_mul-number : goal.overflow_mul-number
overflow_mul-number c =
    let few = tens_small c.loop-byte.byte-index (omega arith) in
    omega (arith, few, c.loop-byte.invariant.1)

pub overflow_add-number : goal.overflow_add-number
overflow_add-number c =
    let few = tens_small c.loop-byte.byte-index (omega arith) in
    let digit = digit_small (get_or c.args.digits.now c.loop-byte.byte-index 0) c.in_ok-digit.field-0 (sym c.in_ok-digit.ensures) in
    omega (arith, few, digit, c.from.ensures, c.loop-byte.invariant.1)
