use Rattle.std.proofs.Common.{arith}
use Rattle.decimal_numerals.proofs.Digits.{digit_at, room}
use Rattle.decimal_numerals.proofs.number.Goals as goal

pub overflow_mul-number : goal.overflow_mul-number
overflow_mul-number c = omega (arith, room _ _ _ c.loop-digit.invariant.small c.loop-digit-test.true c.requires.few)

pub overflow_add-number : goal.overflow_add-number
overflow_add-number c =
    omega (
      arith,
      room _ _ _ c.loop-digit.invariant.small c.loop-digit-test.true c.requires.few,
      digit_at _ _ c.requires.digits c.loop-digit-test.true,
    )
