-- The number is small enough to go on with a digit.
use Rattle.std.proofs.Common.{◌<◌, ◌≤◌, arith}
use Rattle.fvn_weights_reading.specs.declared.limits.TheConstants.{NUMBER_DIGITS}
use Rattle.fvn_weights_reading.proofs.Digits.{short, digit-high, small}
use Rattle.fvn_weights_reading.proofs.numbers.number.Goals as goal
use Rattle.fvn_weights_reading.proofs.numbers.number.Goals.{Start}

pub overflow_mul-value : goal.overflow_mul-value
overflow_mul-value c =
    let few = short c.args.digits.now c.requires in
    let within : c.loop-byte.byte-index ≤ NUMBER_DIGITS = omega (arith, few, c.loop-byte-test.true) in
    let bound = small c.loop-byte.byte-index c.loop-byte.value within c.loop-byte.invariant.1 in
    omega (arith, bound)

pub overflow_add-value : goal.overflow_add-value
overflow_add-value c =
    let few = short c.args.digits.now c.requires in
    let within : c.loop-byte.byte-index ≤ NUMBER_DIGITS = omega (arith, few, c.loop-byte-test.true) in
    let bound = small c.loop-byte.byte-index c.loop-byte.value within c.loop-byte.invariant.1 in
    let high = digit-high c.args.digits.now c.requires c.loop-byte.byte-index 0 c.loop-byte-test.true in
    omega (arith, bound, high, c.from.ensures)
