use Rattle.std.proofs.Common.{◌≡◌, take, ap, arith}
use Rattle.std.specs.Str.Parse.{digits_value}
use Rattle.std.proofs.lemmas.List.{take_all}
use Rattle.text.proofs.Digits.{digit_here, digits_on, room, small, value_on}
use Rattle.text.proofs.number.digits_value.Goals as goal

pub overflow_mul-value : goal.overflow_mul-value
overflow_mul-value c = omega (arith, c.loop-digit.invariant.0, room c.args.digits.now c.loop-digit.digit-index c.requires.digits c.loop-digit-test.true c.requires.few c.loop-digit.invariant.1)

pub overflow_sub-digit : goal.overflow_sub-digit
overflow_sub-digit c = (digit_here c.args.digits.now c.loop-digit.digit-index c.requires.digits c.loop-digit-test.true).0

pub overflow_add-value : goal.overflow_add-value
overflow_add-value c =
    let h = digit_here c.args.digits.now c.loop-digit.digit-index c.requires.digits c.loop-digit-test.true in
    omega (arith, c.loop-digit.invariant.0, room c.args.digits.now c.loop-digit.digit-index c.requires.digits c.loop-digit-test.true c.requires.few c.loop-digit.invariant.1)

pub loop-digit-preserved : goal.loop-digit-preserved
loop-digit-preserved c = (
  cc (value_on c.args.digits.now c.loop-digit.digit-index c.requires.digits c.loop-digit-test.true c.loop-digit.value c.loop-digit.invariant.0, c.from.ensures),
  digits_on c.args.digits.now c.loop-digit.digit-index c.requires.digits c.loop-digit-test.true c.loop-digit.invariant.1,
)

pub returns : goal.returns
returns c =
    let all : take c.loop-digit.digit-index c.args.digits.now ≡ c.args.digits.now = take_all _ _ c.loop-digit-test.false in
    record { value = cc c.loop-digit.invariant.0; range = omega (arith, small c.args.digits.now c.requires.digits c.requires.few, c.loop-digit.invariant.0, ap (digits_value 10) all) }
