use Rattle.std.proofs.Common.{take, sym, ap, ◌∙◌, subst, arith}
use Rattle.std.specs.Str.Parse.{AllDigits}
use Rattle.text.proofs.Digits.{front_digits}
use Rattle.text.proofs.number.number.Goals as goal

pub digits_value-requires : goal.digits_value-requires
digits_value-requires c = record {
  few = omega (arith, c.split_at.ensures.front_len);
  digits = subst (AllDigits 10) (ap (λ n. take n c.args.text.now) (sym c.digit_count.ensures.value) ∙ sym c.split_at.ensures.front) (front_digits c.args.text.now);
}
