-- The digits in front of a text.
use Rattle.std.proofs.Common.{◌≡◌, ℕ, ◌+◌, ◌-◌, ◌*◌, ◌<◌, ◌≤◌, List, [], ◌∷◌, length, get_or, take, one-add, arith}
use Rattle.std.specs.Str.Parse.{AllDigits, digits_value}
use Rattle.std.specs.Int.{IsInRange}
use Rattle.std.specs.Char.{is_ascii_digit, digit_value as digitValue}
use Rattle.std.proofs.lemmas.Int.Digits.{digits_more, digits_value_more}
use Rattle.std.proofs.lemmas.List.{length-take-le}
use Rattle.std.proofs.lemmas.Str.Parse.{IsNumeralModel, digit_at, numerals_by_value, tells_digits, digits_value_short}
use Rattle.std.proofs.lemmas.Bool.{cond_both}
use Rattle.std.proofs.lemmas.Bool.Decides.{nat_tests}
use Rattle.text.specs.Numbers.{digits_in}

own : IsNumeralModel (AllDigits 10) (digits_value 10)
own = numerals_by_value (AllDigits 10) tells_digits

pub digit_value : (c : ℕ) → IsInRange 48 57 c → digitValue c ≡ c - 48
digit_value c here = grind (arith, nat_tests)

pub front_digits : (t : List ℕ) → AllDigits 10 (take (digits_in t) t)
front_digits [] = tt
front_digits (c ∷ t) =
    cond_both (is_ascii_digit c) (1 + digits_in t) 0 (λ n. AllDigits 10 (take n (c ∷ t)))
    (λ e. let v : digitValue c < 10 = grind (arith, nat_tests) in rw one-add (v, front_digits t)) (λ _. tt)

-- ten digits write less than 10^10
pub small : (ds : List ℕ) → AllDigits 10 ds → length ds ≤ 10 → digits_value 10 ds < 10000000000
small ds all few = digits_value_short own ds 10 all few

module _ (ds : List ℕ) (i : ℕ) (all : AllDigits 10 ds) (inside : i < length ds) where
  pub digit_here : IsInRange 48 57 (get_or ds i 0)
  digit_here = digit_at ds i all inside

  -- one digit more
  pub value_on : (v : ℕ) → v ≡ digits_value 10 (take i ds) → 10 * v + (get_or ds i 0 - 48) ≡ digits_value 10 (take (i + 1) ds)
  value_on v so_far = let e = digit_value (get_or ds i 0) digit_here in omega (arith, digits_value_more 10 ds i inside, so_far, e)

  pub digits_on : AllDigits 10 (take i ds) → AllDigits 10 (take (i + 1) ds)
  digits_on before = digits_more 10 ds i inside before (let h = digit_here in let e = digit_value (get_or ds i 0) digit_here in omega arith)

  -- before the last of ten digits there is room for one more
  pub room : length ds ≤ 10 → AllDigits 10 (take i ds) → digits_value 10 (take i ds) < 1000000000
  room few before = digits_value_short own (take i ds) 9 before (omega (arith, length-take-le i ds (omega arith)))
