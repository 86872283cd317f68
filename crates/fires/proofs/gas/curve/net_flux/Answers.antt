use Rattle.std.proofs.Common.{◌≡◌, ◌+◌, ◌^◌, ℤ, pos, ◌-ℤ◌, ◌*ℤ◌, ap, ◌∙◌, arith}
use Rattle.rounding.specs.Quotient.{rounded_up}
use Rattle.std.proofs.lemmas.Int.{ints}
use Rattle.fires.specs.GasLaws.{fourth_most, powers_apart, radiation_within}
use Rattle.fires.specs.Meaning.{Within}
use Rattle.fires.proofs.gas.curve.net_flux.Goals as goal

pub radiation-requires : goal.radiation-requires
radiation-requires c =
    omega (arith, ints, fourth_most c.args.gas.whole c.args.gas.within.1, fourth_most c.args.steel.whole c.args.steel.within.1)

module _ (c : goal.After-radiation) where
  radiated : c.radiation.result ≡ rounded_up (pos 3969 *ℤ (pos ((c.args.gas.whole + 273) ^ 4) -ℤ pos ((c.args.steel.whole + 273) ^ 4))) 100_000_000_000
  radiated =
      c.radiation.ensures
      ∙ ap (λ (z : ℤ). rounded_up (pos 3969 *ℤ z) 100_000_000_000)
      (powers_apart _ _ _ _ c.fourth_power.ensures c.fourth_power-2.ensures
      (fourth_most c.args.gas.whole c.args.gas.within.1) (fourth_most c.args.steel.whole c.args.steel.within.1))

  within : Within 200000 c.radiation.result
  within = rw radiated (radiation_within c.args.gas.whole c.args.steel.whole c.args.gas.within c.args.steel.within)

pub overflow_add-result : goal.overflow_add-result
overflow_add-result c = omega (arith, ints, within c)

pub overflow_cast-result : goal.overflow_cast-result
overflow_cast-result c = omega (arith, ints, within c)

pub returns : goal.returns
returns c = omega (arith, ints, within c, radiated c)
