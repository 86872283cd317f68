-- A gas curve by its temperatures.
use Rattle.std.specs.Prelude.{ℕ, suc, ◌+◌, ◌/◌, ◌^◌, min, max, cond, List, [], ◌∷◌, length, ℤ, pos, ◌+ℤ◌, ◌-ℤ◌, ◌*ℤ◌, Some, None, Ok, Err, Option, nat_le, nat_lt, slice_index}
use Rattle.rounding.specs.Quotient.{rounded_up}
use Rattle.fires.specs.GasDegrees.{is_gas_degree}
use Rattle.fires.specs.Refusal.{Refused}
use Rattle.fires.specs.declared.gas.GasCurve.{GasCurve}
use Rattle.fires.specs.Meaning.{Reading}
use Rattle.fires.specs.declared.meaning.NoFlux.TheVariants.{Ended}

-- the gas temperatures of a curve, in whole degrees
abbrev pub temperatures_of : GasCurve → List ℕ
temperatures_of c = c.temperatures.items

-- the steel's whole degree, rounded down, at a temperature in millidegrees; outside 20,000 to 1,200,000 that of the nearer end
abbrev pub steel_degree : ℕ → ℕ
steel_degree t = max 20000 (min t 1200000) / 1000

-- the net heat flux from gas at g degrees into steel at s degrees: convection, and radiation rounded up
abbrev pub gas_flux : ℕ → ℕ → ℤ
gas_flux g s =
    pos 25 *ℤ (pos g -ℤ pos s)
    +ℤ rounded_up (pos 3969 *ℤ (pos ((g + 273) ^ 4) -ℤ pos ((s + 273) ^ 4))) 100_000_000_000

-- what is said of a step: the flux from its gas temperature, as long as there is one
abbrev pub gas_tells : List ℕ → ℕ → ℕ → Reading
gas_tells gs k t = cond (nat_lt k (length gs)) (Ok (gas_flux (slice_index gs k) (steel_degree t))) (Err Ended)

-- the first temperature outside 20 to 1,200, counted from i
abbrev pub outside_from : ℕ → List ℕ → Option Refused
outside_from i [] = None
outside_from i (g ∷ gs) = cond (is_gas_degree g) (outside_from (suc i) gs) (Some (9, i ∷ []))

-- the length comes first
abbrev pub gas_fault : List ℕ → Option Refused
gas_fault gs = cond (nat_le (length gs) 4096) (outside_from 0 gs) (Some (9, 4096 ∷ []))
