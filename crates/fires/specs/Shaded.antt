-- A shaded fire by its parts.
use Rattle.std.specs.Prelude.{ℕ, cond, ◌&&◌, [], pos, ◌*ℤ◌, Some, None, Ok, Err, Option, nat_le}
use Rattle.rounding.specs.Quotient.{rounded_up}
use Rattle.fires.specs.Refusal.{Refused}
use Rattle.fires.specs.Meaning.{Reading}
use Rattle.fires.specs.declared.meaning.NoFlux.TheVariants.{Missing, Ended}
use Rattle.fires.specs.declared.shading.Shading.{Shading}
use Rattle.fires.specs.declared.shading.shaded.Shaded.{Shaded}

-- the thousandths of a shading
abbrev pub thousandths_of : Shading → ℕ
thousandths_of s = s.thousandths

-- the fire that a shaded one stands over
abbrev pub fire_below : {F : Type 0} → Shaded F → F
fire_below f = f.below

-- the shading of a shaded fire
abbrev pub shading_of : {F : Type 0} → Shaded F → Shading
shading_of f = f.shading

-- a reading shaded to m thousandths: the flux is rounded up, and no reading and ended pass as they are
abbrev pub shaded_reading : ℕ → Reading → Reading
shaded_reading m (Ok q) = Ok (rounded_up (q *ℤ pos m) 1000)
shaded_reading m (Err Missing) = Err Missing
shaded_reading m (Err Ended) = Err Ended

-- a shading lies from 1 to 1,000
abbrev pub shading_fault : ℕ → Option Refused
shading_fault m = cond (nat_le 1 m && nat_le m 1000) None (Some (10, []))
