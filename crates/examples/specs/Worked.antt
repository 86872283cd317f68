-- Worked figures of the rules, as one list.
use Rattle.std.specs.Prelude.{◌≡◌, ℕ, Bool, false, ℤ, pos, neg_ℤ, Some, None, Ok, Option}
use Rattle.steels.specs.Carbon.{carbon_capacity, carbon_factor}
use Rattle.steels.specs.declared.table.Reduction.TheVariants.{Stiffness, Strength}
use Rattle.fires.specs.Gas.{gas_flux}
use Rattle.fires.specs.Gauge.{gauge_reading}
use Rattle.fires.specs.Shaded.{shaded_reading}
use Rattle.member_check.specs.Check.{critical_of, imperfection_of, passes_at}
use Rattle.member_check.specs.declared.input.Figures.{Figures}
use Rattle.trial.specs.Heating.{stepped}
use Rattle.trial.specs.Parts.{Parts}

-- a member of S235, of cold strength 1,000,000, with an ideal buckling load or none
abbrev pub s235 : Option ℕ → Figures
s235 k = record { section_factor = 200; seconds = 5; yield_strength = 235; cold_strength = 1000000; buckling_load = k }

-- its critical temperature in carbon steel, and whether it passes cold
abbrev pub critical : Option ℕ → ℕ → ℕ
critical k load = critical_of (s235 k) (carbon_factor Strength) (carbon_factor Stiffness) load

abbrev pub passes_cold : Option ℕ → ℕ → Bool
passes_cold k load = passes_at (s235 k) (carbon_factor Strength) (carbon_factor Stiffness) load 20

-- the same member in carbon steel, in a fire of one flux
abbrev pub under : ℤ → Parts
under flux = record {
  figures = s235 None;
  strength = carbon_factor Strength;
  stiffness = carbon_factor Stiffness;
  capacity = carbon_capacity;
  tells = λ step temperature. Ok flux;
}

abbrev pub WorkedFigures : Type 0
WorkedFigures =
    (carbon_factor Stiffness 850 ≡ 787)
    × (carbon_capacity 20 ≡ 439)
    × (carbon_capacity 734 ≡ 3916)
    × (carbon_capacity 735 ≡ 5000)
    × (gauge_reading 0xff 0xfd ≡ Ok (neg_ℤ (pos 30)))
    × (gas_flux 100 20 ≡ pos 2476)
    × (shaded_reading 900 (Ok (pos 15)) ≡ Ok (pos 14))
    × (shaded_reading 900 (Ok (neg_ℤ (pos 15))) ≡ Ok (neg_ℤ (pos 13)))
    × (stepped (under (pos 10000)) 0 20000 ≡ 22902)
    × (stepped (under (neg_ℤ (pos 30))) 0 20000 ≡ 20000)
    × (imperfection_of 235 ≡ 43)
    × (critical None 500000 ≡ 590)
    × (critical None 1000000 ≡ 400)
    × (passes_cold None 1000001 ≡ false)
    × (critical (Some 2000000) 300000 ≡ 569)
    × (passes_cold (Some 2000000) 1000000 ≡ false)
