-- The trials that are read: a member of carbon steel in a gauge record.
use Rattle.std.specs.Prelude.{ℕ, List}
use Rattle.member_check.specs.declared.input.Figures.{Figures}
use Rattle.fires.specs.Gauge.{gauge_tells}
use Rattle.steels.specs.Carbon.{carbon_capacity, carbon_factor}
use Rattle.steels.specs.declared.table.Reduction.TheVariants.{Stiffness, Strength}
use Rattle.trial.specs.Parts.{Parts}

-- a member's figures and the bytes of a record
abbrev pub parts_in : Figures → List ℕ → Parts
parts_in figures bytes = record {
  figures = figures;
  strength = carbon_factor Strength;
  stiffness = carbon_factor Stiffness;
  capacity = carbon_capacity;
  tells = λ k _. gauge_tells bytes k;
}
