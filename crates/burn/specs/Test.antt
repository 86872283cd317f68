-- What is tested: a strut of carbon steel in a gauge record made from phases.
use Rattle.std.specs.Prelude.{List, Some}
use Rattle.examples.specs.Worked.{s235}
use Rattle.member_check.specs.declared.input.Figures.{Figures}
use Rattle.fires.specs.Gauge.{gauge_tells}
use Rattle.fires.specs.contracts.gauge.reading.GaugeRecordFire.TheImpl as gauge
use Rattle.fires.specs.declared.gauge.GaugeRecord.{GaugeRecord}
use Rattle.steels.specs.Carbon.{carbon_capacity, carbon_factor}
use Rattle.steels.specs.contracts.carbon.CarbonSteel.TheImpl as carbon
use Rattle.steels.specs.declared.carbon.Carbon.{Carbon}
use Rattle.steels.specs.declared.table.Reduction.TheVariants.{Stiffness, Strength}
use Rattle.trial.specs.Parts.{Parts}
use Rattle.trial.specs.Views.{View, view_of}
use Rattle.trial.specs.declared.sheet.Sheet.{Sheet}
use Rattle.burn.specs.Record.{record_of}
use Rattle.burn.specs.declared.record.Phase.{Phase}

abbrev pub strut_figures : Figures
strut_figures = s235 (Some 2000000)

abbrev pub parts_in : List Phase → Parts
parts_in phases = record {
  figures = strut_figures;
  strength = carbon_factor Strength;
  stiffness = carbon_factor Stiffness;
  capacity = carbon_capacity;
  tells = λ k _. gauge_tells (record_of phases) k;
}

-- a sheet of such a test, as contracts see it
abbrev pub seen : Sheet Carbon GaugeRecord → View
seen sheet = view_of carbon.ghosts gauge.ghosts sheet
