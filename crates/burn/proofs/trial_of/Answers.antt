use Rattle.std.proofs.Common.{◌≡◌, List, [], ◌∙◌, subst}
use Rattle.std.proofs.lemmas.Result.{IfOk-from_err}
use Rattle.member_check.specs.Members.{figures_of}
use Rattle.member_check.specs.declared.checked.Member.{Member}
use Rattle.fires.specs.Gauge.{bytes_of, gauge_tells}
use Rattle.fires.specs.contracts.gauge.reading.GaugeRecordFire.TheImpl as gauge
use Rattle.fires.specs.declared.gauge.GaugeRecord.{GaugeRecord}
use Rattle.steels.specs.Carbon.{carbon_capacity, carbon_factor}
use Rattle.steels.specs.contracts.carbon.CarbonSteel.TheImpl as carbon
use Rattle.steels.specs.declared.carbon.Carbon.{Carbon}
use Rattle.steels.specs.declared.table.Reduction.TheVariants.{Stiffness, Strength}
use Rattle.trial.specs.Law.{Law}
use Rattle.trial.specs.Views.{parts_of}
use Rattle.burn.specs.Record.{record_of}
use Rattle.burn.specs.Test.{parts_in, seen, strut_figures}
use Rattle.burn.specs.declared.record.Phase.{Phase}
use Rattle.burn.proofs.trial_of.Goals as goal

-- the strut, carbon steel and the record of the phases are the parts
parts_are : (m : Member) (s : Carbon) (g : GaugeRecord) (phases : List Phase) → figures_of m ≡ strut_figures → bytes_of g ≡ record_of phases
    → parts_of carbon.ghosts gauge.ghosts m s g ≡ parts_in phases
parts_are m s g phases figures bytes = λ i. record {
  figures = figures i;
  strength = carbon_factor Strength;
  stiffness = carbon_factor Stiffness;
  capacity = carbon_capacity;
  tells = λ k _. gauge_tells (bytes i) k;
}

-- an error promises nothing
pub returns-in_err-fire : goal.returns-in_err-fire
returns-in_err-fire g c = IfOk-from_err _ _ c.from_residual.ensures.0

pub returns-in_err-strut : goal.returns-in_err-strut
returns-in_err-strut g c = IfOk-from_err _ _ c.from_residual-in_err-strut.ensures.0

pub returns-in_err-play : goal.returns-in_err-play
returns-in_err-play g c = IfOk-from_err _ _ c.from_residual-in_err-play.ensures.0

pub returns : goal.returns
returns g c =
    let same = parts_are c.in_ok-strut.strut _ c.in_ok-fire.fire _ (c.in_ok-strut.ensures.judged.0 ∙ c.s235.ensures) c.in_ok-fire.ensures in
    subst (λ p. Law p c.args.script.now (seen c.play.new.sheet)) same (c.in_ok-play.ensures _ [] c.new-sheet.ensures.law)
