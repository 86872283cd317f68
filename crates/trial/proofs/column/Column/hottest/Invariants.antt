use Rattle.std.proofs.Common.{◌≡◌, ◌-◌}
use Rattle.trial.specs.Columns.{temperature_of}
use Rattle.trial.specs.Questions.{hottest}
use Rattle.trial.proofs.column.Column.hottest.Given as goal

-- the highest of the steps seen, of step 0 before the first
abbrev pub invariant-loop-step : goal.invariant-loop-step
invariant-loop-step l = l.highest ≡ hottest (temperature_of l.self) (l.step - 1)
