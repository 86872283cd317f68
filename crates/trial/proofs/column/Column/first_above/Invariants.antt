use Rattle.std.proofs.Common.{◌≡◌, ℕ, ◌<◌, false, ltb}
use Rattle.trial.specs.Columns.{temperature_of}
use Rattle.trial.proofs.column.Column.first_above.Given as goal

-- none of the steps seen is above the limit
abbrev pub invariant-loop-step : goal.invariant-loop-step
invariant-loop-step l = (k : ℕ) → k < l.step → ltb l.limit (temperature_of l.self k) ≡ false
