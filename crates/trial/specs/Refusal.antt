-- The numbers of what is refused and of what stops a step.
use Rattle.std.specs.Prelude.{ℕ, List, []}
use Rattle.trial.specs.declared.refusal.Refusal.{Refusal}
use Rattle.trial.specs.declared.refusal.Refusal.TheVariants.{NotCarriedCold, BackBeyondStart}
use Rattle.trial.specs.declared.stop.Stop.{Stop}
use Rattle.trial.specs.declared.stop.Stop.TheVariants.{SheetFull, FireEnded, NoReading, TooHot}

-- a number and its values, of which there are none here
abbrev pub Refused : Type 0
Refused = ℕ × List ℕ

abbrev pub refused : Refusal → Refused
refused NotCarriedCold = (11, [])
refused BackBeyondStart = (12, [])

abbrev pub stop_number : Stop → ℕ
stop_number SheetFull = 13
stop_number FireEnded = 14
stop_number NoReading = 15
stop_number TooHot = 16
