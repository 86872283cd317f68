-- What is refused here: the number of each refusal, and the values that go with it.
use Rattle.std.specs.Prelude.{ℕ, List, [], ◌∷◌}
use Rattle.fires.specs.declared.refusal.Refusal.{Refusal}
use Rattle.fires.specs.declared.refusal.Refusal.TheVariants.{RecordLength, GasTemperature, Shading}

-- a number and its values; a step is counted from 0
abbrev pub Refused : Type 0
Refused = ℕ × List ℕ

abbrev pub refused : Refusal → Refused
refused RecordLength = (8, [])
refused (GasTemperature k) = (9, k ∷ [])
refused Shading = (10, [])
