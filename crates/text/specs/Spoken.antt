-- Answers as bytes.
use Rattle.std.specs.Prelude.{ℕ, List, [], ◌∷◌, ◌++◌, Some, None, Ok, Err, codes, decimal, Option}
use Rattle.trial.specs.Course.{stop_code}
use Rattle.trial.specs.Refusal.{refused}
use Rattle.trial.specs.declared.call.Answer.{Answer}
use Rattle.trial.specs.declared.call.Answer.TheVariants.{Heated, Done, Standing, Temperature, Hottest, CriticalTemperature, FirstFailing}
use Rattle.trial.specs.declared.call.Call.{Call}
use Rattle.trial.specs.declared.call.Call.TheVariants.{Heat, Back, Load, Ask}

-- a field: a comma and a number
abbrev pub told : ℕ → List ℕ
told n = 44 ∷ decimal n

-- the same of a number that may be absent
abbrev pub told_if : Option ℕ → List ℕ
told_if (Some n) = told n
told_if None = 44 ∷ codes "none"

-- the fields of an answer: a heat has two; 0 stands for no stop, and for accepted
abbrev pub fields_of : Answer → List ℕ
fields_of (Heated made stop) = told made ++ told (stop_code stop)
fields_of (Done (Ok x)) = told 0
fields_of (Done (Err r)) = told (refused r).0
fields_of (Standing n) = told n
fields_of (Temperature t) = told_if t
fields_of (Hottest t) = told t
fields_of (CriticalTemperature d) = told d
fields_of (FirstFailing k) = told_if k

-- the letter of a call's line
abbrev pub letter_of : Call → ℕ
letter_of (Load load) = 76
letter_of (Heat asked) = 72
letter_of (Back steps) = 66
letter_of (Ask q) = 81

-- a letter, its fields and a line feed
abbrev pub spoken : ℕ → List ℕ → List ℕ
spoken letter fields = letter ∷ (fields ++ (10 ∷ []))
