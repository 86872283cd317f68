-- The tally of a list of calls: a count and a load, kept without a sheet from the parts' meaning and the calls alone.
use Rattle.std.specs.Prelude.{ℕ, ◌+◌, ◌-◌, cond, List, [], ◌∷◌, None, Ok, Err, nat_le}
use Rattle.trial.specs.Parts.{Parts}
use Rattle.trial.specs.Course.{end, end_cause, entry}
use Rattle.trial.specs.Answers.{can_go_back, carried_cold, judged, told}
use Rattle.trial.specs.declared.call.Answer.{Answer}
use Rattle.trial.specs.declared.call.Answer.TheVariants.{Heated, Done, Standing as Steps, Temperature, Hottest as Highest, CriticalTemperature as Critical, FirstFailing as Failing}
use Rattle.trial.specs.declared.call.Call.{Call}
use Rattle.trial.specs.declared.call.Call.TheVariants.{Heat, Back, Load, Ask}
use Rattle.trial.specs.declared.refusal.Refusal.TheVariants.{NotCarriedCold, BackBeyondStart}

pub record Tally : Type 0 where
  pub count : ℕ
  pub load : ℕ

-- the steps of the course after the count
abbrev pub remaining : Parts → Tally → ℕ
remaining p y = end p - y.count

-- what the tally answers: a heat makes what is asked, or what is remaining if that is less; questions are answered from the course up to the
-- count and from the check at the load
abbrev pub answer : Parts → Tally → Call → Answer
answer p y (Heat asked) = cond (nat_le asked (remaining p y)) (Heated asked None) (Heated (remaining p y) (end_cause p))
answer p y (Back steps) = judged (can_go_back y.count steps) BackBeyondStart
answer p y (Load load) = judged (carried_cold p load) NotCarriedCold
answer p y (Ask q) = told p y.load y.count (entry p) q

-- what an accepted call changes: a back takes steps away, a load replaces the load
abbrev pub accepted : Tally → Call → Tally
accepted y (Heat asked) = y
accepted y (Back steps) = record { count = y.count - steps; load = y.load }
accepted y (Load load) = record { count = y.count; load = load }
accepted y (Ask q) = y

-- the tally after a call and its answer: the steps that a heat was told to have made are added, an accepted call is done, and all else
-- changes nothing
abbrev pub noted : Tally → Call → Answer → Tally
noted y c (Heated made stop) = record { count = y.count + made; load = y.load }
noted y c (Done (Ok x)) = accepted y c
noted y c (Done (Err refusal)) = y
noted y c (Steps n) = y
noted y c (Temperature t) = y
noted y c (Highest t) = y
noted y c (Critical d) = y
noted y c (Failing k) = y

abbrev pub counted : Parts → Tally → Call → Tally
counted p y c = noted y c (answer p y c)

-- the tally after the calls of a list, from a tally on
unfoldable pub tallied : Parts → Tally → List Call → Tally
tallied p y [] = y
tallied p y (c ∷ cs) = tallied p (counted p y c) cs

-- its answers, one for each call
unfoldable pub answered : Parts → Tally → List Call → List Answer
answered p y [] = []
answered p y (c ∷ cs) = answer p y c ∷ answered p (counted p y c) cs

-- count and load are 0 at first
abbrev pub start : Tally
start = record { count = 0; load = 0 }

abbrev pub tally : Parts → List Call → Tally
tally p calls = tallied p start calls

abbrev pub answers_to : Parts → List Call → List Answer
answers_to p calls = answered p start calls
