-- What each call answers and does, in whatever state a sheet is.
use Rattle.std.specs.Prelude.{ℕ, ◌+◌, ◌-◌, ◌/◌, cond, [], Some, None, Option, nat_le}
use Rattle.fires.specs.Meaning.{Reading}
use Rattle.trial.specs.Parts.{Parts}
use Rattle.trial.specs.Refusal.{Refused}
use Rattle.trial.specs.Questions.{temperature_at, hottest, first_failing}
use Rattle.trial.specs.Heating.{stepped, stop_of}
use Rattle.trial.specs.Course.{ahead, made_ahead, stop_code, stopped_ahead}
use Rattle.trial.specs.Answers.{can_go_back, carried_cold, critical_under, judged, told}
use Rattle.trial.specs.Views.{View, last_of}
use Rattle.trial.specs.declared.call.Answer.{Answer}
use Rattle.trial.specs.declared.call.Answer.TheVariants.{Heated}
use Rattle.trial.specs.declared.call.Call.{Call}
use Rattle.trial.specs.declared.call.Call.TheVariants.{Heat, Back, Load, Ask}
use Rattle.trial.specs.declared.call.Question.{Question}
use Rattle.trial.specs.declared.refusal.Refusal.TheVariants.{NotCarriedCold, BackBeyondStart}
use Rattle.trial.specs.declared.stop.Stop.{Stop}

-- a question to a sheet
abbrev pub told_by : View → Question → Answer
told_by v q = told v.parts v.load v.standing v.temperature q

abbrev pub temperature_in : View → ℕ → Option ℕ
temperature_in v k = temperature_at v.temperature v.standing k

abbrev pub hottest_in : View → ℕ
hottest_in v = hottest v.temperature v.standing

abbrev pub critical_in : View → ℕ
critical_in v = critical_under v.parts v.load

abbrev pub first_failing_in : View → Option ℕ
first_failing_in v = first_failing v.parts v.load v.temperature v.standing

-- the step that would be made next: what the fire tells of it, the heat capacity, what stops it, if anything, and the temperature at its end
abbrev pub next_reading : View → Reading
next_reading v = v.parts.tells v.standing (last_of v)

abbrev pub next_capacity : View → ℕ
next_capacity v = v.parts.capacity (last_of v / 1000)

abbrev pub next_stop : View → Option Stop
next_stop v = stop_of v.parts v.standing (last_of v)

abbrev pub next_end : View → ℕ
next_end v = stepped v.parts v.standing (last_of v)

-- the refusal that a back and a load meet, if any
abbrev pub back_fault : ℕ → ℕ → Option Refused
back_fault standing steps = cond (can_go_back standing steps) None (Some (12, []))

abbrev pub load_fault : Parts → ℕ → Option Refused
load_fault p load = cond (carried_cold p load) None (Some (11, []))

-- how many steps a heat makes, and what stops the next, if anything: the course goes on from the last standing step
abbrev pub heat_made : View → ℕ → ℕ
heat_made v asked = made_ahead v.parts v.standing (last_of v) asked

abbrev pub heat_stop : View → ℕ → Option Stop
heat_stop v asked = stopped_ahead v.parts v.standing (last_of v) asked

-- the same as numbers, the stop's being 0 if all are made
abbrev pub heat_answer : View → ℕ → ℕ × ℕ
heat_answer v asked = (heat_made v asked, stop_code (heat_stop v asked))

abbrev pub after_heat : View → ℕ → View
after_heat v asked = record {
  parts = v.parts;
  load = v.load;
  standing = v.standing + heat_made v asked;
  temperature = λ k. cond (nat_le k v.standing) (v.temperature k) (ahead v.parts v.standing (last_of v) (k - v.standing));
}

abbrev pub after_back : View → ℕ → View
after_back v steps = record { parts = v.parts; load = v.load; standing = v.standing - steps; temperature = v.temperature }

abbrev pub after_load : View → ℕ → View
after_load v load = record { parts = v.parts; load = load; standing = v.standing; temperature = v.temperature }

-- the answer to a call
abbrev pub reply : View → Call → Answer
reply v (Heat asked) = Heated (heat_made v asked) (heat_stop v asked)
reply v (Back steps) = judged (can_go_back v.standing steps) BackBeyondStart
reply v (Load load) = judged (carried_cold v.parts load) NotCarriedCold
reply v (Ask q) = told_by v q

-- the sheet after it; refused calls and questions change nothing
abbrev pub after : View → Call → View
after v (Heat asked) = after_heat v asked
after v (Back steps) = cond (can_go_back v.standing steps) (after_back v steps) v
after v (Load load) = cond (carried_cold v.parts load) (after_load v load) v
after v (Ask q) = v
