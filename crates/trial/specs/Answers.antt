-- What is answered, from the parts, a load, and the temperatures of the steps 0 to n. No sheet is named here.
use Rattle.std.specs.Prelude.{ℕ, Bool, cond, Ok, Err, nat_le}
use Rattle.member_check.specs.Check.{critical_of, passes_at}
use Rattle.trial.specs.Parts.{Parts}
use Rattle.trial.specs.Questions.{temperature_at, hottest, first_failing}
use Rattle.trial.specs.declared.call.Answer.{Answer}
use Rattle.trial.specs.declared.call.Answer.TheVariants.{Done, Standing as Steps, Temperature, Hottest as Highest, CriticalTemperature as Critical, FirstFailing as Failing}
use Rattle.trial.specs.declared.call.Question.{Question}
use Rattle.trial.specs.declared.call.Question.TheVariants.{Standing, TemperatureAt, Hottest, CriticalTemperature, FirstFailing}
use Rattle.trial.specs.declared.refusal.Refusal.{Refusal}

-- the critical temperature under a load
abbrev pub critical_under : Parts → ℕ → ℕ
critical_under p load = critical_of p.figures p.strength p.stiffness load

-- a load is accepted if the member passes at 20
abbrev pub carried_cold : Parts → ℕ → Bool
carried_cold p load = passes_at p.figures p.strength p.stiffness load 20

-- as many steps can be taken back as stand
abbrev pub can_go_back : ℕ → ℕ → Bool
can_go_back standing steps = nat_le steps standing

-- the answer to a question
abbrev pub told : Parts → ℕ → ℕ → (ℕ → ℕ) → Question → Answer
told p load n t Standing = Steps n
told p load n t (TemperatureAt k) = Temperature (temperature_at t n k)
told p load n t Hottest = Highest (hottest t n)
told p load n t CriticalTemperature = Critical (critical_under p load)
told p load n t FirstFailing = Failing (first_failing p load t n)

-- accepted, or refused for a cause
abbrev pub judged : Bool → Refusal → Answer
judged good r = Done (cond good (Ok tt) (Err r))
