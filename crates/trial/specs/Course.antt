-- The course of a member in a steel and a fire: the temperatures that the step rule gives one after another, and where they end.
use Rattle.std.specs.Prelude.{ℕ, zero, suc, ◌+◌, min, cond, is_some, Some, None, Option, nat_le}
use Rattle.std.specs.Option.{unwrap_or}
use Rattle.trial.specs.Parts.{Parts}
use Rattle.trial.specs.Heating.{stepped, stop_of}
use Rattle.trial.specs.Questions.{first}
use Rattle.trial.specs.Refusal.{stop_number}
use Rattle.trial.specs.declared.stop.Stop.{Stop}

-- the course that goes on from step n at t: its entry j steps on
unfoldable pub ahead : Parts → ℕ → ℕ → ℕ → ℕ
ahead p n t zero = t
ahead p n t (suc j) = stepped p (n + j) (ahead p n t j)

-- what stops it there, if anything
abbrev pub stop_ahead : Parts → ℕ → ℕ → ℕ → Option Stop
stop_ahead p n t j = stop_of p (n + j) (ahead p n t j)

-- how many steps it makes: it ends where the first one is stopped. With 4,096 standing one is, so the search through 0 to 4,096 always finds it
abbrev pub reach : Parts → ℕ → ℕ → ℕ
reach p n t = unwrap_or (first (λ j. is_some (stop_ahead p n t j)) 4097) 4096

-- the number of what stops a step; 0 if nothing does
abbrev pub stop_code : Option Stop → ℕ
stop_code None = 0
stop_code (Some s) = stop_number s

-- of steps asked for, how many are made; and what stopped the next, nothing if all are made
abbrev pub made_ahead : Parts → ℕ → ℕ → ℕ → ℕ
made_ahead p n t asked = min asked (reach p n t)

abbrev pub stopped_ahead : Parts → ℕ → ℕ → ℕ → Option Stop
stopped_ahead p n t asked = cond (nat_le asked (reach p n t)) None (stop_ahead p n t (reach p n t))

-- the course itself starts at step 0 at 20,000 millidegrees
abbrev pub entry : Parts → ℕ → ℕ
entry p k = ahead p 0 20000 k

abbrev pub end : Parts → ℕ
end p = reach p 0 20000

-- what stops it at its end, and the number of that
abbrev pub end_cause : Parts → Option Stop
end_cause p = stop_ahead p 0 20000 (end p)

abbrev pub end_stop : Parts → ℕ
end_stop p = stop_code (end_cause p)
