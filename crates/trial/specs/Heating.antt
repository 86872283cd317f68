-- One step of heating (EN 1993-1-2, 4.2.5.1), and what stops it.
use Rattle.std.specs.Prelude.{ℕ, ◌*◌, ◌/◌, max, Bool, true, false, cond, ℤ, pos, negsuc, ◌+ℤ◌, ◌*ℤ◌, Some, None, Option, Ok, Err, nat_le, nat_lt}
use Rattle.rounding.specs.Quotient.{rounded_up}
use Rattle.member_check.specs.declared.input.Figures.{Figures}
use Rattle.fires.specs.Meaning.{Reading}
use Rattle.fires.specs.declared.meaning.NoFlux.{NoFlux}
use Rattle.fires.specs.declared.meaning.NoFlux.TheVariants.{Missing, Ended}
use Rattle.trial.specs.Parts.{Parts}
use Rattle.trial.specs.declared.stop.Stop.{Stop}
use Rattle.trial.specs.declared.stop.Stop.TheVariants.{SheetFull, FireEnded, NoReading, TooHot}

-- the rise in millidegrees under the flux q in steel of heat capacity c:
-- section factor × q × seconds × 1,000 / (c × 7,850), rounded up
abbrev pub rise : Figures → ℕ → ℤ → ℤ
rise f c q = rounded_up (q *ℤ pos (f.section_factor * f.seconds * 1000)) (c * 7850)

-- a whole number, raised to `least` where it is below
abbrev pub at_least : ℕ → ℤ → ℕ
at_least least (pos n) = max least n
at_least least (negsuc n) = least

-- the temperature at the end of a step from t, never below 20,000
abbrev pub heated : Figures → ℕ → ℤ → ℕ → ℕ
heated f c q t = at_least 20000 (pos t +ℤ rise f c q)

-- the same by what the fire told: the heat capacity is that of t's degree, rounded down; without a flux nothing changes
abbrev pub heated_by : Parts → ℕ → Reading → ℕ
heated_by p t (Ok q) = heated p.figures (p.capacity (t / 1000)) q t
heated_by p t (Err e) = t

-- the step rule: what becomes of t in the step whose number is k, the count of steps then standing
abbrev pub stepped : Parts → ℕ → ℕ → ℕ
stepped p k t = heated_by p t (p.tells k t)

abbrev pub is_ended : Reading → Bool
is_ended (Err Ended) = true
is_ended (Err Missing) = false
is_ended (Ok q) = false

abbrev pub is_missing : Reading → Bool
is_missing (Err Missing) = true
is_missing (Err Ended) = false
is_missing (Ok q) = false

-- the stop where a fire tells no flux
abbrev pub unheated : NoFlux → Stop
unheated Missing = NoReading
unheated Ended = FireEnded

-- the cause of each stop, for a step from t with k steps standing
abbrev pub cause : Parts → ℕ → ℕ → Stop → Bool
cause p k t SheetFull = nat_le 4096 k
cause p k t FireEnded = is_ended (p.tells k t)
cause p k t NoReading = is_missing (p.tells k t)
cause p k t TooHot = nat_lt 1200000 (stepped p k t)

-- of the causes that hold, the one of the smallest number, if any
abbrev pub smallest_of : (Stop → Bool) → Option Stop
smallest_of holds =
    cond (holds SheetFull) (Some SheetFull)
    (cond (holds FireEnded) (Some FireEnded)
    (cond (holds NoReading) (Some NoReading)
    (cond (holds TooHot) (Some TooHot) None)))

-- what stops such a step, if anything
abbrev pub stop_of : Parts → ℕ → ℕ → Option Stop
stop_of p k t = smallest_of (cause p k t)
