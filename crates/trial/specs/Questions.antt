-- What is asked of steps by their temperatures.
use Rattle.std.specs.Prelude.{ℕ, zero, suc, max, Bool, cond, not, Some, None, Option, nat_le}
use Rattle.rounding.specs.Quotient.{ceil}
use Rattle.member_check.specs.Check.{passes_at}
use Rattle.trial.specs.Parts.{Parts}

-- the temperature at a step, if it is one of the steps 0 to n
abbrev pub temperature_at : (ℕ → ℕ) → ℕ → ℕ → Option ℕ
temperature_at t n k = cond (nat_le k n) (Some (t k)) None

-- the highest temperature of the steps 0 to n
unfoldable pub hottest : (ℕ → ℕ) → ℕ → ℕ
hottest t zero = t zero
hottest t (suc n) = max (hottest t n) (t (suc n))

-- a number found, or else b if the test holds there
abbrev pub or_here : Option ℕ → Bool → ℕ → Option ℕ
or_here (Some k) here b = Some k
or_here None here b = cond here (Some b) None

-- the first of the numbers below a bound at which a test holds, if any
unfoldable pub first : (ℕ → Bool) → ℕ → Option ℕ
first p zero = None
first p (suc b) = or_here (first p b) (p b) b

-- whether a step of temperature t fails under a load: the member does not pass at t rounded up to a degree
abbrev pub fails : Parts → ℕ → ℕ → Bool
fails p load t = not (passes_at p.figures p.strength p.stiffness load (ceil t 1000))

-- the first failing one of the steps 0 to n, if any
abbrev pub first_failing : Parts → ℕ → (ℕ → ℕ) → ℕ → Option ℕ
first_failing p load t n = first (λ k. fails p load (t k)) (suc n)
