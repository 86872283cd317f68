-- What every fire is: the laws of its answers.
use Rattle.std.specs.Prelude.{◌≡◌, ℕ, ◌≤◌, ℤ, pos, neg_ℤ, ◌≤ℤ◌, Ok, Err, Result}
use Rattle.fires.specs.declared.meaning.NoFlux.{NoFlux}
use Rattle.fires.specs.declared.meaning.NoFlux.TheVariants.{Missing, Ended}

-- what a fire says of a step: a net heat flux in W/m², that there is no reading, or that it has ended
abbrev pub Reading : Type 0
Reading = Result ℤ NoFlux

-- z lies from −m to m
abbrev pub Within : ℕ → ℤ → Type 0
Within m z = (neg_ℤ (pos m) ≤ℤ z) × (z ≤ℤ pos m)

-- a net heat flux lies from −400,000 to 400,000 W/m²
abbrev pub InRange : Reading → Type 0
InRange (Ok q) = Within 400000 q
InRange (Err Missing) = Unit {0}
InRange (Err Ended) = Unit {0}

-- a fire of n steps that says `says step temperature`: fluxes are in range, a temperature outside 20,000 to 1,200,000 millidegrees is
-- answered as the nearer end, and it has ended exactly at and past n
pub record Answers (n : ℕ) (says : ℕ → ℕ → Reading) : Type 0 where
  pub range : (k t : ℕ) → InRange (says k t)
  pub cold : (k t : ℕ) → t ≤ 20000 → says k t ≡ says k 20000
  pub hot : (k t : ℕ) → 1200000 ≤ t → says k t ≡ says k 1200000
  pub ended : (k t : ℕ) → n ≤ k → says k t ≡ Err Ended
  pub ends : (k t : ℕ) → says k t ≡ Err Ended → n ≤ k
