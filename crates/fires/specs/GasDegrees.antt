-- The whole degrees that a gas may have.
use Rattle.std.specs.Prelude.{ℕ, ◌<◌, ◌≤◌, Bool, ◌&&◌, List, length, nat_le, slice_index}

-- a whole degree from 20 to 1,200
abbrev pub GasDegree : ℕ → Type 0
GasDegree g = (20 ≤ g) × (g ≤ 1200)

-- whether a degree is such a one
abbrev pub is_gas_degree : ℕ → Bool
is_gas_degree g = nat_le 20 g && nat_le g 1200

-- every temperature of a list is such a degree
abbrev pub GasDegrees : List ℕ → Type 0
GasDegrees gs = (k : ℕ) → k < length gs → GasDegree (slice_index gs k)
