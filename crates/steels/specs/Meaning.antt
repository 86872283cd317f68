-- What every steel is: the laws of its two factors and of its heat capacity, as functions of the whole degree.
use Rattle.std.specs.Prelude.{◌≡◌, ℕ, ◌≤◌}

-- an answer outside 20 to 1,200 degrees is that of the nearer end
pub record Clamped (f : ℕ → ℕ) : Type 0 where
  pub cold : (d : ℕ) → d ≤ 20 → f d ≡ f 20
  pub hot : (d : ℕ) → 1200 ≤ d → f d ≡ f 1200

-- a reduction factor in ten-thousandths: at most 10,000, and it never rises with the degree
pub record Factor (f : ℕ → ℕ) : Type 0 where
  pub most : (d : ℕ) → f d ≤ 10000
  pub falls : (d e : ℕ) → d ≤ e → f e ≤ f d
  pub ends : Clamped f

-- a heat capacity in J/(kg K): from 300 to 6,000
pub record Capacity (f : ℕ → ℕ) : Type 0 where
  pub least : (d : ℕ) → 300 ≤ f d
  pub most : (d : ℕ) → f d ≤ 6000
  pub ends : Clamped f
