-- A quotient of whole numbers, rounded up.
use Rattle.std.specs.Prelude.{ℕ, suc, ◌+◌, ◌-◌, ◌/◌, ◌<◌, ℤ, pos, negsuc, ◌*ℤ◌, neg_ℤ, ◌≤ℤ◌}

-- q is n / d rounded up: the least whole number that is not below it
pub record RoundedUp (n : ℤ) (d : ℕ) (q : ℤ) : Type 0 where
  pub not_below : n ≤ℤ (q *ℤ pos d)
  pub least : (p : ℤ) → n ≤ℤ (p *ℤ pos d) → q ≤ℤ p

-- that number, of a natural n: the function `rounded_up` ensures that it is the least one
abbrev pub ceil : ℕ → ℕ → ℕ
ceil n d = (n + (d - 1)) / d

-- that number, of any whole n
abbrev pub rounded_up : ℤ → ℕ → ℤ
rounded_up (pos n) d = pos (ceil n d)
rounded_up (negsuc n) d = neg_ℤ (pos (suc n / d))

-- whatever is divided, by any number above 0
abbrev pub AlwaysLeast : Type 0
AlwaysLeast = (n : ℤ) (d : ℕ) → 0 < d → RoundedUp n d (rounded_up n d)
