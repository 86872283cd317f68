-- A quotient rounded up stays within the bounds of what is divided.
use Rattle.std.specs.Prelude.{ℕ, suc, ◌+◌, ◌-◌, ◌*◌, ◌<◌, ℤ, pos, negsuc}
use Rattle.std.proofs.Common.{add-mul, arith}
use Rattle.rounding.specs.Quotient.{rounded_up}
use Rattle.std.proofs.lemmas.Nat.{div_below}
use Rattle.std.proofs.lemmas.Int.{ints}
use Rattle.fires.specs.Meaning.{Within}

pub rounded_within : (z : ℤ) (m d : ℕ) → 0 < d → Within (m * d) z → Within m (rounded_up z d)
rounded_within (pos n) m d h w =
    let b = div_below (n + (d - 1)) d (m + 1) h (omega (arith, ints, add-mul m 1 d)) in omega (arith, ints)
rounded_within (negsuc n) m d h w =
    let b = div_below (suc n) d (m + 1) h (omega (arith, ints, add-mul m 1 d)) in omega (arith, ints)
