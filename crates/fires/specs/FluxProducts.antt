-- A flux times a number, as the code reckons it in 64 bits.
use Rattle.std.specs.Prelude.{◌≡◌, ℕ, suc, ◌*◌, ◌^◌, ◌<◌, ◌≤◌, ℤ, pos, negsuc, ◌*ℤ◌, FitsSigned}
use Rattle.std.proofs.Common.{◌∙◌, arith, of_z, to_z}
use Rattle.std.proofs.lemmas.Nat.{mul-le}
use Rattle.std.proofs.lemmas.Int.{ints, to_z-of_z, to_z_pos}
use Rattle.std.specs.Int.{w32, w64}
use Rattle.fires.specs.Meaning.{Within}

pub product_within : (q : ℤ) (m most : ℕ) → Within 400000 q → m ≤ most → Within (400000 * most) (q *ℤ pos m)
product_within (pos n) m most w h = let b = mul-le n m 400000 most (omega (arith, ints)) h in omega (arith, ints)
product_within (negsuc n) m most w h = let b = mul-le (suc n) m 400000 most (omega (arith, ints)) h in omega (arith, ints)

module _ (q : ℤ) (m : ℕ) (told : Within 400000 q) (few : m ≤ 10000000) where
  -- the product as the code has it, of the widened flux
  widened : to_z w64 (of_z w64 (to_z w32 (of_z w32 q))) *ℤ to_z w64 m ≡ q *ℤ pos m
  widened =
      let narrow : FitsSigned w32 q = omega (arith, ints) in
      let wide : FitsSigned w64 q = omega (arith, ints) in
      let small : m < 2 ^ 63 = omega arith in
      simp (to_z-of_z, to_z_pos)

  pub widened_fits : FitsSigned w64 (to_z w64 (of_z w64 (to_z w32 (of_z w32 q))) *ℤ to_z w64 m)
  widened_fits = rw widened (omega (arith, ints, product_within q m 10000000 told few))

  -- what is rounded is the product
  pub widened_product : to_z w64 (of_z w64 (to_z w64 (of_z w64 (to_z w32 (of_z w32 q))) *ℤ to_z w64 m)) ≡ q *ℤ pos m
  widened_product = to_z-of_z w64 _ widened_fits ∙ widened
