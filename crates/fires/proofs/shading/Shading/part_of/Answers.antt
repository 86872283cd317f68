use Rattle.std.proofs.Common.{◌≡◌, ◌^◌, ℤ, pos, ◌*ℤ◌, ap, ◌∙◌, arith, w32, w64, to_z, of_z}
use Rattle.rounding.specs.Quotient.{rounded_up}
use Rattle.std.proofs.lemmas.Int.{ints, fits_signed_mul, to_z-of_z}
use Rattle.std.proofs.lemmas.Grind.{common_steps}
use Rattle.fires.proofs.shading.Shading.part_of.Goals as goal

pub overflow_cast-result : goal.overflow_cast-result
overflow_cast-result c = grind (arith, common_steps)

module _ (c : goal.After-rounded_up) where
  -- what is rounded is the product
  product : to_z w64 (of_z w64 (to_z w64 (of_z w64 c.from.result) *ℤ to_z w64 (of_z w64 c.from-2.result))) ≡ c.args.flux *ℤ pos c.args.self.thousandths
  product =
      let m = c.args.self.thousandths in
      let flux : to_z w64 (of_z w64 c.from.result) ≡ c.args.flux = omega (arith, ints) in
      let times : to_z w64 (of_z w64 c.from-2.result) ≡ pos m = omega (arith, ints) in
      let fits = fits_signed_mul w64 c.args.flux (pos m) (2 ^ 31) 1000 (omega (arith, ints)) (omega (arith, ints)) (omega arith) in
      rw (flux, times) (to_z-of_z w64 (c.args.flux *ℤ pos m) fits)

pub returns : goal.returns
returns c =
    to_z-of_z w32 _ (overflow_cast-result c)
    ∙ (omega (arith, ints) ∙ (c.rounded_up.ensures.value ∙ ap (λ (z : ℤ). rounded_up z 1000) (product c)))
