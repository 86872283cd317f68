use Rattle.std.proofs.Common.{◌≡◌, ◌≤◌, ◌∙◌, ◌*ℤ◌, w64, to_z, of_z, pos, rules, arith}
use Rattle.std.proofs.lemmas.Nat.{mul-le}
use Rattle.std.proofs.lemmas.Int.{ints}
use Rattle.fires.specs.FluxProducts.{product_within, widened_product}
use Rattle.fires.specs.RoundedWithin.{rounded_within}
use Rattle.trial.proofs.sheet.heating.rise.Goals as goal

module _ (c : goal.After-rounded_up) where
  few : c.exposure.result ≤ 2500000
  few = omega (arith, mul-le _ _ 500 5 c.args.member.now.section_most c.args.member.now.seconds_most, c.exposure.ensures)

  -- the product is what is rounded up, and the result is what comes of it
  product : to_z w64 (of_z w64 (to_z w64 (of_z w64 c.from.result) *ℤ to_z w64 c.exposure.result)) ≡ c.args.flux *ℤ pos c.exposure.result
  product = rw c.from.ensures (widened_product c.args.flux c.exposure.result c.requires.flux (omega (arith, few)))

  kept : to_z w64 (of_z w64 c.rounded_up.result) ≡ c.rounded_up.result
  kept = search rules

pub returns-clause-value : goal.returns-clause-value
returns-clause-value c = let p = product c in kept c ∙ (c.rounded_up.ensures.value ∙ cc)

pub returns-clause-range : goal.returns-clause-range
returns-clause-range c =
    let p = product_within c.args.flux c.exposure.result 2500000 c.requires.flux (few c) in
    rw (kept c, c.rounded_up.ensures.value, product c)
    (rounded_within _ 1000000 c.inertia.result (omega (arith, c.requires.least, c.inertia.ensures)) (omega (arith, ints, c.requires.least, c.inertia.ensures)))
