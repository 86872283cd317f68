use Rattle.std.proofs.Common.{◌*◌, ◌≤◌, mul-le-mul, arith}
use Rattle.member_check.specs.declared.demand.Demand.{Demand}
use Rattle.member_check.specs.Members.{figures_of}
use Rattle.member_check.proofs.Kept.{imperfection_most, kept_most, kept_buckling_most}
use Rattle.member_check.proofs.demand.Demand.met.Goals as goal

-- what a demand holds, multiplied; the products fit whatever the first two rules say
asked : (d : Demand) → d.imperfection * d.strength * d.buckling ≤ 5001000050
asked d =
    let f = figures_of d.member in
    let a : d.imperfection ≤ 50 = omega (arith, imperfection_most f.yield_strength (omega arith)) in
    let n : d.strength ≤ 10001 = omega (arith, kept_most d.load f.cold_strength) in
    let m : d.buckling ≤ 10001 = omega (arith, kept_buckling_most d.load f.buckling_load) in
    mul-le-mul (mul-le-mul a n) m

pub overflow_mul-result-then-enough : goal.overflow_mul-result-then-enough
overflow_mul-result-then-enough c = omega (arith, asked c.args.self.now)

pub overflow_mul-result-then-enough-2 : goal.overflow_mul-result-then-enough-2
overflow_mul-result-then-enough-2 c = omega (arith, mul-le-mul (asked c.args.self.now) c.args.factors.strength_most)

pub overflow_mul-result-then-enough-3 : goal.overflow_mul-result-then-enough-3
overflow_mul-result-then-enough-3 c = omega (arith, mul-le-mul (mul-le-mul (asked c.args.self.now) c.args.factors.strength_most) c.args.factors.stiffness_most)

pub overflow_mul-result-then-enough-7 : goal.overflow_mul-result-then-enough-7
overflow_mul-result-then-enough-7 c =
    let u : c.saturating_sub-u.result ≤ 10000 = omega arith in
    let v : c.saturating_sub-v.result ≤ 10000 = omega arith in
    omega (arith, mul-le-mul (mul-le-mul u u) (mul-le-mul v v))
