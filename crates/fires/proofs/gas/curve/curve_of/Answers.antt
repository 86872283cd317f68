use Rattle.std.proofs.Common.{sym, ◌∙◌, subst, arith, ◌≡◌}
use Rattle.fires.specs.GasDegrees.{GasDegrees}
use Rattle.fires.proofs.GasFaults.{fault_at, inside}
use Rattle.fires.proofs.gas.curve.curve_of.Goals as goal

pub invariant_of-result-clause-degrees : goal.invariant_of-result-clause-degrees
invariant_of-result-clause-degrees c =
    let taken : c.unwrap.result.items ≡ c.args.given.now = grind (arith, c.try_from.ensures, c.unwrap.ensures) in
    subst GasDegrees (sym taken) (inside c.args.given.now (sym c.first_outside.ensures ∙ c.in-None.is))

pub returns-in-Some-clause-fault : goal.returns-in-Some-clause-fault
returns-in-Some-clause-fault c = grind (arith, c.if-given-gt-MOST_STEPS.false, fault_at c.args.given.now)

pub returns-in-None-clause-fault : goal.returns-in-None-clause-fault
returns-in-None-clause-fault c = grind (arith, c.if-given-gt-MOST_STEPS.false, fault_at c.args.given.now)
