use Rattle.std.proofs.Common.{sym, arith}
use Rattle.steels.specs.declared.table.Reduction.TheVariants.{Stiffness, Strength}
use Rattle.member_check.specs.Members.{figures_of}
use Rattle.member_check.proofs.Search.{critical_parts, lowered, narrowed, no_lower, passes_fades, raised}
use Rattle.member_check.proofs.standing.critical_temperature.Goals as goal

pub loop-high-preserved-then-passes_at : goal.loop-high-preserved-then-passes_at
loop-high-preserved-then-passes_at g c =
    let law = g.met.S.Steel.factor_law c.args.steel.now in
    raised _ (passes_fades (figures_of c.args.member.now) _ _ c.args.load (law Strength) (law Stiffness)) 20 1200 _ _ c.loop-high.invariant c.loop-high-test.true (cc)

pub loop-high-preserved : goal.loop-high-preserved
loop-high-preserved g c =
    let law = g.met.S.Steel.factor_law c.args.steel.now in
    lowered _ (passes_fades (figures_of c.args.member.now) _ _ c.args.load (law Strength) (law Stiffness)) 20 1200 _ _ c.loop-high.invariant c.loop-high-test.true (cc)

pub returns-clause-value : goal.returns-clause-value
returns-clause-value g c =
    sym (critical_parts (figures_of c.args.member.now) _ _ c.args.load _ (narrowed _ 20 1200 _ _ c.loop-high.invariant (omega arith)))

pub returns-clause-grows : goal.returns-clause-grows
returns-clause-grows g c = no_lower
