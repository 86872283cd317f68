use Rattle.std.proofs.Common.{◌-◌}
use Rattle.steels.specs.declared.table.Reduction.TheVariants.{Stiffness, Strength}
use Rattle.member_check.specs.Check.{passes_at}
use Rattle.member_check.specs.Members.{figures_of}
use Rattle.member_check.proofs.Search.{Narrowed}
use Rattle.member_check.proofs.standing.critical_temperature.Given as goal

abbrev pub invariant-loop-high : goal.invariant-loop-high
invariant-loop-high g l = Narrowed (passes_at (figures_of l.member) (g.S.Steel.factor l.steel Strength) (g.S.Steel.factor l.steel Stiffness) l.load) 20 1200 l.low l.high

abbrev pub decreases-loop-high : goal.decreases-loop-high
decreases-loop-high g l = l.high - l.low
