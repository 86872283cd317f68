use Rattle.std.proofs.Common.{arith}
use Rattle.steels.specs.declared.table.Reduction.TheVariants.{Stiffness, Strength}
use Rattle.trial.specs.Views.{view_of}
use Rattle.trial.proofs.Failing.{critical_in_parts}
use Rattle.trial.proofs.sheet.Sheet.first_failing.Goals as goal

pub overflow_mul-critical_temperature : goal.overflow_mul-critical_temperature
overflow_mul-critical_temperature g c =
    let sheet = c.args.self.now in
    let v = view_of g.S.Steel g.F.Fire sheet in
    let parted = critical_in_parts v.parts v.load (g.met.S.Steel.factor_law sheet.steel Strength) (g.met.S.Steel.factor_law sheet.steel Stiffness) in
    omega (arith, parted.most, c.critical_temperature.ensures)
