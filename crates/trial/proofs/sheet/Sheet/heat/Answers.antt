use Rattle.std.proofs.Common.{rules}
use Rattle.trial.specs.declared.call.Call.TheVariants.{Heat}
use Rattle.trial.proofs.Lawful.{lawful}
use Rattle.trial.proofs.sheet.Sheet.heat.Goals as goal

pub returns-clause-law : goal.returns-clause-law
returns-clause-law g c = lawful g.S.Steel g.F.Fire g.met.S.Steel.factor_law c.args.self.now (Heat c.args.asked) _ _ (search rules)
