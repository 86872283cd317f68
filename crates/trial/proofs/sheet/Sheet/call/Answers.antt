use Rattle.std.proofs.Common.{rules}
use Rattle.trial.proofs.Lawful.{lawful}
use Rattle.trial.proofs.sheet.Sheet.call.Goals as goal

pub returns-in-Heat-clause-law : goal.returns-in-Heat-clause-law
returns-in-Heat-clause-law g c = lawful g.S.Steel g.F.Fire g.met.S.Steel.factor_law c.args.self.now c.args.call _ _ (search rules)

pub returns-in-Ask-clause-law : goal.returns-in-Ask-clause-law
returns-in-Ask-clause-law g c = lawful g.S.Steel g.F.Fire g.met.S.Steel.factor_law c.args.self.now c.args.call _ _ (search rules)
