use Rattle.std.proofs.Common.{rules}
use Rattle.trial.specs.declared.call.Call.TheVariants.{Load}
use Rattle.trial.proofs.Lawful.{lawful}
use Rattle.trial.proofs.sheet.Sheet.load.Goals as goal

pub returns-then-not-passes-clause-law : goal.returns-then-not-passes-clause-law
returns-then-not-passes-clause-law g c = lawful g.S.Steel g.F.Fire g.met.S.Steel.factor_law c.args.self.now (Load c.args.load) _ _ (search rules)

pub returns-clause-law : goal.returns-clause-law
returns-clause-law g c = lawful g.S.Steel g.F.Fire g.met.S.Steel.factor_law c.args.self.now (Load c.args.load) _ _ (search rules)
