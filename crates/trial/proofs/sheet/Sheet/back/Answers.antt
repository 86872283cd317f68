use Rattle.std.proofs.Common.{rules}
use Rattle.trial.specs.declared.call.Call.TheVariants.{Back}
use Rattle.trial.proofs.Lawful.{lawful}
use Rattle.trial.proofs.sheet.Sheet.back.Goals as goal

pub returns-then-steps-standing-clause-law : goal.returns-then-steps-standing-clause-law
returns-then-steps-standing-clause-law g c = lawful g.S.Steel g.F.Fire g.met.S.Steel.factor_law c.args.self.now (Back c.args.steps) _ _ (search rules)

pub returns-clause-law : goal.returns-clause-law
returns-clause-law g c = lawful g.S.Steel g.F.Fire g.met.S.Steel.factor_law c.args.self.now (Back c.args.steps) _ _ (search rules)
