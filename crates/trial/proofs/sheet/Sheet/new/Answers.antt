use Rattle.std.proofs.Common.{rules}
use Rattle.trial.proofs.Lawful.{law_starts}
use Rattle.trial.proofs.sheet.Sheet.new.Goals as goal

pub returns-clause-law : goal.returns-clause-law
returns-clause-law g c = law_starts g.S.Steel g.F.Fire g.met.S.Steel.factor_law c.args.member c.args.steel c.args.fire _ (search rules)
