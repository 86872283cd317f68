use Rattle.std.proofs.Common.{◌+◌, ltb, sym, ap, ◌∙◌, arith}
use Rattle.trial.specs.Questions.{fails, first}
use Rattle.steels.specs.declared.table.Reduction.TheVariants.{Stiffness, Strength}
use Rattle.trial.specs.Views.{view_of}
use Rattle.trial.proofs.First.{first_same}
use Rattle.trial.proofs.Failing.{fails_above}
use Rattle.trial.proofs.sheet.Sheet.first_above.Goals as goal

pub returns : goal.returns
returns g c =
    let sheet = c.args.self.now in
    let v = view_of g.S.Steel g.F.Fire sheet in
    let above = fails_above v.parts v.load (g.met.S.Steel.factor_law sheet.steel Strength) (g.met.S.Steel.factor_law sheet.steel Stiffness) in
    c.first_above.ensures
    ∙ first_same _ _ (v.standing + 1) (λ k l. ap (λ m. ltb m (v.temperature k)) c.requires ∙ sym (above (v.temperature k) (sheet.column.least k (omega arith)) (sheet.column.most k (omega arith))))
    ∙ ap (first (λ k. fails v.parts v.load (v.temperature k))) (omega arith)
