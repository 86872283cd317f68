-- A step fails exactly when it is above the critical temperature.
use Rattle.std.proofs.Common.{◌≡◌, ℕ, ◌*◌, ◌<◌, ◌≤◌, ltb, sym, ◌∙◌, ⊎_elim, arith}
use Rattle.std.proofs.lemmas.Bool.{cases_lt, not_from_true, not_from_false, lt-ltb, le-ltb}
use Rattle.rounding.specs.Quotient.{ceil}
use Rattle.steels.specs.Meaning.{Factor}
use Rattle.member_check.specs.Check.{Critical}
use Rattle.member_check.proofs.Search.{critical_is}
use Rattle.trial.specs.Parts.{Parts}
use Rattle.trial.specs.Questions.{fails}
use Rattle.trial.specs.Answers.{critical_under}

module _ (p : Parts) (load : ℕ) (fy : Factor p.strength) (fz : Factor p.stiffness) where
  pub critical_in_parts : Critical p.figures p.strength p.stiffness load (critical_under p load)
  critical_in_parts = critical_is p.figures p.strength p.stiffness load fy fz

  pub fails_above : (t : ℕ) → 20000 ≤ t → t ≤ 1200000 → fails p load t ≡ ltb (1000 * critical_under p load) t
  fails_above t least most =
      ⊎_elim
      (λ (l : critical_under p load < ceil t 1000). not_from_false _ (critical_in_parts.above (ceil t 1000) l (omega arith)) ∙ sym (lt-ltb (1000 * critical_under p load) t (omega arith)))
      (λ (l : ceil t 1000 ≤ critical_under p load). not_from_true _ (critical_in_parts.below (ceil t 1000) (omega arith) l) ∙ sym (le-ltb (1000 * critical_under p load) t (omega arith)))
      (cases_lt (critical_under p load) (ceil t 1000))
