use Rattle.std.proofs.Common.{◌≡◌, ℕ, zero, suc, ◌+◌, ◌-◌, max, arith}
use Rattle.trial.specs.Columns.{temperature_of}
use Rattle.trial.specs.Questions.{hottest}
use Rattle.trial.proofs.column.Column.hottest.Goals as goal

pub loop-step-init : goal.loop-step-init
unfolding hottest
loop-step-init c = cc

-- one step more, step 0 a second time
more : (t : ℕ → ℕ) (k : ℕ) → max (hottest t (k - 1)) (t k) ≡ hottest t (k + 1 - 1)
unfolding hottest
more t zero = omega arith
more t (suc k) = let seen : suc k - 1 ≡ k = omega arith in let all : suc k + 1 - 1 ≡ suc k = omega arith in rw (seen, all)

pub loop-step-preserved : goal.loop-step-preserved
loop-step-preserved c = let step = more (temperature_of c.args.self.now) c.loop-step.step in cc
