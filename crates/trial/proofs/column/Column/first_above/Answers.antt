use Rattle.std.proofs.Common.{sym, arith}
use Rattle.std.proofs.lemmas.Bool.{lt-ltb}
use Rattle.trial.proofs.First.{first_at, first_none}
use Rattle.trial.proofs.column.Column.first_above.Goals as goal

pub returns-then-limit-deref : goal.returns-then-limit-deref
returns-then-limit-deref c = sym (first_at _ _ c.loop-step.step (omega arith) c.loop-step.invariant (rw c.deref.ensures.0 at (lt-ltb _ _ c.if-limit-deref.true)))

pub returns : goal.returns
returns c = sym (first_none _ _ (λ k l. c.loop-step.invariant k (omega arith)))
