use Rattle.std.proofs.Common.{append_assoc, append-nil}
use Rattle.std.proofs.lemmas.List.{take_all, take_more}
use Rattle.std.proofs.lemmas.Result.{IfOk-from_err}
use Rattle.trial.specs.declared.call.Call.TheVariants.{Heat}
use Rattle.burn.proofs.play.Goals as goal

pub loop-call-init : goal.loop-call-init
loop-call-init g c = λ p calls h. rw append-nil h

pub loop-call-preserved : goal.loop-call-preserved
loop-call-preserved g c = λ p calls h.
    rw (take_more c.args.script.now c.loop-call.call-index (Heat 0) c.loop-call-test.true, ← append_assoc)
    (c.call.ensures.law p _ (c.loop-call.invariant p calls h).follows).1

-- an error promises nothing
pub returns-in_err-println : goal.returns-in_err-println
returns-in_err-println g c = IfOk-from_err _ _ c.from_residual.ensures.0

pub returns : goal.returns
returns g c = λ p calls h. rw (← take_all c.loop-call.call-index c.args.script.now c.loop-call-test.false) (c.loop-call.invariant p calls h)
