use Rattle.std.proofs.Common.{arith}
use Rattle.trial.proofs.Running.{running_more, running_starts}
use Rattle.trial.proofs.log.log_calls.Goals as goal

pub loop-logged-init : goal.loop-logged-init
loop-logged-init g c = running_starts _ _ _ c.requires

pub loop-logged-preserved : goal.loop-logged-preserved
loop-logged-preserved g c = running_more _ _ _ c.loop-logged.logged-index _ _ _ _ c.loop-logged.invariant (omega arith) c.call.ensures.law
