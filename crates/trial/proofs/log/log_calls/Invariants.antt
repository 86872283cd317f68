use Rattle.trial.specs.Views.{view_of}
use Rattle.trial.proofs.Running.{Running}
use Rattle.trial.proofs.log.log_calls.Given as goal

abbrev pub invariant-loop-logged : goal.invariant-loop-logged
invariant-loop-logged g l =
    Running (view_of g.S.Steel g.F.Fire l.initial.sheet).parts l.initial.logged-items l.logged-items l.logged-index (view_of g.S.Steel g.F.Fire l.sheet)
