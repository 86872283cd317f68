use Rattle.trial.specs.Views.{Same, view_of}
use Rattle.burn.proofs.print_course.Given as goal

abbrev pub invariant-loop-step : goal.invariant-loop-step
invariant-loop-step g l = Same (view_of g.S.Steel g.F.Fire l.initial.sheet) (view_of g.S.Steel g.F.Fire l.sheet)
