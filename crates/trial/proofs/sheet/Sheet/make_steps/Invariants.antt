use Rattle.trial.specs.Views.{view_of}
use Rattle.trial.proofs.Heats.{Heating}
use Rattle.trial.proofs.sheet.Sheet.make_steps.Given as goal

abbrev pub invariant-loop-made : goal.invariant-loop-made
invariant-loop-made g l = Heating (view_of g.S.Steel g.F.Fire l.initial.self) l.made (view_of g.S.Steel g.F.Fire l.self)
