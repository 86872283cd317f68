use Rattle.std.proofs.Common.{List, ◌++◌, take}
use Rattle.trial.specs.Law.{Law}
use Rattle.trial.specs.Parts.{Parts}
use Rattle.trial.specs.Views.{view_of}
use Rattle.trial.specs.declared.call.Call.{Call}
use Rattle.burn.proofs.play.Given as goal

-- the law holds of the calls made so far, after those of which it held before
abbrev pub invariant-loop-call : goal.invariant-loop-call
invariant-loop-call g l =
    (p : Parts) (calls : List Call) → Law p calls (view_of g.S.Steel g.F.Fire l.initial.sheet)
    → Law p (calls ++ take l.call-index l.script) (view_of g.S.Steel g.F.Fire l.sheet)
