-- The log of a run.
use Rattle.std.specs.Prelude.{List, map, Option}
use Rattle.trial.specs.declared.call.Answer.{Answer}
use Rattle.trial.specs.declared.call.Call.{Call}
use Rattle.trial.specs.declared.log.Logged.{Logged}

-- its calls, in their order
abbrev pub calls_of : List Logged → List Call
calls_of log = map (λ (x : Logged). x.call) log

-- the answers beside them
abbrev pub answers_of : List Logged → List (Option Answer)
answers_of log = map (λ (x : Logged). x.answer) log
