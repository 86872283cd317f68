use Rattle.std.proofs.Common.{◌≡◌, drop}
use Rattle.steels.specs.Mill.{capacity_from}
use Rattle.steels.proofs.mill.sheet.last_capacity.Given as goal

-- what is left decides, from the capacity in hand on
abbrev pub invariant-loop-point : goal.invariant-loop-point
invariant-loop-point l = capacity_from l.capacity (drop l.point-index l.rest) l.degree ≡ capacity_from l.initial.capacity l.rest l.degree
