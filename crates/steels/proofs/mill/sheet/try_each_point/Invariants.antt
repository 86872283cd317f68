use Rattle.std.proofs.Common.{◌≡◌, drop, None}
use Rattle.steels.specs.Mill.{point_fault}
use Rattle.steels.proofs.mill.sheet.try_each_point.Given as goal

-- what is left, behind the point before it, decides
abbrev pub invariant-loop-i : goal.invariant-loop-i
invariant-loop-i l = point_fault l.i l.before (drop l.i l.points) ≡ point_fault 0 None l.points
