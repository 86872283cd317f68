use Rattle.std.proofs.Common.{◌≡◌, ◌≤◌, map, drop}
use Rattle.steels.specs.Table.{line}
use Rattle.steels.proofs.table.along.Given as goal

-- the line from the row in hand through what is left is the line that was asked for
abbrev pub invariant-loop-next : goal.invariant-loop-next
invariant-loop-next g l =
    (l.from.degree ≤ l.degree)
    × (line l.reduction l.from (map g.P.Tabled.row (drop l.next-index l.rest)) l.degree ≡ line l.reduction l.initial.from (map g.P.Tabled.row l.rest) l.degree)
