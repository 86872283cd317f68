-- What is refused here: the number of each refusal, and the values that go with it.
use Rattle.std.specs.Prelude.{ℕ, List, [], ◌∷◌}
use Rattle.steels.specs.declared.refusal.Refusal.{Refusal}
use Rattle.steels.specs.declared.refusal.Refusal.TheVariants.{CapDegree, PointCount, PointDegree, PointFigure}

-- a number and its values; a point is counted from 0
abbrev pub Refused : Type 0
Refused = ℕ × List ℕ

abbrev pub refused : Refusal → Refused
refused PointCount = (5, [])
refused (PointDegree point) = (6, point ∷ [])
refused (PointFigure point) = (7, point ∷ [])
refused CapDegree = (10, [])
