-- The view of a mill sheet: its points.
use Rattle.std.specs.Prelude.{List}
use Rattle.steels.specs.declared.point.Point.{Point}
use Rattle.steels.specs.declared.mill.MillSheet.{MillSheet}

abbrev pub points_of : MillSheet → List Point
points_of sheet = sheet.points.items
