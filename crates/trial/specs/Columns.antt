-- The steps that a column holds.
use Rattle.std.specs.Prelude.{ℕ, slice_index}
use Rattle.trial.specs.declared.column.Column.{Column}

-- how many steps stand, step 0 not counted
abbrev pub steps_of : Column → ℕ
steps_of c = c.standing

-- the temperature of a step, in millidegrees
abbrev pub temperature_of : Column → ℕ → ℕ
temperature_of c k = slice_index c.temperatures.items k
