-- Carbon steel by EN 1993-1-2: Table 3.1, and the heat capacity of 3.4.1.2.
use Rattle.std.specs.Prelude.{ℕ, ◌+◌, ◌-◌, ◌*◌, ◌/◌, cond, List, [], ◌∷◌, nat_lt}
use Rattle.steels.specs.declared.table.Row.{Row}
use Rattle.steels.specs.declared.table.Reduction.{Reduction}
use Rattle.steels.specs.Table.{clamped, tabled}

abbrev row : ℕ → ℕ → ℕ → Row
row d y z = record { degree = d; strength = y; stiffness = z }

-- the factors in ten-thousandths
abbrev pub carbon_rows : List Row
carbon_rows =
    row 20 10000 10000 ∷ row 100 10000 10000 ∷ row 200 10000 9000 ∷ row 300 10000 8000 ∷ row 400 10000 7000 ∷
    row 500 7800 6000 ∷ row 600 4700 3100 ∷ row 700 2300 1300 ∷ row 800 1100 900 ∷ row 900 600 675 ∷
    row 1000 400 450 ∷ row 1100 200 225 ∷ row 1200 0 0 ∷ []

-- both factors between the rows: linear, rounded down
abbrev pub carbon_factor : Reduction → ℕ → ℕ
carbon_factor r = tabled r carbon_rows

-- 425 + 0.773 d - 0.00169 d² + 0.00000222 d³, in parts of 10^8, rounded down
abbrev pub cubic : ℕ → ℕ
cubic d = (42500000000 + 77300000 * d + 222 * (d * d * d) - 169000 * (d * d)) / 100000000

-- the four formulas, each rounded down, at a degree from 20 to 1,200
abbrev pub capacity_formula : ℕ → ℕ
capacity_formula d = cond (nat_lt d 600) (cubic d) (cond (nat_lt d 735) (666 + 13002 / (738 - d)) (cond (nat_lt d 900) (545 + 17820 / (d - 731)) 650))

abbrev pub carbon_capacity : ℕ → ℕ
carbon_capacity d = capacity_formula (clamped d)
