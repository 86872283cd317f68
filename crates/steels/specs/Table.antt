-- A table of reduction factors: rows of rising degrees, and the broken line through them.
use Rattle.std.specs.Prelude.{◌≡◌, ℕ, ◌+◌, ◌-◌, ◌*◌, ◌/◌, ◌<◌, ◌≤◌, min, max, cond, List, [], ◌∷◌, ◌++◌, nat_lt}
use Rattle.steels.specs.declared.table.Reduction.{Reduction}
use Rattle.steels.specs.declared.table.Reduction.TheVariants.{Strength, Stiffness}
use Rattle.steels.specs.declared.table.Row.{Row}

-- the factor of a row
abbrev pub cell : Reduction → Row → ℕ
cell Strength row = row.strength
cell Stiffness row = row.stiffness

-- the line from row p to row q, at degree d, rounded down
abbrev pub between : Reduction → Row → Row → ℕ → ℕ
between r p q d = (cell r p * (q.degree - d) + cell r q * (d - p.degree)) / (q.degree - p.degree)

-- the broken line from row p on, through the rows behind it
abbrev pub line : Reduction → Row → List Row → ℕ → ℕ
line r p [] d = cell r p
line r p (q ∷ rows) d = cond (nat_lt d q.degree) (between r p q d) (line r q rows d)

-- the degree between 20 and 1,200 that is nearest to d
abbrev pub clamped : ℕ → ℕ
clamped d = max 20 (min d 1200)

-- the factor of a whole table: outside its degrees that of the nearer end
abbrev pub tabled : Reduction → List Row → ℕ → ℕ
tabled r [] d = 0
tabled r (p ∷ rows) d = line r p rows (clamped d)

-- what may stand behind row p: degrees that rise strictly up to 1,200, and factors that never rise
abbrev pub Behind : Row → List Row → Type 0
Behind p [] = p.degree ≡ 1200
Behind p (q ∷ rows) = (p.degree < q.degree) × (q.strength ≤ p.strength) × (q.stiffness ≤ p.stiffness) × Behind q rows

-- a table that makes a steel: from 20 degrees on, with factors of at most 10,000
abbrev pub Sound : List Row → Type 0
Sound [] = ⊥
Sound (p ∷ rows) = (p.degree ≡ 20) × (p.strength ≤ 10000) × (p.stiffness ≤ 10000) × Behind p rows

-- f is linear between any two neighbouring rows of the table, rounded down
abbrev pub Linear : Reduction → List Row → (ℕ → ℕ) → Type 0
Linear r rows f =
    (before after : List Row) (p q : Row) (d : ℕ) → rows ≡ before ++ (p ∷ q ∷ after) → p.degree ≤ d → d ≤ q.degree → f d ≡ between r p q d
