-- A mill sheet: points of degree, factors and heat capacity, and what is wrong with a list of them.
use Rattle.std.specs.Prelude.{◌≡◌, ℕ, suc, ◌<◌, ◌≤◌, Bool, true, false, cond, not, ◌&&◌, ◌||◌, List, [], ◌∷◌, ◌++◌, map, length, Some, None, Option, ◌==◌, nat_le, nat_lt}
use Rattle.std.specs.List.{AllByRecursion}
use Rattle.steels.specs.declared.point.Point.{Point}
use Rattle.steels.specs.declared.table.Reduction.{Reduction}
use Rattle.steels.specs.declared.table.Row.{Row}
use Rattle.steels.specs.Refusal.{Refused}
use Rattle.steels.specs.Table.{Linear, clamped, tabled}

-- the row of a table that a point is
abbrev pub row_of : Point → Row
row_of p = record { degree = p.degree; strength = p.strength; stiffness = p.stiffness }

-- a degree rises from that of the point before, or is 20 at the first; the final one is 1,200
abbrev pub rises : Option Point → Point → Bool
rises None p = p.degree == 20
rises (Some before) p = nat_lt before.degree p.degree

abbrev pub degree_fits : Option Point → Point → Bool → Bool
degree_fits before p final = rises before p && (not final || p.degree == 1200)

-- the figures lie in their ranges, and no factor is above that of the point before
abbrev pub falls : Option Point → Point → Bool
falls None p = true
falls (Some before) p = nat_le p.strength before.strength && nat_le p.stiffness before.stiffness

abbrev pub in_range : Point → Bool
in_range p = (nat_le p.strength 10000 && nat_le p.stiffness 10000) && (nat_le 300 p.capacity && nat_le p.capacity 6000)

abbrev pub is_last : List Point → Bool
is_last [] = true
is_last (p ∷ points) = false

-- the first point at fault, counted from i, and the smaller number at that point
abbrev pub point_fault : ℕ → Option Point → List Point → Option Refused
point_fault i before [] = None
point_fault i before (p ∷ points) =
    cond (degree_fits before p (is_last points))
    (cond (in_range p && falls before p) (point_fault (suc i) (Some p) points) (Some (7, i ∷ [])))
    (Some (6, i ∷ []))

-- the length comes first
abbrev pub sheet_fault : List Point → Option Refused
sheet_fault points = cond (nat_le 2 (length points) && nat_le (length points) 64) (point_fault 0 None points) (Some (5, []))

-- the factors: linear between the points, rounded down
abbrev pub sheet_factor : Reduction → List Point → ℕ → ℕ
sheet_factor r points = tabled r (map row_of points)

-- the heat capacity of the last of the points that is not above d, c if none is
abbrev pub capacity_from : ℕ → List Point → ℕ → ℕ
capacity_from c [] d = c
capacity_from c (p ∷ points) d = cond (nat_lt d p.degree) c (capacity_from p.capacity points d)

abbrev pub sheet_capacity : List Point → ℕ → ℕ
sheet_capacity [] d = 0
sheet_capacity (p ∷ points) d = capacity_from p.capacity points (clamped d)

-- f is at each degree the heat capacity of the last point that is not above it
abbrev pub LastNotAbove : List Point → (ℕ → ℕ) → Type 0
LastNotAbove points f =
    (before after : List Point) (p : Point) (d : ℕ) → points ≡ before ++ (p ∷ after) → p.degree ≤ d → d ≤ 1200 → AllByRecursion (λ q. d < q.degree) after → f d ≡ p.capacity

-- a point of full factors and 600 J/(kg K)
abbrev pub full_point : ℕ → Point
full_point d = record { degree = d; strength = 10000; stiffness = 10000; capacity = 600 }

-- the points before any are read
abbrev pub first_points : List Point
first_points = full_point 20 ∷ full_point 1200 ∷ []

-- what the points of a sheet say of its steel
pub record Follows (points : List Point) : Type 0 where
  pub factors : (r : Reduction) → Linear r (map row_of points) (sheet_factor r points)
  pub capacity : LastNotAbove points (sheet_capacity points)
