-- The check of a member in whole numbers, and the degree up to which it passes (EN 1993-1-2, 4.2.3.1 to 4.2.3.3).
use Rattle.std.specs.Prelude.{◌≡◌, ℕ, zero, suc, ◌+◌, ◌-◌, ◌*◌, ◌<◌, ◌≤◌, Bool, true, false, cond, ◌&&◌, Some, None, Option, nat_le}
use Rattle.rounding.specs.Quotient.{ceil}
use Rattle.steels.specs.Meaning.{Factor}
use Rattle.member_check.specs.declared.input.Figures.{Figures}

-- a load over a resistance in ten-thousandths, rounded up
abbrev pub utilisation : ℕ → ℕ → ℕ
utilisation load resistance = ceil (10000 * load) resistance

-- the same over an ideal buckling load; 0 if the member cannot buckle
abbrev pub buckling_use : ℕ → Option ℕ → ℕ
buckling_use load None = 0
buckling_use load (Some k) = utilisation load k

-- the imperfection factor 0.65 √(235 / f), squared and in hundredths, rounded up
abbrev pub imperfection_of : ℕ → ℕ
imperfection_of f = ceil 39715 (4 * f)

-- the three rules: imperfection a, utilisations n and m, strength factor y, stiffness factor z
abbrev pub rules : ℕ → ℕ → ℕ → ℕ → ℕ → Bool
rules a n m y z = nat_le n y && (nat_le m z && nat_le (a * n * m * y * z) (100 * ((y - n) * (y - n)) * ((z - m) * (z - m))))

-- a member of these figures carries a load at a strength factor and a stiffness factor
abbrev pub carries : Figures → ℕ → ℕ → ℕ → Bool
carries f load y z =
    rules (imperfection_of f.yield_strength) (utilisation load f.cold_strength) (buckling_use load f.buckling_load) y z

-- the same for a steel, by its two factors, at a degree
abbrev pub passes_at : Figures → (ℕ → ℕ) → (ℕ → ℕ) → ℕ → ℕ → Bool
passes_at f y z load d = carries f load (y d) (z d)

-- the greatest of the numbers from low on, `count` in all, at which a test passes; low - 1 if there is none
unfoldable pub greatest : (ℕ → Bool) → ℕ → ℕ → ℕ
greatest p low zero = low - 1
greatest p low (suc k) = cond (p (low + k)) (low + k) (greatest p low k)

-- the critical temperature: the greatest whole degree from 20 to 1,200 at which the member passes, 19 if there is none
abbrev pub critical_of : Figures → (ℕ → ℕ) → (ℕ → ℕ) → ℕ → ℕ
critical_of f y z load = greatest (passes_at f y z load) 20 1181

-- from low to top a test passes at every number up to c, and at none above; c is low - 1 if it passes at none
pub record Last (p : ℕ → Bool) (low top c : ℕ) : Type 0 where
  pub least : low ≤ c + 1
  pub most : c ≤ top
  pub below : (d : ℕ) → low ≤ d → d ≤ c → p d ≡ true
  pub above : (d : ℕ) → c < d → d ≤ top → p d ≡ false

-- c parts the degrees from 20 to 1,200: the member passes at every degree up to c, and at none above
abbrev pub Critical : Figures → (ℕ → ℕ) → (ℕ → ℕ) → ℕ → ℕ → Type 0
Critical f y z load c = Last (passes_at f y z load) 20 1200 c

-- a factor that is nowhere lower
abbrev pub NowhereLower : (ℕ → ℕ) → (ℕ → ℕ) → Type 0
NowhereLower better f = (d : ℕ) → f d ≤ better d

-- what passes at a degree passes at every lower one, with factors nowhere lower and a load no greater
abbrev pub PassesBelow : Type 0
PassesBelow =
    (f : Figures) (y z y' z' : ℕ → ℕ) (load load' d d' : ℕ) → Factor y → Factor z → NowhereLower y' y → NowhereLower z' z
    → load' ≤ load → d' ≤ d → passes_at f y z load d ≡ true → passes_at f y' z' load' d' ≡ true

-- without load a member passes at every degree, whatever is left of the steel
abbrev pub PassesUnloaded : Type 0
PassesUnloaded = (f : Figures) (y z : ℕ → ℕ) (d : ℕ) → passes_at f y z 0 d ≡ true

-- with factors nowhere lower and a load no greater the critical temperature is no lower
abbrev pub NoLower : Type 0
NoLower =
    (f : Figures) (y z y' z' : ℕ → ℕ) (load load' : ℕ) → NowhereLower y' y → NowhereLower z' z
    → load' ≤ load → critical_of f y z load ≤ critical_of f y' z' load'
