-- Higher factors and a smaller load never make a member fail: the three rules, squared and without roots, are monotone.
use Rattle.std.proofs.Common.{◌≡◌, ℕ, ◌+◌, ◌-◌, ◌*◌, ◌<◌, ◌≤◌, true, leb, Some, None, Option, refl, ◌∙◌, ⊎_elim, le_trans, mul-le-mul_right, eq-zero-or-pos, mul-le-mul, mul-pos, div-mul-le_self, le_of_mul-le-mul_right, arith}
use native.Mathlib.Nat.{div-zero, div-eq_of_lt}
use Rattle.std.proofs.lemmas.Nat.{le-div}
use Rattle.std.proofs.lemmas.Bool.{and_parts, and_from, leb-true, le-leb}
use Rattle.rounding.specs.Quotient.{ceil}
use Rattle.member_check.specs.declared.input.Figures.{Figures}
use Rattle.member_check.specs.Check.{utilisation, buckling_use, imperfection_of, rules, carries, PassesBelow, PassesUnloaded}

grown : (n u k : ℕ) → (n + u + k) * (u * u) ≤ (n + u) * ((u + k) * (u + k))
grown n u k = omega arith

-- with a utilisation n' no greater and a factor y' no lower, n · y / (y - n)² does not rise
ratio : (n y n' y' : ℕ) → n ≤ y → n' ≤ n → y ≤ y' → (n' * y') * ((y - n) * (y - n)) ≤ (n * y) * ((y' - n') * (y' - n'))
ratio n y n' y' fits less more =
    let u = y - n in
    let k = y' - n' - u in
    let wide : y' * (u * u) ≤ (n + u + k) * (u * u) = mul-le-mul_right (u * u) (omega arith) in
    let back : (n + u) * ((u + k) * (u + k)) ≤ y * ((y' - n') * (y' - n')) = mul-le-mul (omega arith) (mul-le-mul (omega arith) (omega arith)) in
    omega (arith, mul-le-mul less (le_trans wide (le_trans (grown n u k) back)))

-- two such ratios, multiplied into the third rule
joined : (a n m u v n' m' u' v' : ℕ) → a * (n * m) ≤ 100 * (u * v) → n' * u ≤ n * u' → m' * v ≤ m * v' → 0 < n * m → a * (n' * m') ≤ 100 * (u' * v')
joined a n m u v n' m' u' v' rule first second some =
    le_of_mul-le-mul_right {k = n * m}
    (omega (arith, mul-le-mul_right (n' * m') rule, mul-le-mul first second))
    some

module _ (a n m y z n' m' y' z' : ℕ) (n_less : n' ≤ n) (m_less : m' ≤ m) (y_more : y ≤ y') (z_more : z ≤ z') where
  third : n ≤ y → m ≤ z → a * n * m * y * z ≤ 100 * ((y - n) * (y - n)) * ((z - m) * (z - m))
      → a * n' * m' * y' * z' ≤ 100 * ((y' - n') * (y' - n')) * ((z' - m') * (z' - m'))
  third first second rule =
      ⊎_elim (λ (e : n ≡ 0). let none : n' ≡ 0 = omega arith in rw none (omega arith))
      (λ (n_pos : 0 < n). ⊎_elim (λ (e : m ≡ 0). let none : m' ≡ 0 = omega arith in rw none (omega arith))
      (λ (m_pos : 0 < m). by_ratios (mul-pos (mul-pos n_pos (omega arith)) (mul-pos m_pos (omega arith)))) (eq-zero-or-pos m)) (eq-zero-or-pos n)
    where
      by_ratios : 0 < (n * y) * (m * z) → a * n' * m' * y' * z' ≤ 100 * ((y' - n') * (y' - n')) * ((z' - m') * (z' - m'))
      by_ratios some =
          let u = y - n in let v = z - m in let u' = y' - n' in let v' = z' - m' in
          let j = joined a (n * y) (m * z) (u * u) (v * v) (n' * y') (m' * z') (u' * u') (v' * v') (omega arith)
          (ratio n y n' y' first n_less y_more) (ratio m z m' z' second m_less z_more) some in
          omega (arith, j)

  rules_kept : rules a n m y z ≡ true → rules a n' m' y' z' ≡ true
  rules_kept h =
      let p = and_parts (leb n y) _ h in
      let q = and_parts (leb m z) _ p.1 in
      and_from _ _ (le-leb n' y' (omega (arith, leb-true n y p.0)))
      (and_from _ _ (le-leb m' z' (omega (arith, leb-true m z q.0)))
      (le-leb _ _ (third (leb-true n y p.0) (leb-true m z q.0) (leb-true _ _ q.1))))

ceil_mono : (x y d : ℕ) → x ≤ y → ceil x d ≤ ceil y d
ceil_mono x y d h =
    ⊎_elim (λ e. rw e (omega (arith, div-zero (x + (0 - 1)), div-zero (y + (0 - 1)))))
    (λ pos. le-div _ _ d pos (omega (arith, div-mul-le_self (x + (d - 1)) d))) (eq-zero-or-pos d)

buckling_mono : (load load' : ℕ) (k : Option ℕ) → load' ≤ load → buckling_use load' k ≤ buckling_use load k
buckling_mono load load' None h = omega arith
buckling_mono load load' (Some k) h = ceil_mono (10000 * load') (10000 * load) k (omega arith)

pub carries_kept : (f : Figures) (load load' y y' z z' : ℕ) → load' ≤ load → y ≤ y' → z ≤ z' → carries f load y z ≡ true → carries f load' y' z' ≡ true
carries_kept f load load' y y' z z' less more_y more_z h =
    rules_kept (imperfection_of f.yield_strength) (utilisation load f.cold_strength) (buckling_use load f.buckling_load) y z
    (utilisation load' f.cold_strength) (buckling_use load' f.buckling_load) y' z'
    (ceil_mono (10000 * load') (10000 * load) f.cold_strength (omega arith)) (buckling_mono load load' f.buckling_load less) more_y more_z h

pub passes_below : PassesBelow
passes_below f y z y' z' load load' d d' fy fz better_y better_z less lower h =
    carries_kept f load load' (y d) (y' d') (z d) (z' d') less
    (le_trans (fy.falls d' d lower) (better_y d')) (le_trans (fz.falls d' d lower) (better_z d')) h

no_load : (d : ℕ) → utilisation 0 d ≡ 0
no_load d = ⊎_elim (λ e. rw e (div-zero (10000 * 0 + (0 - 1)))) (λ pos. div-eq_of_lt (omega arith)) (eq-zero-or-pos d)

no_buckling : (k : Option ℕ) → buckling_use 0 k ≡ 0
no_buckling None = refl
no_buckling (Some k) = no_load k

idle : (a y z : ℕ) → rules a 0 0 y z ≡ true
idle a y z =
    and_from _ _ (le-leb 0 y (omega arith))
    (and_from _ _ (le-leb 0 z (omega arith)) (le-leb (a * 0 * 0 * y * z) (100 * ((y - 0) * (y - 0)) * ((z - 0) * (z - 0))) (omega arith)))

pub passes_unloaded : PassesUnloaded
passes_unloaded f y z d =
    let a = imperfection_of f.yield_strength in
    let same : carries f 0 (y d) (z d) ≡ rules a 0 0 (y d) (z d) = cc (no_load f.cold_strength, no_buckling f.buckling_load) in
    same ∙ idle a (y d) (z d)
