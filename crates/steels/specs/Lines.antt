-- Weighted means, and the broken line through the rows of a table.
use Rattle.std.specs.Prelude.{◌≡◌, ℕ, ◌+◌, ◌-◌, ◌*◌, ◌/◌, ◌^◌, ◌<◌, ◌≤◌, cond, List, [], ◌∷◌, map, length, take, drop, nat_lt, slice_index_or, refl}
use Rattle.std.proofs.Common.{sym, ap, ◌∙◌, mul-le-mul_right, arith}
use Rattle.std.proofs.lemmas.List.{at_drop_more, take_rest}
use Rattle.std.proofs.lemmas.Bool.{cond-false, cond-true, le-ltb, lt-ltb}
use Rattle.std.proofs.lemmas.Nat.{div_below}
use Rattle.steels.specs.declared.table.Reduction.{Reduction}
use Rattle.steels.specs.declared.table.Row.{Row}
use Rattle.steels.specs.Table.{between, clamped, line, tabled}

-- a sum of two values with weights a and b lies between the weighted bounds
pub mean_most : (u v a b most : ℕ) → u ≤ most → v ≤ most → u * a + v * b ≤ most * (a + b)
mean_most u v a b most hu hv = omega (arith, mul-le-mul_right a hu, mul-le-mul_right b hv)

pub mean_least : (u v a b low : ℕ) → low ≤ u → low ≤ v → low * (a + b) ≤ u * a + v * b
mean_least u v a b low hu hv = omega (arith, mul-le-mul_right a hu, mul-le-mul_right b hv)

-- the mean of two 32-bit values, as the code reckons it in 64 bits
pub mean_fits : (u v a b : ℕ) → u < 2 ^ 32 → v < 2 ^ 32 → a + b < 2 ^ 32 → u * a + v * b < 2 ^ 64
mean_fits u v a b hu hv h = omega (arith, mean_most u v a b (2 ^ 32 - 1) (omega arith) (omega arith))

pub mean_narrow : (u v a b : ℕ) → u < 2 ^ 32 → v < 2 ^ 32 → 0 < a + b → (u * a + v * b) / (a + b) < 2 ^ 32
mean_narrow u v a b hu hv h =
    div_below (u * a + v * b) (a + b) (2 ^ 32) h (omega (arith, mean_most u v a b (2 ^ 32 - 1) (omega arith) (omega arith)))

-- a walk along a table whose entries x hold a row: from row p at entry i it stops before row q of that entry, or goes on from it
module _ {X : Type 0} (row : X → Row) (c : Reduction) (p : Row) (xs : List X) (i : ℕ) (x : X) (q : Row) (d : ℕ) (within : i < length xs) (read : x ≡ slice_index_or xs i x) (is : q ≡ row x) where
  next : line c p (map row (drop i xs)) d ≡ cond (nat_lt d q.degree) (between c p q d) (line c q (map row (drop (i + 1) xs)) d)
  next =
      at_drop_more (λ ys. line c p (map row ys) d) xs i x within
      ∙ (ap (λ y. line c p (map row (y ∷ drop (i + 1) xs)) d) (sym read) ∙ ap (λ r. line c p (r ∷ map row (drop (i + 1) xs)) d) (sym is))

  pub stops : d < q.degree → between c p q d ≡ line c p (map row (drop i xs)) d
  stops under = sym (next ∙ cond-true _ _ _ (lt-ltb d q.degree under))

  pub goes : q.degree ≤ d → line c q (map row (drop (i + 1) xs)) d ≡ line c p (map row (drop i xs)) d
  goes over = sym (next ∙ cond-false _ _ _ (le-ltb d q.degree over))

-- the start of that walk
module _ {X : Type 0} (row : X → Row) (c : Reduction) (d : ℕ) where
  pub no_table : (xs : List X) → length xs < 1 → 0 ≡ tabled c (map row xs) d
  no_table [] short = refl
  no_table (x ∷ xs) short = omega arith

  pub starts : (xs : List X) (x : X) (q : Row) (e r : ℕ) → 0 < length xs → x ≡ slice_index_or xs 0 x → q ≡ row x → e ≡ clamped d → r ≡ line c q (map row (take (length xs - 1) (drop 1 xs))) e → r ≡ tabled c (map row xs) d
  starts [] x q e r some read is near told = omega arith
  starts (y ∷ ys) x q e r some read is near told =
      let whole = ap (λ zs. line c q (map row zs) e) (take_rest (y ∷ ys) 1) in
      let first = is ∙ ap row read in
      told ∙ (whole ∙ (ap (λ p. line c p (map row ys) e) first ∙ ap (line c (row y) (map row ys)) near))
