-- What a check keeps of a load decides the three rules as the load itself does.
use Rattle.std.proofs.Common.{◌≡◌, ℕ, ◌+◌, ◌-◌, ◌*◌, ◌<◌, ◌≤◌, false, leb, ◌⊎◌, Some, None, Option, unwrap_or, sym, refl, ◌∙◌, inl, inr, ⊎_elim, eq-zero-or-pos, arith}
use native.Mathlib.Nat.{div-zero}
use Rattle.std.proofs.lemmas.Nat.{div_below, le-div}
use Rattle.std.proofs.lemmas.Bool.{and_left, and_right, cases_lt, cond-true, cond-false, cond_both, leb-true, le-leb, lt-leb}
use Rattle.member_check.specs.declared.input.Figures.{Figures}
use Rattle.member_check.specs.Check.{utilisation, buckling_use, imperfection_of, rules, carries}
use Rattle.member_check.specs.Kept.{kept, kept_buckling}

-- two utilisations that no factor tells apart
abbrev Alike : ℕ → ℕ → Type 0
Alike n m = (n ≡ m) ⊎ ((10000 < n) × (10000 < m))

kept_alike : (load resistance : ℕ) → 0 < resistance → Alike (kept load resistance) (utilisation load resistance)
kept_alike load resistance pos =
    ⊎_elim (λ (h : resistance < load). inr (omega (arith, cond-false (leb load resistance) (utilisation load resistance) 10001 (lt-leb load resistance h)), le-div 10001 _ resistance pos (omega arith)))
    (λ (h : load ≤ resistance). inl (cond-true (leb load resistance) (utilisation load resistance) 10001 (le-leb load resistance h))) (cases_lt resistance load)

buckling_alike : (load : ℕ) (k : Option ℕ) → 0 < unwrap_or k 1 → Alike (kept_buckling load k) (buckling_use load k)
buckling_alike load None pos = inl refl
buckling_alike load (Some k) pos = kept_alike load k pos

module _ (a n n' m m' y z : ℕ) (y_most : y ≤ 10000) (z_most : z ≤ 10000) where
  first_fails : (a n m : ℕ) → 10000 < n → rules a n m y z ≡ false
  first_fails a n m h = and_left (leb n y) _ (lt-leb n y (omega arith))

  second_fails : (a n m : ℕ) → 10000 < m → rules a n m y z ≡ false
  second_fails a n m h = and_right (leb n y) _ (and_left (leb m z) _ (lt-leb m z (omega arith)))

  rules_alike : Alike n n' → Alike m m' → rules a n m y z ≡ rules a n' m' y z
  rules_alike (inl e) (inl h) = cc
  rules_alike (inl e) (inr h) = second_fails a n m h.0 ∙ sym (second_fails a n' m' h.1)
  rules_alike (inr e) h = first_fails a n m e.0 ∙ sym (first_fails a n' m' e.1)

pub reckoned : (f : Figures) (load a n m y z : ℕ) → n ≡ kept load f.cold_strength → m ≡ kept_buckling load f.buckling_load → a ≡ imperfection_of f.yield_strength
    → 0 < f.cold_strength → 0 < unwrap_or f.buckling_load 1 → y ≤ 10000 → z ≤ 10000 → rules a n m y z ≡ carries f load y z
reckoned f load a n m y z en em ea s_pos k_pos y_most z_most =
    let here : rules a n m y z ≡ rules (imperfection_of f.yield_strength) (kept load f.cold_strength) (kept_buckling load f.buckling_load) y z = cc in
    here ∙ rules_alike (imperfection_of f.yield_strength) (kept load f.cold_strength) (utilisation load f.cold_strength)
    (kept_buckling load f.buckling_load) (buckling_use load f.buckling_load) y z y_most z_most
    (kept_alike load f.cold_strength s_pos) (buckling_alike load f.buckling_load k_pos)

-- the ranges of what is kept
under : (load resistance : ℕ) → load ≤ resistance → utilisation load resistance ≤ 10000
under load resistance h =
    ⊎_elim (λ (e : resistance ≡ 0). rw e (omega (arith, div-zero (10000 * load + (0 - 1)))))
    (λ (pos : 0 < resistance). omega (arith, div_below (10000 * load + (resistance - 1)) resistance 10001 pos (omega arith))) (eq-zero-or-pos resistance)

pub kept_most : (load resistance : ℕ) → kept load resistance ≤ 10001
kept_most load resistance =
    cond_both (leb load resistance) (utilisation load resistance) 10001 (λ n. n ≤ 10001)
    (λ e. omega (arith, under load resistance (leb-true load resistance e))) (λ e. omega arith)

pub kept_buckling_most : (load : ℕ) (k : Option ℕ) → kept_buckling load k ≤ 10001
kept_buckling_most load None = omega arith
kept_buckling_most load (Some k) = kept_most load k

pub imperfection_most : (f : ℕ) → 200 ≤ f → imperfection_of f ≤ 50
imperfection_most f h = omega (arith, div_below (39715 + (4 * f - 1)) (4 * f) 51 (omega arith) (omega arith))
