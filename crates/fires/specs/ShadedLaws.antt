-- The answers of a shaded fire keep the laws of a fire.
use Rattle.std.specs.Prelude.{◌≡◌, ℕ, ◌≤◌, ℤ, pos, ◌*ℤ◌, Ok, Err}
use Rattle.std.proofs.Common.{ap, subst, sym, arith}
use Rattle.rounding.specs.Quotient.{rounded_up}
use Rattle.fires.specs.Meaning.{Answers, InRange, Reading, Within}
use Rattle.fires.specs.Shaded.{shaded_reading}
use Rattle.fires.specs.declared.meaning.NoFlux.TheVariants.{Missing, Ended}
use Rattle.fires.specs.FluxProducts.{product_within}
use Rattle.fires.specs.RoundedWithin.{rounded_within}

-- a flux that a fire tells is in range
pub flux_told : (n : ℕ) (says : ℕ → ℕ → Reading) → Answers n says → (k t : ℕ) (q : ℤ) → Ok q ≡ says k t → Within 400000 q
flux_told n says a k t q e = subst InRange (sym e) (a.range k t)

pub shaded_within : (q : ℤ) (m : ℕ) → Within 400000 q → m ≤ 1000 → Within 400000 (rounded_up (q *ℤ pos m) 1000)
shaded_within q m told most = rounded_within (q *ℤ pos m) 400000 1000 (omega arith) (product_within q m 1000 told most)

module _ (m : ℕ) (most : m ≤ 1000) where
  shaded_range : (r : Reading) → InRange r → InRange (shaded_reading m r)
  shaded_range (Ok q) w = shaded_within q m w most
  shaded_range (Err Missing) _ = tt
  shaded_range (Err Ended) _ = tt

  unshaded_end : (r : Reading) → shaded_reading m r ≡ Err Ended → r ≡ Err Ended
  unshaded_end (Ok q) e = cc
  unshaded_end (Err Missing) e = e
  unshaded_end (Err Ended) e = e

  pub shaded_answers : (n : ℕ) (says : ℕ → ℕ → Reading) → Answers n says → Answers n (λ k t. shaded_reading m (says k t))
  shaded_answers n says a =
      record {
        range = λ k t. shaded_range (says k t) (a.range k t);
        cold = λ k t h. ap (shaded_reading m) (a.cold k t h);
        hot = λ k t h. ap (shaded_reading m) (a.hot k t h);
        ended = λ k t h. ap (shaded_reading m) (a.ended k t h);
        ends = λ k t e. a.ends k t (unshaded_end (says k t) e);
      }
