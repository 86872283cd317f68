-- How far a course goes, and that it goes on from any of its steps.
use Rattle.std.proofs.Common.{◌≡◌, ℕ, zero, suc, ◌+◌, ◌-◌, ◌<◌, ◌≤◌, Bool, true, false, leb, ℤ, pos, negsuc, is_some, Some, None, Ok, Err, Option, unwrap_or, sym, refl, ap, ◌∙◌, ⊎_elim, add-zero, add-suc, zero-add, arith}
use Rattle.std.proofs.lemmas.Bool.{cases_lt, both_ways, cond-true, le-leb}
use Rattle.std.proofs.lemmas.Bool.Decides.{nat_tests}
use Rattle.fires.specs.Meaning.{Reading}
use Rattle.trial.specs.Parts.{Parts}
use Rattle.trial.specs.Heating.{at_least, heated_by, stepped, stop_of}
use Rattle.trial.specs.Questions.{first}
use Rattle.trial.specs.Course.{ahead, stop_ahead, reach, entry, end}
use Rattle.trial.proofs.First.{Searched, searched, first_at}

-- with 4,096 steps standing the next is stopped
pub full : (p : Parts) (k t : ℕ) → 4096 ≤ k → is_some (stop_of p k t) ≡ true
full p k t h = ap is_some (cond-true (leb 4096 k) _ _ (le-leb 4096 k h))

-- of the course that goes on from step n at t
module _ (p : Parts) (n t : ℕ) where
  -- whether its step j is stopped
  abbrev stopped : ℕ → Bool
  stopped j = is_some (stop_ahead p n t j)

  pub reach_at : (k : ℕ) → k ≤ 4096 → ((j : ℕ) → j < k → is_some (stop_ahead p n t j) ≡ false) → is_some (stop_ahead p n t k) ≡ true → reach p n t ≡ k
  reach_at k most goes stops = ap (λ o. unwrap_or o 4096) (first_at stopped 4097 k (omega arith) goes stops)

  -- k steps fit that nothing stops, and the next is stopped
  pub record Reach (k : ℕ) : Type 0 where
    pub goes : (j : ℕ) → j < k → is_some (stop_ahead p n t j) ≡ false
    pub stops : is_some (stop_ahead p n t k) ≡ true
    pub fits : k + n ≤ 4096

  module _ (some : n ≤ 4096) where
    -- the course is stopped where 4,096 steps stand, if not before
    found : (o : Option ℕ) → Searched stopped 4097 o → Reach (unwrap_or o 4096)
    found None h = absurd (both_ways _ (h (4096 - n) (omega arith)) (full p _ _ (omega arith)))
    found (Some k) h = record {
      goes = h.before;
      stops = h.holds;
      fits = ⊎_elim (λ (l : 4096 - n < k). absurd (both_ways _ (h.before (4096 - n) l) (full p _ _ (omega arith)))) (λ (l : k ≤ 4096 - n). omega arith) (cases_lt (4096 - n) k);
    }

    pub reach_is : Reach (reach p n t)
    reach_is = found (first stopped 4097) (searched stopped 4097)

    pub reach_least : (k : ℕ) → ((j : ℕ) → j < k → is_some (stop_ahead p n t j) ≡ false) → k ≤ reach p n t
    reach_least k goes =
        ⊎_elim (λ (l : reach p n t < k). absurd (both_ways _ (goes (reach p n t) l) reach_is.stops)) (λ (l : k ≤ reach p n t). l) (cases_lt (reach p n t) k)

-- no step ends below 20,000
not_colder : (z : ℤ) → 20000 ≤ at_least 20000 z
not_colder (pos n) = omega arith
not_colder (negsuc n) = omega arith

warm : (p : Parts) (t : ℕ) (r : Reading) → 20000 ≤ t → 20000 ≤ heated_by p t r
warm p t (Ok q) h = not_colder _
warm p t (Err e) h = h

pub stepped_least : (p : Parts) (k t : ℕ) → 20000 ≤ t → 20000 ≤ stepped p k t
stepped_least p k t h = warm p t (p.tells k t) h

-- a step that nothing stops does not end too hot
pub stepped_most : (p : Parts) (k t : ℕ) → is_some (stop_of p k t) ≡ false → stepped p k t ≤ 1200000
stepped_most p k t goes = grind (arith, nat_tests)

-- the course, from step 0 at t, goes on from step n
module _ (p : Parts) (t n : ℕ) where
  pub ahead_on : (j : ℕ) → ahead p 0 t (n + j) ≡ ahead p n (ahead p 0 t n) j
  unfolding ahead
  ahead_on zero = ap (ahead p 0 t) (add-zero n)
  ahead_on (suc j) = ap (ahead p 0 t) (add-suc n j) ∙ cc (zero-add (n + j), ahead_on j)

  pub stop_on : (j : ℕ) → stop_ahead p 0 t (n + j) ≡ stop_ahead p n (ahead p 0 t n) j
  stop_on j = rw (zero-add (n + j), ahead_on j) refl

module _ (p : Parts) where
  pub end_is : Reach p 0 20000 (end p)
  end_is = reach_is p 0 20000 (omega arith)

  -- from a step of the course it goes on to the same end, and stops there for the same cause
  module _ (n : ℕ) (made : n ≤ end p) where
    pub end_on : stop_ahead p n (entry p n) (end p - n) ≡ stop_ahead p 0 20000 (end p)
    end_on = let e : n + (end p - n) ≡ end p = omega arith in sym (stop_on p 20000 n (end p - n)) ∙ ap (stop_ahead p 0 20000) e

    pub reach_on : reach p n (entry p n) ≡ end p - n
    reach_on =
        reach_at p n (entry p n) (end p - n) (omega (arith, end_is.fits))
        (λ j h. ap is_some (sym (stop_on p 20000 n j)) ∙ end_is.goes (n + j) (omega arith)) (ap is_some end_on ∙ end_is.stops)

  pub entry_least : (k : ℕ) → 20000 ≤ entry p k
  unfolding ahead
  entry_least zero = omega arith
  entry_least (suc k) = stepped_least p (0 + k) (entry p k) (entry_least k)

  pub entry_most : (k : ℕ) → k ≤ end p → entry p k ≤ 1200000
  unfolding ahead
  entry_most zero h = omega arith
  entry_most (suc k) h = stepped_most p (0 + k) (entry p k) (end_is.goes k (omega arith))
