-- The first number at which a test holds, and the highest temperature.
use Rattle.std.proofs.Common.{◌≡◌, ℕ, zero, suc, ◌<◌, ◌≤◌, Bool, true, false, Some, None, Option, refl, subst, ⊎_elim, arith}
use Rattle.std.proofs.lemmas.Bool.{cases_lt}
use Rattle.trial.specs.Questions.{first, hottest, or_here}

pub first_none : (p : ℕ → Bool) (b : ℕ) → ((j : ℕ) → j < b → p j ≡ false) → first p b ≡ None
unfolding first
first_none p zero fails = refl
first_none p (suc b) fails = cc (first_none p b (λ j h. fails j (omega arith)), fails b (omega arith))

pub first_at : (p : ℕ → Bool) (b k : ℕ) → k < b → ((j : ℕ) → j < k → p j ≡ false) → p k ≡ true → first p b ≡ Some k
unfolding first
first_at p zero k h fails holds = absurd (omega arith)
first_at p (suc b) k h fails holds =
    ⊎_elim (λ (l : k < b). cc (first_at p b k l fails holds))
    (λ (l : b ≤ k). let e : b ≡ k = omega arith in cc (first_none p b (λ j m. fails j (omega arith)))) (cases_lt k b)

pub first_same : (p q : ℕ → Bool) (b : ℕ) → ((j : ℕ) → j < b → p j ≡ q j) → first p b ≡ first q b
unfolding first
first_same p q zero same = refl
first_same p q (suc b) same = cc (first_same p q b (λ j h. same j (omega arith)), same b (omega arith))

-- of the numbers below b, k is the first at which the test holds
pub record Found (p : ℕ → Bool) (b k : ℕ) : Type 0 where
  pub within : k < b
  pub holds : p k ≡ true
  pub before : (j : ℕ) → j < k → p j ≡ false

-- what an answer of `first` tells
abbrev pub Searched : (ℕ → Bool) → ℕ → Option ℕ → Type 0
Searched p b None = (j : ℕ) → j < b → p j ≡ false
Searched p b (Some k) = Found p b k

module _ (p : ℕ → Bool) where
  one_more : (b : ℕ) (o : Option ℕ) (here : Bool) → p b ≡ here → Searched p b o → Searched p (suc b) (or_here o here b)
  one_more b (Some k) here is h = record { within = omega (arith, h.within); holds = h.holds; before = h.before }
  one_more b None true is h = record { within = omega arith; holds = is; before = h }
  one_more b None false is h = λ j below.
      ⊎_elim (λ (l : j < b). h j l) (λ (l : b ≤ j). let e : j ≡ b = omega arith in cc) (cases_lt j b)

  pub searched : (b : ℕ) → Searched p b (first p b)
  unfolding first
  searched zero = λ j h. absurd (omega arith)
  searched (suc b) = one_more b (first p b) (p b) refl (searched b)

  pub first_found : (b k : ℕ) → first p b ≡ Some k → Found p b k
  first_found b k e = subst (Searched p b) e (searched b)

pub hottest_same : (t u : ℕ → ℕ) (n : ℕ) → ((k : ℕ) → k ≤ n → t k ≡ u k) → hottest t n ≡ hottest u n
unfolding hottest
hottest_same t u zero same = same zero (omega arith)
hottest_same t u (suc n) same = cc (hottest_same t u n (λ k h. same k (omega arith)), same (suc n) (omega arith))

-- no step is above the hottest
pub hottest_least : (t : ℕ → ℕ) (n k : ℕ) → k ≤ n → t k ≤ hottest t n
unfolding hottest
hottest_least t zero k h = let e : k ≡ 0 = omega arith in rw e (omega arith)
hottest_least t (suc n) k h =
    ⊎_elim (λ (l : k < suc n). omega (arith, hottest_least t n k (omega arith)))
    (λ (l : suc n ≤ k). let e : k ≡ suc n = omega arith in rw e (omega arith)) (cases_lt k (suc n))

-- the hottest is not above what no step is above
pub hottest_most : (t : ℕ → ℕ) (n m : ℕ) → ((k : ℕ) → k ≤ n → t k ≤ m) → hottest t n ≤ m
unfolding hottest
hottest_most t zero m each = each zero (omega arith)
hottest_most t (suc n) m each = omega (arith, hottest_most t n m (λ k h. each k (omega arith)), each (suc n) (omega arith))
