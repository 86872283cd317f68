-- The last number at which a test passes that never passes again once it has failed, found by halving.
use Rattle.std.proofs.Common.{◌≡◌, ℕ, zero, suc, ◌+◌, ◌-◌, ◌/◌, ◌<◌, ◌≤◌, Bool, true, false, cond, refl, ◌∙◌, ⊎_elim, le_trans, le_refl, arith, lit<, lit≤}
use Rattle.std.proofs.lemmas.Bool.{false≢true, cases_Bool, cases_lt, cond-true, cond-false, cond_both, both_ways}
use Rattle.steels.specs.Meaning.{Factor}
use Rattle.member_check.specs.declared.input.Figures.{Figures}
use Rattle.member_check.specs.Check.{greatest, Last, Critical, critical_of, passes_at, NoLower}
use Rattle.member_check.proofs.Falling.{passes_below, carries_kept}

-- a test that never passes again once it has failed
abbrev pub Fades : (ℕ → Bool) → Type 0
Fades p = (d e : ℕ) → d ≤ e → p e ≡ true → p d ≡ true

-- halving has come so far: the test passes from first up to low, and fails from high up to top
pub record Narrowed (p : ℕ → Bool) (first top low high : ℕ) : Type 0 where
  pub least : first ≤ low + 1
  pub apart : low < high
  pub most : high ≤ top + 1
  pub below : (d : ℕ) → first ≤ d → d ≤ low → p d ≡ true
  pub above : (d : ℕ) → high ≤ d → d ≤ top → p d ≡ false

module _ (p : ℕ → Bool) (fades : Fades p) where
  -- where it fails it fails from there on
  fails_above : (d e : ℕ) → d ≤ e → p d ≡ false → p e ≡ false
  fails_above d e h fails = ⊎_elim (λ passes. absurd (both_ways (p d) fails (fades d e h passes))) (λ x. x) (cases_Bool (p e))

  -- the number in the middle of what is left moves one end
  pub raised : (first top low high : ℕ) → Narrowed p first top low high → 1 < high - low → p ((low + high) / 2) ≡ true → Narrowed p first top ((low + high) / 2) high
  raised first top low high h wide passes = record {
    least = omega (arith, h.least);
    apart = omega arith;
    most = h.most;
    below = λ d _ le. fades d ((low + high) / 2) le passes;
    above = h.above;
  }

  pub lowered : (first top low high : ℕ) → Narrowed p first top low high → 1 < high - low → p ((low + high) / 2) ≡ false → Narrowed p first top low ((low + high) / 2)
  lowered first top low high h wide fails = record {
    least = h.least;
    apart = omega arith;
    most = omega (arith, h.most);
    below = h.below;
    above = λ d le _. fails_above ((low + high) / 2) d le fails;
  }

  -- the two sides of c settle it
  pub last_at : (first top c : ℕ) → first ≤ c + 1 → c ≤ top → (first ≤ c → p c ≡ true) → (c < top → p (c + 1) ≡ false) → Last p first top c
  last_at first top c least most passes fails = record {
    least = least;
    most = most;
    below = λ d l u. fades d c u (passes (le_trans l u));
    above = λ d l u. fails_above (c + 1) d (omega arith) (fails (omega arith));
  }

  -- the greatest number that passes parts those that pass from the others
  pub greatest_is_last : (first count : ℕ) → 0 < first → Last p first (first + count - 1) (greatest p first count)
  unfolding greatest
  greatest_is_last first zero pos = record { least = omega arith; most = omega arith; below = λ d l u. absurd (omega arith); above = λ d l u. absurd (omega arith) }
  greatest_is_last first (suc k) pos =
      cond_both (p (first + k)) (first + k) (greatest p first k) (Last p first (first + suc k - 1))
      (λ passes. record {
        least = omega arith;
        most = omega arith;
        below = λ d _ u. fades d (first + k) u passes;
        above = λ d l u. absurd (omega arith);
      })
      (λ fails. let h = greatest_is_last first k pos in record {
        least = h.least;
        most = omega (arith, h.most);
        below = h.below;
        above = λ d l u. ⊎_elim (λ (m : d < first + k). h.above d l (omega arith)) (λ (m : first + k ≤ d). fails_above (first + k) d m fails) (cases_lt d (first + k));
      })

pub narrowed : (p : ℕ → Bool) (first top low high : ℕ) → Narrowed p first top low high → high - low ≤ 1 → Last p first top low
narrowed p first top low high h near = record {
  least = h.least;
  most = omega (arith, h.most, h.apart);
  below = h.below;
  above = λ d l u. h.above d (omega (arith, h.apart)) u;
}

-- from `count` numbers, the greatest that passes is the one that parts them
greatest_parts : (p : ℕ → Bool) (first count c : ℕ) → 0 < first → first ≤ c + 1 → c < first + count
    → ((d : ℕ) → first ≤ d → d ≤ c → p d ≡ true) → ((d : ℕ) → c < d → d < first + count → p d ≡ false) → greatest p first count ≡ c
unfolding greatest
greatest_parts p first zero c pos least most below above = omega arith
greatest_parts p first (suc k) c pos least most below above =
    ⊎_elim
    (λ (l : c < first + k). cond-false (p (first + k)) _ _ (above (first + k) l (omega arith)) ∙ greatest_parts p first k c pos least l below (λ d m u. above d m (omega arith)))
    (λ (u : first + k ≤ c). let e : first + k ≡ c = omega arith in cond-true (p (first + k)) _ _ (below (first + k) (omega arith) u) ∙ e)
    (cases_lt c (first + k))

pub greatest_last : (p : ℕ → Bool) (first top c : ℕ) → 0 < first → Last p first top c → first ≤ top + 1 → greatest p first (top + 1 - first) ≡ c
greatest_last p first top c pos h some =
    greatest_parts p first (top + 1 - first) c pos h.least (omega (arith, h.most)) h.below (λ d l u. h.above d l (omega arith))

greatest_most : (p : ℕ → Bool) (first count : ℕ) → 0 < first → greatest p first count < first + count
unfolding greatest
greatest_most p first zero pos = omega arith
greatest_most p first (suc k) pos =
    ⊎_elim (λ (e : p (first + k) ≡ true). rw (cond-true (p (first + k)) (first + k) (greatest p first k) e) (omega arith))
    (λ (e : p (first + k) ≡ false). rw (cond-false (p (first + k)) (first + k) (greatest p first k) e) (omega (arith, greatest_most p first k pos)))
    (cases_Bool (p (first + k)))

picked : (b c : Bool) (x m n : ℕ) → (b ≡ true → c ≡ true) → m ≤ x → m ≤ n → cond b x m ≤ cond c x n
picked true true x m n wider less more = le_refl x
picked true false x m n wider less more = absurd (false≢true (wider refl))
picked false true x m n wider less more = less
picked false false x m n wider less more = more

-- a test that passes wherever another does has no smaller greatest
pub greatest_grows : (p q : ℕ → Bool) → ((d : ℕ) → p d ≡ true → q d ≡ true) → (first count : ℕ) → 0 < first → greatest p first count ≤ greatest q first count
unfolding greatest
greatest_grows p q wider first zero pos = le_refl (first - 1)
greatest_grows p q wider first (suc k) pos =
    picked (p (first + k)) (q (first + k)) (first + k) (greatest p first k) (greatest q first k) (wider (first + k))
    (omega (arith, greatest_most p first k pos)) (greatest_grows p q wider first k pos)

-- the degree that parts those at which the member passes from the others is the critical temperature
pub critical_parts : (f : Figures) (y z : ℕ → ℕ) (load c : ℕ) → Critical f y z load c → critical_of f y z load ≡ c
critical_parts f y z load c h = greatest_last (passes_at f y z load) 20 1200 c (lit< tt) h (lit≤ tt)

module _ (f : Figures) (y z : ℕ → ℕ) (load : ℕ) (fy : Factor y) (fz : Factor z) where
  pub passes_fades : Fades (passes_at f y z load)
  passes_fades d e h = passes_below f y z y z load load e d fy fz (λ k. le_refl (y k)) (λ k. le_refl (z k)) (le_refl load) h

  pub critical_is : Critical f y z load (critical_of f y z load)
  critical_is = greatest_is_last (passes_at f y z load) passes_fades 20 1181 (lit< tt)

  -- for a critical temperature in numbers: the member passes at c and fails at c + 1
  pub critical_at : (c : ℕ) → 20 ≤ c + 1 → c ≤ 1200 → (20 ≤ c → passes_at f y z load c ≡ true) → (c < 1200 → passes_at f y z load (c + 1) ≡ false) → critical_of f y z load ≡ c
  critical_at c least most passes fails =
      critical_parts f y z load c (last_at (passes_at f y z load) passes_fades 20 1200 c least most passes fails)

pub no_lower : NoLower
no_lower f y z y' z' load load' better_y better_z less =
    greatest_grows (passes_at f y z load) (passes_at f y' z' load')
    (λ d. carries_kept f load load' (y d) (y' d) (z d) (z' d) less (better_y d) (better_z d)) 20 1181 (lit< tt)
