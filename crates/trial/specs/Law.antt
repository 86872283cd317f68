-- The law over runs: what holds of a sheet after any list of calls, some of them refused.
use Rattle.std.specs.Prelude.{◌≡◌, ℕ, ◌+◌, ◌*◌, ◌<◌, ◌≤◌, Bool, true, false, List, [], ◌∷◌, ◌++◌, Some, None, Option}
use Rattle.member_check.specs.Check.{Critical, NowhereLower}
use Rattle.trial.specs.Parts.{Parts}
use Rattle.trial.specs.Questions.{fails}
use Rattle.trial.specs.Course.{end, end_stop, entry}
use Rattle.trial.specs.Heating.{cause, stepped}
use Rattle.trial.specs.Refusal.{stop_number}
use Rattle.trial.specs.declared.stop.Stop.{Stop}
use Rattle.trial.specs.Views.{View, new_view}
use Rattle.trial.specs.Calls.{after_heat, critical_in, first_failing_in, hottest_in}
use Rattle.trial.specs.Tally.{answer, tally}
use Rattle.trial.specs.declared.call.Answer.{Answer}
use Rattle.trial.specs.declared.call.Call.{Call}

-- a stop's number: its cause holds, and no cause of a smaller number does
pub record StoppedBy (holds : Stop → Bool) (number : ℕ) : Type 0 where
  pub stop : Stop
  pub is : number ≡ stop_number stop
  pub holds_here : holds stop ≡ true
  pub smallest : (other : Stop) → holds other ≡ true → number ≤ stop_number other

-- the course: entry 0 is at 20,000; entry k + 1 is what the step rule makes of entry k with the fire's step k; it ends at the least k where a
-- cause holds with k steps standing, and its stop is the smallest cause that holds there
pub record Course (p : Parts) : Type 0 where
  pub starts : entry p 0 ≡ 20000
  pub goes : (k : ℕ) → entry p (k + 1) ≡ stepped p k (entry p k)
  pub unstopped : (k : ℕ) → k < end p → (stop : Stop) → cause p k (entry p k) stop ≡ false
  pub ends : StoppedBy (cause p (end p) (entry p (end p))) (end_stop p)

-- a sheet over the parts p agrees with the tally of the calls: in the count of steps, in the load, and its temperatures are the course's
pub record Follows (p : Parts) (calls : List Call) (v : View) : Type 0 where
  pub parts : v.parts ≡ p
  pub standing : v.standing ≡ (tally p calls).count
  pub load : v.load ≡ (tally p calls).load
  pub course : (k : ℕ) → k ≤ v.standing → v.temperature k ≡ entry p k

-- members are equal by their figures, steels by factors and heat capacity at every degree, fires by every answer
pub record Equal (p q : Parts) : Type 0 where
  pub figures : p.figures ≡ q.figures
  pub strength : (d : ℕ) → p.strength d ≡ q.strength d
  pub stiffness : (d : ℕ) → p.stiffness d ≡ q.stiffness d
  pub capacity : (d : ℕ) → p.capacity d ≡ q.capacity d
  pub tells : (k t : ℕ) → p.tells k t ≡ q.tells k t

-- the same steps stand, at the same temperatures
pub record SameSteps (v w : View) : Type 0 where
  pub standing : w.standing ≡ v.standing
  pub temperature : (k : ℕ) → k ≤ v.standing → w.temperature k ≡ v.temperature k

-- a new sheet over equal parts, heated that far in one call, has the same steps
abbrev pub AsHeatedAtOnce : View → Type 0
AsHeatedAtOnce v = (q : Parts) → Equal v.parts q → SameSteps v (after_heat (new_view q) v.standing)

-- no standing step fails
abbrev pub NoneFails : View → Type 0
NoneFails v = (k : ℕ) → k ≤ v.standing → fails v.parts v.load (v.temperature k) ≡ false

-- a standing step has this temperature, and none is hotter
pub record Highest (v : View) (temperature : ℕ) : Type 0 where
  pub step : ℕ
  pub stands : step ≤ v.standing
  pub is : v.temperature step ≡ temperature
  pub most : (k : ℕ) → k ≤ v.standing → v.temperature k ≤ temperature

-- step k stands and fails, and none before it does
pub record FirstToFail (v : View) (k : ℕ) : Type 0 where
  pub stands : k ≤ v.standing
  pub here : fails v.parts v.load (v.temperature k) ≡ true
  pub before : (j : ℕ) → j < k → fails v.parts v.load (v.temperature j) ≡ false

abbrev pub Lowest : View → Option ℕ → Type 0
Lowest v None = NoneFails v
Lowest v (Some k) = FirstToFail v k

-- the hottest step's temperature, in millidegrees, is not above the critical one, in degrees
abbrev pub NotAboveCritical : View → Type 0
NotAboveCritical v = hottest_in v ≤ 1000 * critical_in v

-- the hottest step and the first failing one are what they are called; no standing step fails exactly when the hottest is not above the
-- critical temperature, up to which the member passes at each degree from 20 on and above which it passes at none up to 1,200; it is never 19
pub record Verdict (v : View) : Type 0 where
  pub hottest : Highest v (hottest_in v)
  pub first : Lowest v (first_failing_in v)
  pub not_above_if_none_fails : NoneFails v → NotAboveCritical v
  pub none_fails_if_not_above : NotAboveCritical v → NoneFails v
  pub critical : Critical v.parts.figures v.parts.strength v.parts.stiffness v.load (critical_in v)
  pub never_19 : 20 ≤ critical_in v

-- of two sheets with equal member, fire, heat capacities and steps standing, the first has no greater load and factors nowhere lower
pub record NoWorse (v w : View) : Type 0 where
  pub figures : v.parts.figures ≡ w.parts.figures
  pub tells : (k t : ℕ) → v.parts.tells k t ≡ w.parts.tells k t
  pub capacity : (d : ℕ) → v.parts.capacity d ≡ w.parts.capacity d
  pub standing : v.standing ≡ w.standing
  pub load : v.load ≤ w.load
  pub strength : NowhereLower v.parts.strength w.parts.strength
  pub stiffness : NowhereLower v.parts.stiffness w.parts.stiffness

-- a step is found, at k or before
abbrev pub NoLater : ℕ → Option ℕ → Type 0
NoLater k None = ⊥
NoLater k (Some j) = j ≤ k

-- if the first has a failing step, the second has one no later; and the critical temperature of the first is not lower
pub record Outlasts (v w : View) : Type 0 where
  pub later : (k : ℕ) → first_failing_in v ≡ Some k → NoLater k (first_failing_in w)
  pub critical : critical_in w ≤ critical_in v

-- what holds of a sheet over the parts p after a list of calls
pub record Law (p : Parts) (calls : List Call) (v : View) : Type 0 where
  pub course : Course p
  pub follows : Follows p calls v
  pub at_once : AsHeatedAtOnce v
  pub verdict : Verdict v
  pub outlasts : (q : Parts) (others : List Call) (w : View) → Follows q others w → NoWorse v w → Outlasts v w
  pub outlasted : (q : Parts) (others : List Call) (w : View) → Follows q others w → NoWorse w v → Outlasts w v

-- a call that is answered by r and leads from v to w: whatever calls were made before, the answer is the tally's, and then the law holds
abbrev pub Lawful : View → Call → Answer → View → Type 0
Lawful v c r w =
    (p : Parts) (calls : List Call) → Follows p calls v → (r ≡ answer p (tally p calls) c) × Law p (calls ++ (c ∷ [])) w
