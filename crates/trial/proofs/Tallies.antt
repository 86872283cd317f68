-- Tallies, call by call.
use Rattle.std.proofs.Common.{◌≡◌, ℕ, ◌+◌, ◌≤◌, min, Bool, true, false, cond, leb, List, [], ◌∷◌, ◌++◌, None, Option, sym, refl, ap, subst, arith}
use Rattle.std.proofs.lemmas.Bool.{cond_both}
use Rattle.std.proofs.lemmas.Bool.Decides.{nat_tests}
use Rattle.member_check.proofs.Falling.{passes_unloaded}
use Rattle.trial.specs.Parts.{Parts}
use Rattle.trial.specs.Course.{end, end_cause, entry}
use Rattle.trial.specs.Answers.{can_go_back, carried_cold, judged, told}
use Rattle.trial.specs.Tally.{Tally, accepted, noted, remaining, counted, answer, tallied, answered, start, tally}
use Rattle.trial.specs.declared.call.Answer.TheVariants.{Heated}
use Rattle.trial.specs.declared.call.Call.{Call}
use Rattle.trial.specs.declared.call.Call.TheVariants.{Heat, Back, Load, Ask}
use Rattle.trial.specs.declared.call.Question.{Question}
use Rattle.trial.specs.declared.call.Question.TheVariants.{Standing, TemperatureAt, Hottest, CriticalTemperature, FirstFailing}
use Rattle.trial.specs.declared.refusal.Refusal.{Refusal}
use Rattle.trial.specs.declared.refusal.Refusal.TheVariants.{BackBeyondStart, NotCarriedCold}
use Rattle.trial.specs.declared.stop.Stop.{Stop}

-- the tally after a call, by the call alone
abbrev pub changed : Parts → Tally → Call → Tally
changed p y (Heat asked) = record { count = y.count + min asked (remaining p y); load = y.load }
changed p y (Back steps) = cond (can_go_back y.count steps) (accepted y (Back steps)) y
changed p y (Load load) = cond (carried_cold p load) (accepted y (Load load)) y
changed p y (Ask q) = y

noted_heat : (y : Tally) (asked left : ℕ) (stop : Option Stop) → noted y (Heat asked) (cond (leb asked left) (Heated asked None) (Heated left stop)) ≡ record { count = y.count + min asked left; load = y.load }
noted_heat y asked left stop = grind (arith, nat_tests)

noted_judged : (y : Tally) (c : Call) (good : Bool) (r : Refusal) → noted y c (judged good r) ≡ cond good (accepted y c) y
noted_judged y c true r = refl
noted_judged y c false r = refl

noted_told : (y : Tally) (c : Call) (p : Parts) (load n : ℕ) (t : ℕ → ℕ) (q : Question) → noted y c (told p load n t q) ≡ y
noted_told y c p load n t Standing = refl
noted_told y c p load n t (TemperatureAt k) = refl
noted_told y c p load n t Hottest = refl
noted_told y c p load n t CriticalTemperature = refl
noted_told y c p load n t FirstFailing = refl

pub counted_is : (p : Parts) (y : Tally) (c : Call) → counted p y c ≡ changed p y c
counted_is p y (Heat asked) = noted_heat y asked (remaining p y) (end_cause p)
counted_is p y (Back steps) = noted_judged y (Back steps) (can_go_back y.count steps) BackBeyondStart
counted_is p y (Load load) = noted_judged y (Load load) (carried_cold p load) NotCarriedCold
counted_is p y (Ask q) = noted_told y (Ask q) p y.load y.count (entry p) q

pub tallied_more : (p : Parts) (y : Tally) (cs : List Call) (c : Call) → tallied p y (cs ++ (c ∷ [])) ≡ counted p (tallied p y cs) c
unfolding tallied
tallied_more p y [] c = refl
tallied_more p y (x ∷ cs) c = tallied_more p (counted p y x) cs c

pub answered_more : (p : Parts) (y : Tally) (cs : List Call) (c : Call) → answered p y (cs ++ (c ∷ [])) ≡ answered p y cs ++ (answer p (tallied p y cs) c ∷ [])
unfolding tallied answered
answered_more p y [] c = refl
answered_more p y (x ∷ cs) c = ap (◌∷◌ (answer p y x)) (answered_more p (counted p y x) cs c)

-- a count of steps that the course makes, and a load that is carried at 20
pub record Sound (p : Parts) (y : Tally) : Type 0 where
  pub within : y.count ≤ end p
  pub carried : carried_cold p y.load ≡ true

module _ (p : Parts) where
  changed_sound : (y : Tally) (c : Call) → Sound p y → Sound p (changed p y c)
  changed_sound y (Heat asked) h = record { within = omega (arith, h.within); carried = h.carried }
  changed_sound y (Back steps) h =
      cond_both (can_go_back y.count steps) (accepted y (Back steps)) y (Sound p)
      (λ _. record { within = omega (arith, h.within); carried = h.carried }) (λ _. h)
  changed_sound y (Load load) h =
      cond_both (carried_cold p load) (accepted y (Load load)) y (Sound p) (λ e. record { within = h.within; carried = e }) (λ _. h)
  changed_sound y (Ask q) h = h

  tallied_sound : (y : Tally) (cs : List Call) → Sound p y → Sound p (tallied p y cs)
  unfolding tallied
  tallied_sound y [] h = h
  tallied_sound y (c ∷ cs) h = tallied_sound (counted p y c) cs (subst (Sound p) (sym (counted_is p y c)) (changed_sound y c h))

  pub tally_sound : (calls : List Call) → Sound p (tally p calls)
  tally_sound calls = tallied_sound start calls (record { within = omega arith; carried = passes_unloaded p.figures p.strength p.stiffness 20 })
