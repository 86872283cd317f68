-- A sheet follows the tally of its calls: at first, and from call to call.
use Rattle.std.proofs.Common.{◌≡◌, ℕ, suc, ◌-◌, ◌≤◌, Bool, true, false, cond, leb, List, [], ◌∷◌, ◌++◌, refl, ap, ◌∙◌, subst, arith}
use Rattle.std.proofs.lemmas.Bool.Decides.{nat_tests}
use Rattle.trial.specs.Parts.{Parts}
use Rattle.trial.specs.Questions.{fails}
use Rattle.trial.specs.Course.{ahead, stop_ahead, reach, entry, end}
use Rattle.trial.specs.Views.{View, Same}
use Rattle.trial.specs.Answers.{told, can_go_back, carried_cold, judged}
use Rattle.trial.specs.Calls.{reply, after, after_back, after_load}
use Rattle.trial.specs.Tally.{Tally, remaining, answer, tallied, start, tally}
use Rattle.trial.specs.Law.{Follows}
use Rattle.trial.specs.declared.call.Call.{Call}
use Rattle.trial.specs.declared.call.Call.TheVariants.{Heat, Back, Load, Ask}
use Rattle.trial.specs.declared.call.Question.{Question}
use Rattle.trial.specs.declared.call.Question.TheVariants.{Standing, TemperatureAt, Hottest, CriticalTemperature, FirstFailing}
use Rattle.trial.specs.declared.refusal.Refusal.TheVariants.{BackBeyondStart}
use Rattle.trial.proofs.First.{first_same, hottest_same}
use Rattle.trial.proofs.Courses.{ahead_on, reach_on, end_on}
use Rattle.trial.proofs.Tallies.{changed, counted_is, tallied_more, tally_sound}

pub starts : (v : View) → v.standing ≡ 0 → v.load ≡ 0 → v.temperature 0 ≡ 20000 → Follows v.parts [] v
unfolding tallied ahead
starts v standing load cold = record {
  parts = refl;
  standing = standing;
  load = load;
  course = λ k h. let e : k ≡ 0 = omega arith in cc;
}

-- of steps with equal temperatures the same is told
told_same : (p : Parts) (load n : ℕ) (t u : ℕ → ℕ) (q : Question) → ((k : ℕ) → k ≤ n → t k ≡ u k) → told p load n t q ≡ told p load n u q
told_same p load n t u Standing same = refl
told_same p load n t u (TemperatureAt k) same = grind (arith, nat_tests, same k)
told_same p load n t u Hottest same = cc (hottest_same t u n same)
told_same p load n t u CriticalTemperature same = refl
told_same p load n t u FirstFailing same =
    cc (first_same (λ k. fails p load (t k)) (λ k. fails p load (u k)) (suc n) (λ j h. ap (fails p load) (same j (omega arith))))

-- a sheet stands where a tally says, on the course of p
record Stands (p : Parts) (z : Tally) (u : View) : Type 0 where
  parts : u.parts ≡ p
  standing : u.standing ≡ z.count
  load : u.load ≡ z.load
  course : (k : ℕ) → k ≤ u.standing → u.temperature k ≡ entry p k

-- both change, or neither does
either : (p : Parts) (b : Bool) (x z : Tally) (a u : View) → (b ≡ true → Stands p x a) → Stands p z u → Stands p (cond b x z) (cond b a u)
either p true x z a u goes stays = goes refl
either p false x z a u goes stays = stays

same_stands : (p : Parts) (z : Tally) (u w : View) → Stands p z u → Same u w → Stands p z w
same_stands p z u w h s = record {
  parts = s.parts ∙ h.parts;
  standing = s.standing ∙ h.standing;
  load = s.load ∙ h.load;
  course = λ k l. let m : k ≤ u.standing = omega (arith, s.standing) in s.temperature k m ∙ h.course k m;
}

module _ (calls : List Call) (v : View) (h : Follows v.parts calls v) where
  abbrev p : Parts
  p = v.parts

  abbrev y : Tally
  y = tally p calls

  abbrev n : ℕ
  n = v.standing

  pub made : v.standing ≤ end v.parts
  made = omega (arith, h.standing, (tally_sound p calls).within)

  -- the course goes on from the last standing step
  reach_left : reach p n (v.temperature n) ≡ remaining p y
  reach_left = ap (reach p n) (h.course n (omega arith)) ∙ (reach_on p n made ∙ ap (λ k. end p - k) h.standing)

  stop_left : stop_ahead p n (v.temperature n) (remaining p y) ≡ stop_ahead p 0 20000 (end p)
  stop_left = cc (h.course n (omega arith), h.standing, end_on p n made)

  -- the answer is the tally's
  reply_told : (c : Call) → reply v c ≡ answer v.parts (tally v.parts calls) c
  reply_told (Heat asked) = grind (arith, nat_tests, reach_left, stop_left)
  reply_told (Back steps) = ap (λ m. judged (can_go_back m steps) BackBeyondStart) h.standing
  reply_told (Load load) = refl
  reply_told (Ask q) = told_same p v.load n v.temperature (entry p) q h.course ∙ cc (h.standing, h.load)

  now : Stands p y v
  now = record { parts = refl; standing = h.standing; load = h.load; course = h.course }

  heated_course : (k : ℕ) → cond (leb k n) (v.temperature k) (ahead p n (v.temperature n) (k - n)) ≡ entry p k
  heated_course k = grind (arith, nat_tests, h.course k, h.course n, ahead_on p 20000 n (k - n))

  stands : (c : Call) → Stands p (changed p y c) (after v c)
  stands (Heat asked) = record { parts = refl; standing = cc (h.standing, reach_left); load = h.load; course = λ k _. heated_course k }
  stands (Back steps) =
      subst (λ m. Stands p (cond (can_go_back m steps) (record { count = m - steps; load = y.load }) y) (after v (Back steps))) h.standing
      (either p (can_go_back n steps) _ y (after_back v steps) v
      (λ _. record { parts = refl; standing = refl; load = h.load; course = λ k l. h.course k (omega arith) }) now)
  stands (Load load) =
      either p (carried_cold p load) (record { count = y.count; load = load }) y (after_load v load) v
      (λ _. record { parts = refl; standing = h.standing; load = refl; course = h.course }) now
  stands (Ask q) = now

  followed : (c : Call) (w : View) → Same (after v c) w → Follows v.parts (calls ++ (c ∷ [])) w
  followed c w s =
      let here = same_stands p (changed p y c) (after v c) w (stands c) s in
      let told : tally p (calls ++ (c ∷ [])) ≡ changed p y c = tallied_more p start calls c ∙ counted_is p y c in
      record { parts = here.parts; standing = cc; load = cc; course = here.course }

pub goes_on : (calls : List Call) (v w : View) (c : Call) → Follows v.parts calls v → Same (after v c) w
    → (reply v c ≡ answer v.parts (tally v.parts calls) c) × Follows v.parts (calls ++ (c ∷ [])) w
goes_on calls v w c h s = (reply_told calls v h c, followed calls v h c w s)
