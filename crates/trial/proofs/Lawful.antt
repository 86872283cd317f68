-- The law over runs.
use Rattle.std.proofs.Common.{◌≡◌, ℕ, zero, suc, ◌*◌, ◌<◌, ◌≤◌, true, ltb, List, [], ◌∷◌, ◌++◌, Some, None, Option, sym, refl, ap, ◌∙◌, subst, ⊎_elim, arith}
use Rattle.std.proofs.lemmas.Bool.{cases_lt, both_ways, ltb-false, le-ltb}
use Rattle.steels.specs.Meaning.{Factor}
use Rattle.steels.specs.declared.meaning.Steel as steel
use Rattle.steels.specs.declared.table.Reduction.{Reduction}
use Rattle.steels.specs.declared.table.Reduction.TheVariants.{Stiffness, Strength}
use Rattle.fires.specs.declared.meaning.Fire as fire
use Rattle.member_check.specs.declared.checked.Member.{Member}
use Rattle.trial.specs.Parts.{Parts}
use Rattle.trial.specs.Questions.{fails, hottest}
use Rattle.trial.specs.Course.{entry, end}
use Rattle.trial.specs.Views.{Same, View, new_view, parts_of, view_of}
use Rattle.trial.specs.Answers.{carried_cold, critical_under}
use Rattle.trial.specs.Calls.{after, after_heat, hottest_in, reply}
use Rattle.trial.specs.Tally.{Tally, answer, start, tallied, tally}
use Rattle.trial.specs.Law.{Follows, Equal, AsHeatedAtOnce, Highest, Lowest, Verdict, Law, Lawful}
use Rattle.trial.specs.declared.call.Answer.{Answer}
use Rattle.trial.specs.declared.call.Call.{Call}
use Rattle.trial.specs.declared.call.Call.TheVariants.{Heat}
use Rattle.trial.specs.declared.sheet.Sheet.{Sheet}
use Rattle.trial.proofs.First.{Searched, hottest_least, hottest_most, searched}
use Rattle.trial.proofs.Courses.{entry_least, entry_most}
use Rattle.trial.proofs.Tallies.{counted_is, tally_sound}
use Rattle.trial.proofs.Failing.{critical_in_parts, fails_above}
use Rattle.trial.proofs.Runs.{goes_on, made, starts}
use Rattle.trial.proofs.Alike.{same_refl}
use Rattle.trial.proofs.Stopped.{course}
use Rattle.trial.proofs.Outlasting.{outlasts}

-- parts that are equal everywhere are one
equal_parts : (p q : Parts) → Equal p q → p ≡ q
equal_parts p q e = λ i. record {
  figures = e.figures i;
  strength = λ d. e.strength d i;
  stiffness = λ d. e.stiffness d i;
  capacity = λ d. e.capacity d i;
  tells = λ k t. e.tells k t i;
}

-- one heat counts what is asked, up to the end of the course
heat_counts : (p : Parts) (n : ℕ) → n ≤ end p → (tally p (Heat n ∷ [])).count ≡ n
unfolding tallied
heat_counts p n h = ap (λ (y : Tally). y.count) (counted_is p start (Heat n)) ∙ omega arith

highest_of : (t : ℕ → ℕ) (n : ℕ) → record { step : ℕ; stands : step ≤ n; is : t step ≡ hottest t n }
unfolding hottest
highest_of t zero = record { step = zero; stands = omega arith; is = refl }
highest_of t (suc n) =
    let below = highest_of t n in
    ⊎_elim (λ (l : hottest t n < t (suc n)). record { step = suc n; stands = omega arith; is = omega arith })
    (λ (l : t (suc n) ≤ hottest t n). record { step = below.step; stands = omega (arith, below.stands); is = omega (arith, below.is) }) (cases_lt (hottest t n) (t (suc n)))

highest : (v : View) → Highest v (hottest_in v)
highest v =
    let here = highest_of v.temperature v.standing in
    record { step = here.step; stands = here.stands; is = here.is; most = hottest_least v.temperature v.standing }

lowest : (v : View) (o : Option ℕ) → Searched (λ k. fails v.parts v.load (v.temperature k)) (suc v.standing) o → Lowest v o
lowest v None none = λ k l. none k (omega arith)
lowest v (Some k) found = record { stands = omega (arith, found.within); here = found.holds; before = found.before }

module _ (calls : List Call) (v : View) (h : Follows v.parts calls v) where
  at_once : AsHeatedAtOnce v
  at_once q equal =
      let e = equal_parts v.parts q equal in
      let w = after_heat (new_view q) v.standing in
      let new = (goes_on [] (new_view q) w (Heat v.standing) (starts (new_view q) refl refl refl) (same_refl w)).1 in
      let standing : w.standing ≡ v.standing =
      new.standing ∙ (ap (λ p. (tally p (Heat v.standing ∷ [])).count) (sym e) ∙ heat_counts v.parts v.standing (made calls v h)) in
      record {
        standing = standing;
        temperature = λ k l. new.course k (omega (arith, standing)) ∙ (ap (λ p. entry p k) (sym e) ∙ sym (h.course k l));
      }

  carried : carried_cold v.parts v.load ≡ true
  carried = ap (carried_cold v.parts) h.load ∙ (tally_sound v.parts calls).carried

  module _ (fy : Factor v.parts.strength) (fz : Factor v.parts.stiffness) where
    -- a standing step fails if it is above the critical temperature
    above : (k : ℕ) → k ≤ v.standing → fails v.parts v.load (v.temperature k) ≡ ltb (1000 * critical_under v.parts v.load) (v.temperature k)
    above k l =
        let e = h.course k l in
        fails_above v.parts v.load fy fz (v.temperature k)
        (omega (arith, e, entry_least v.parts k)) (omega (arith, e, entry_most v.parts k (omega (arith, made calls v h))))

    verdict : Verdict v
    verdict =
        let parted = critical_in_parts v.parts v.load fy fz in
        record {
          hottest = highest v;
          first = lowest v _ (searched _ _);
          not_above_if_none_fails = λ none. hottest_most v.temperature v.standing _ (λ k l. ltb-false _ _ (sym (above k l) ∙ none k l));
          none_fails_if_not_above = λ least k l. above k l ∙ le-ltb _ _ (omega (arith, hottest_least v.temperature v.standing k l));
          critical = parted;
          never_19 = ⊎_elim (λ (l : critical_under v.parts v.load < 20). absurd (both_ways _ (parted.above 20 l (omega arith)) carried)) (λ (l : 20 ≤ critical_under v.parts v.load). l)
              (cases_lt (critical_under v.parts v.load) 20);
        }

-- by the parts that the sheet has
own : (p : Parts) (calls : List Call) (v : View) → Follows p calls v → Follows v.parts calls v
own p calls v h = subst (λ q. Follows q calls v) (sym h.parts) h

pub law_holds : (p : Parts) (calls : List Call) (v : View) → Factor v.parts.strength → Factor v.parts.stiffness → Follows p calls v → Law p calls v
law_holds p calls v fy fz h = record {
  course = course p;
  follows = h;
  at_once = at_once calls v (own p calls v h);
  verdict = verdict calls v (own p calls v h) fy fz;
  outlasts = λ q others w g better. outlasts calls others v w (own p calls v h) (own q others w g) better;
  outlasted = λ q others w g better. outlasts others calls w v (own q others w g) (own p calls v h) better;
}

-- whatever answers a call so and leaves this keeps the law
pub lawful_views : (v w : View) (c : Call) (r : Answer) → Factor w.parts.strength → Factor w.parts.stiffness → r ≡ reply v c → Same (after v c) w → Lawful v c r w
lawful_views v w c r fy fz told same p calls h =
    let on = goes_on calls v w c (own p calls v h) same in
    (told ∙ (on.0 ∙ ap (λ q. answer q (tally q calls) c) h.parts), law_holds p _ w fy fz (subst (λ q. Follows q (calls ++ (c ∷ [])) w) h.parts on.1))

-- what a call owes when it returns
abbrev Answered : View → Call → Answer → View → Type 0
Answered v c r w = record { answer : r ≡ reply v c; after : Same (after v c) w }

-- so for sheets over any steel and fire
module _ {S F : Type 0} (s : steel.Ghosts S) (f : fire.Ghosts F) (factors : (x : S) (r : Reduction) → Factor (s.factor x r)) where
  -- parts that are a sheet's have the factors of its steel
  factored : (member : Member) (its_steel : S) (its_fire : F) (p : Parts) → p ≡ parts_of s f member its_steel its_fire → Factor p.strength × Factor p.stiffness
  factored member its_steel its_fire p same = subst (λ q. Factor q.strength × Factor q.stiffness) (sym same) (factors its_steel Strength, factors its_steel Stiffness)

  pub law_starts : (member : Member) (its_steel : S) (its_fire : F) (v : View) → let p = parts_of s f member its_steel its_fire in Same (new_view p) v → Law p [] v
  law_starts member its_steel its_fire v new =
      let fs = factored member its_steel its_fire v.parts new.parts in
      law_holds _ [] v fs.0 fs.1 (subst (λ q. Follows q [] v) new.parts (starts v new.standing new.load (new.temperature 0 (omega arith))))

  pub lawful : (old : Sheet S F) (c : Call) (r : Answer) (w : View) → Answered (view_of s f old) c r w → Lawful (view_of s f old) c r w
  lawful old c r w done p calls h =
      let v = view_of s f old in
      let on = goes_on calls v w c (own p calls v h) done.after in
      let fs = factored old.member old.steel old.fire w.parts on.1.parts in
      lawful_views v w c r fs.0 fs.1 done.answer done.after p calls h
