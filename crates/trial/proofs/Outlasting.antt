-- Less load and factors nowhere lower: no step fails that did not fail before.
use Rattle.std.proofs.Common.{◌≡◌, ℕ, zero, suc, ◌+◌, ◌/◌, ◌<◌, ◌≤◌, Bool, true, List, Some, None, Ok, Err, Option, sym, refl, ap, ◌∙◌, ⊎_elim, arith, lit<}
use Rattle.std.proofs.lemmas.Bool.{cases_lt, cases_Bool, both_ways, not-true, not_from_false}
use Rattle.fires.specs.Meaning.{Reading}
use Rattle.member_check.specs.Check.{passes_at}
use Rattle.member_check.proofs.Falling.{carries_kept}
use Rattle.member_check.proofs.Search.{greatest_grows}
use Rattle.rounding.specs.Quotient.{ceil}
use Rattle.trial.specs.Heating.{heated_by}
use Rattle.trial.specs.Questions.{fails}
use Rattle.trial.specs.Course.{ahead, entry}
use Rattle.trial.specs.Views.{View}
use Rattle.trial.specs.Calls.{first_failing_in}
use Rattle.trial.specs.Law.{Follows, NoWorse, NoLater, Outlasts}
use Rattle.trial.specs.declared.call.Call.{Call}
use Rattle.trial.proofs.First.{Searched, searched, first_found}

-- where a test holds, the first place is no later
no_later : (p : ℕ → Bool) (b k : ℕ) (o : Option ℕ) → k < b → p k ≡ true → Searched p b o → NoLater k o
no_later p b k None h holds told = both_ways (p k) (told k h) holds
no_later p b k (Some j) h holds told =
    ⊎_elim (λ (l : k < j). absurd (both_ways (p k) (told.before k l) holds)) (λ (l : j ≤ k). l) (cases_lt k j)

module _ (cs ds : List Call) (v w : View) (h : Follows v.parts cs v) (g : Follows w.parts ds w) (better : NoWorse v w) where
  -- the factors have no part in the course
  same_heat : (t : ℕ) (r : Reading) → heated_by w.parts t r ≡ heated_by v.parts t r
  same_heat t (Ok q) = cc (better.figures, better.capacity (t / 1000))
  same_heat t (Err e) = refl

  same_course : (k : ℕ) → entry w.parts k ≡ entry v.parts k
  unfolding ahead
  same_course zero = refl
  same_course (suc k) =
      let e = same_course k in
      same_heat (entry w.parts k) (w.parts.tells (0 + k) (entry w.parts k)) ∙ cc (e, better.tells (0 + k) (entry w.parts k))

  same_step : (k : ℕ) → k ≤ v.standing → w.temperature k ≡ v.temperature k
  same_step k l = g.course k (omega (arith, better.standing)) ∙ (same_course k ∙ sym (h.course k l))

  -- what passes in the worse sheet passes in the better
  abbrev passes : View → ℕ → Bool
  passes u d = passes_at u.parts.figures u.parts.strength u.parts.stiffness u.load d

  passes_too : (d : ℕ) → passes w d ≡ true → passes v d ≡ true
  passes_too d e =
      carries_kept v.parts.figures w.load v.load (w.parts.strength d) (v.parts.strength d) (w.parts.stiffness d) (v.parts.stiffness d)
      better.load (better.strength d) (better.stiffness d) (ap (λ f. passes_at f w.parts.strength w.parts.stiffness w.load d) better.figures ∙ e)

  fails_too : (t : ℕ) → fails v.parts v.load t ≡ true → fails w.parts w.load t ≡ true
  fails_too t failed =
      ⊎_elim (λ e. absurd (both_ways _ (not-true _ failed) (passes_too (ceil t 1000) e))) (λ e. not_from_false _ e) (cases_Bool (passes w (ceil t 1000)))

  pub outlasts : Outlasts v w
  outlasts = record {
    later = λ k e. let f = first_found _ (suc v.standing) k e in
        no_later _ (suc w.standing) k (first_failing_in w) (omega (arith, f.within, better.standing))
        (ap (fails w.parts w.load) (same_step k (omega (arith, f.within))) ∙ fails_too (v.temperature k) f.holds) (searched _ (suc w.standing));
    critical = greatest_grows (passes w) (passes v) passes_too 20 1181 (lit< tt);
  }
