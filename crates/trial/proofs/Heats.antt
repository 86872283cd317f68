-- A heat on its way, and what it comes to.
use Rattle.std.proofs.Common.{below_more, ◌≡◌, ℕ, suc, ◌+◌, ◌-◌, ◌<◌, ◌≤◌, false, is_some, Some, None, Option, sym, refl, ap, ◌∙◌, ⊎_elim, arith}
use Rattle.std.proofs.lemmas.Bool.Decides.{nat_tests}
use Rattle.std.proofs.lemmas.Bool.{both_ways, cases_lt}
use Rattle.trial.specs.Parts.{Parts}
use Rattle.trial.specs.Course.{ahead, stop_ahead}
use Rattle.trial.specs.Calls.{after_heat, heat_made, heat_stop, next_end, next_stop}
use Rattle.trial.specs.Heating.{stepped, stop_of}
use Rattle.trial.specs.Views.{Same, View, last_of}
use Rattle.trial.specs.declared.stop.Stop.{Stop}
use Rattle.trial.proofs.Courses.{full, reach_at, reach_least}

-- from v, `made` steps along the course that goes on from its last step, none of them stopped
pub record Heating (v : View) (made : ℕ) (w : View) : Type 0 where
  pub parts : w.parts ≡ v.parts
  pub load : w.load ≡ v.load
  pub standing : w.standing ≡ v.standing + made
  pub few : w.standing ≤ 4096
  pub kept : (k : ℕ) → k ≤ v.standing → w.temperature k ≡ v.temperature k
  pub new : (j : ℕ) → j ≤ made → w.temperature (v.standing + j) ≡ ahead v.parts v.standing (last_of v) j
  pub goes : (j : ℕ) → j < made → is_some (stop_ahead v.parts v.standing (last_of v) j) ≡ false

-- w is v with one step more
pub record Added (v : View) (t : ℕ) (w : View) : Type 0 where
  pub parts : w.parts ≡ v.parts
  pub load : w.load ≡ v.load
  pub standing : w.standing ≡ v.standing + 1
  pub new : w.temperature (v.standing + 1) ≡ t
  pub kept : (k : ℕ) → k ≤ v.standing → w.temperature k ≡ v.temperature k

-- what a heat owes when it returns
abbrev pub Heats : View → ℕ → ℕ → Option Stop → View → Type 0
Heats v asked made stop w = record { made : made ≡ heat_made v asked; stop : stop ≡ heat_stop v asked; after : Same (after_heat v asked) w }

pub heating_starts : (v : View) → v.standing ≤ 4096 → Heating v 0 v
unfolding ahead
heating_starts v few = record {
  parts = refl;
  load = refl;
  standing = omega arith;
  few = few;
  kept = λ k h. refl;
  new = λ j h. let e : j ≡ 0 = omega arith in rw e (ap v.temperature (omega arith));
  goes = λ j h. absurd (omega arith);
}

not_full : (p : Parts) (k t : ℕ) → stop_of p k t ≡ None → k < 4096
not_full p k t free = ⊎_elim (λ (l : k < 4096). l) (λ (u : 4096 ≤ k). absurd (both_ways _ (ap is_some free) (full p k t u))) (cases_lt k 4096)

module _ (v w : View) (made : ℕ) (h : Heating v made w) where
  -- whatever is asked of the last step made is asked of the course there
  at_last : (A : Type 0) (f : Parts → ℕ → ℕ → A) → f w.parts w.standing (last_of w) ≡ f v.parts (v.standing + made) (ahead v.parts v.standing (last_of v) made)
  at_last A f =
      let parts = h.parts in
      let standing = h.standing in
      let last = h.new made (omega arith) in
      cc

  pub heating_more : (t : ℕ) (x : View) → None ≡ next_stop w → t ≡ next_end w → Added w t x → Heating v (made + 1) x
  unfolding ahead
  heating_more t x free rule more = record {
    parts = more.parts ∙ h.parts;
    load = more.load ∙ h.load;
    standing = omega (arith, more.standing, h.standing);
    few = omega (arith, more.standing, not_full w.parts w.standing (last_of w) (sym free));
    kept = λ k le. more.kept k (omega (arith, h.standing)) ∙ h.kept k le;
    new = λ j le. ⊎_elim (λ (l : j < made + 1). more.kept (v.standing + j) (omega (arith, h.standing)) ∙ h.new j (omega arith))
        (λ (u : made + 1 ≤ j).
        let e : j ≡ suc made = omega arith in
        let place : v.standing + j ≡ w.standing + 1 = omega (arith, h.standing) in
        ap x.temperature place ∙ (more.new ∙ (rule ∙ (at_last ℕ stepped ∙ rw e refl))))
        (cases_lt j (made + 1));
    goes = below_more _ _ h.goes (ap is_some (sym (at_last (Option Stop) stop_of) ∙ sym free));
  }

  same_as_after : (asked : ℕ) → made ≡ heat_made v asked → Same (after_heat v asked) w
  same_as_after asked e = record {
    parts = h.parts;
    load = h.load;
    standing = h.standing ∙ ap (λ m. v.standing + m) e;
    temperature = λ k le. grind (arith, nat_tests, h.kept k, h.new (k - v.standing));
  }

  -- nothing stopped it: all steps asked for are made
  pub heating_done : (asked : ℕ) → made ≡ asked → v.standing ≤ 4096 → Heats v asked asked None w
  heating_done asked e few =
      let fits = reach_least v.parts v.standing (last_of v) few made h.goes in
      record {
        made = omega arith;
        stop = grind (arith, nat_tests);
        after = same_as_after asked (omega arith);
      }

  -- the next step was stopped
  pub heating_stopped : (asked : ℕ) (stop : Stop) → made < asked → Some stop ≡ next_stop w → Heats v asked made (Some stop) w
  heating_stopped asked stop short stops =
      let here = sym (at_last (Option Stop) stop_of) ∙ sym stops in
      let ends = reach_at v.parts v.standing (last_of v) made (omega (arith, h.few, h.standing)) h.goes (ap is_some here) in
      let some : made ≡ heat_made v asked = omega (arith, ends) in
      record {
        made = some;
        stop = grind (arith, nat_tests);
        after = same_as_after asked some;
      }
