-- The course ends where the first step is stopped, by the smallest cause that holds.
use Rattle.std.proofs.Common.{◌≡◌, ℕ, ◌+◌, ◌≤◌, Bool, true, false, cond, ◌⊎◌, is_some, Some, None, Option, refl, ap, subst, inl, inr, ⊎_elim, zero-add, add-one, lit≤}
use Rattle.std.proofs.lemmas.Bool.{both_ways}
use Rattle.trial.specs.Parts.{Parts}
use Rattle.trial.specs.Heating.{cause, smallest_of, stepped, stop_of}
use Rattle.trial.specs.Course.{ahead, end, entry, stop_code}
use Rattle.trial.specs.Law.{Course, StoppedBy}
use Rattle.trial.specs.Refusal.{stop_number}
use Rattle.trial.specs.declared.stop.Stop.{Stop}
use Rattle.trial.specs.declared.stop.Stop.TheVariants.{SheetFull, FireEnded, NoReading, TooHot}
use Rattle.trial.proofs.Courses.{end_is}

-- what is picked of the causes that hold
abbrev Picked : (Stop → Bool) → Option Stop → Type 0
Picked holds None = (stop : Stop) → holds stop ≡ false
Picked holds (Some e) = StoppedBy holds (stop_number e)

module _ (holds : Stop → Bool) where
  -- each cause fails, or has no smaller number
  least_of : (n : ℕ) → (holds SheetFull ≡ false) ⊎ (n ≤ 13) → (holds FireEnded ≡ false) ⊎ (n ≤ 14) → (holds NoReading ≡ false) ⊎ (n ≤ 15) → n ≤ 16
      → (other : Stop) → holds other ≡ true → n ≤ stop_number other
  least_of n a b c d SheetFull h = ⊎_elim (λ fails. absurd (both_ways _ fails h)) (λ l. l) a
  least_of n a b c d FireEnded h = ⊎_elim (λ fails. absurd (both_ways _ fails h)) (λ l. l) b
  least_of n a b c d NoReading h = ⊎_elim (λ fails. absurd (both_ways _ fails h)) (λ l. l) c
  least_of n a b c d TooHot h = d

  picked_from : (a b c d : Bool) → holds SheetFull ≡ a → holds FireEnded ≡ b → holds NoReading ≡ c → holds TooHot ≡ d
      → Picked holds (cond a (Some SheetFull) (cond b (Some FireEnded) (cond c (Some NoReading) (cond d (Some TooHot) None))))
  picked_from true b c d full ended missing hot =
      record { stop = SheetFull; is = refl; holds_here = full; smallest = least_of 13 (inr (lit≤ tt)) (inr (lit≤ tt)) (inr (lit≤ tt)) (lit≤ tt) }
  picked_from false true c d full ended missing hot =
      record { stop = FireEnded; is = refl; holds_here = ended; smallest = least_of 14 (inl full) (inr (lit≤ tt)) (inr (lit≤ tt)) (lit≤ tt) }
  picked_from false false true d full ended missing hot =
      record { stop = NoReading; is = refl; holds_here = missing; smallest = least_of 15 (inl full) (inl ended) (inr (lit≤ tt)) (lit≤ tt) }
  picked_from false false false true full ended missing hot =
      record { stop = TooHot; is = refl; holds_here = hot; smallest = least_of 16 (inl full) (inl ended) (inl missing) (lit≤ tt) }
  picked_from false false false false full ended missing hot = none
    where
      none : (stop : Stop) → holds stop ≡ false
      none SheetFull = full
      none FireEnded = ended
      none NoReading = missing
      none TooHot = hot

  picked : Picked holds (smallest_of holds)
  picked = picked_from (holds SheetFull) (holds FireEnded) (holds NoReading) (holds TooHot) refl refl refl refl

-- nothing stops a step exactly where no cause holds
none_holds : (holds : Stop → Bool) (o : Option Stop) → Picked holds o → is_some o ≡ false → (stop : Stop) → holds stop ≡ false
none_holds holds None fails e = fails
none_holds holds (Some s) some e = absurd (both_ways true e refl)

one_holds : (holds : Stop → Bool) (o : Option Stop) → Picked holds o → is_some o ≡ true → StoppedBy holds (stop_code o)
one_holds holds None fails e = absurd (both_ways false refl e)
one_holds holds (Some s) some e = some

-- the same of a step, whose number may be written in another way
module _ (p : Parts) (j k t : ℕ) (same : j ≡ k) where
  free_at : is_some (stop_of p j t) ≡ false → (stop : Stop) → cause p k t stop ≡ false
  free_at none = subst (λ i. (stop : Stop) → cause p i t stop ≡ false) same (none_holds (cause p j t) _ (picked (cause p j t)) none)

  stopped_at : is_some (stop_of p j t) ≡ true → StoppedBy (cause p k t) (stop_code (stop_of p j t))
  stopped_at some = subst (λ i. StoppedBy (cause p i t) (stop_code (stop_of p j t))) same (one_holds (cause p j t) _ (picked (cause p j t)) some)

pub course : (p : Parts) → Course p
unfolding ahead
course p = record {
  starts = refl;
  goes = λ k. rw add-one (ap (λ j. stepped p j (entry p k)) (zero-add k));
  unstopped = λ k l. free_at p (0 + k) k (entry p k) (zero-add k) ((end_is p).goes k l);
  ends = stopped_at p (0 + end p) (end p) (entry p (end p)) (zero-add (end p)) (end_is p).stops;
}
