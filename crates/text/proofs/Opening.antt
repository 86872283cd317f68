-- The first call of a new sheet.
use Rattle.std.proofs.Common.{◌≡◌, [], ◌∷◌, sym, refl, ◌∙◌, arith}
use Rattle.trial.specs.Calls.{after, reply}
use Rattle.trial.specs.Law.{Follows}
use Rattle.trial.specs.Parts.{Parts}
use Rattle.trial.specs.Tally.{answer, tally}
use Rattle.trial.specs.Views.{Same, View, new_view}
use Rattle.trial.specs.declared.call.Answer.{Answer}
use Rattle.trial.specs.declared.call.Call.{Call}
use Rattle.trial.proofs.Alike.{same_refl}
use Rattle.trial.proofs.Runs.{goes_on, starts}

module _ (p : Parts) (c : Call) where
  tallied_so : (reply (new_view p) c ≡ answer p (tally p []) c) × Follows p (c ∷ []) (after (new_view p) c)
  tallied_so = goes_on [] (new_view p) (after (new_view p) c) c (starts (new_view p) refl refl refl) (same_refl (after (new_view p) c))

  -- the tally's answer is the new sheet's
  pub says_new : (r : Answer) → r ≡ answer p (tally p []) c → r ≡ reply (new_view p) c
  says_new r e = e ∙ sym tallied_so.0

  -- a sheet that follows the call is the new sheet after it
  pub after_new : (w : View) → Follows p (c ∷ []) w → Same (after (new_view p) c) w
  after_new w h =
      let on = tallied_so.1 in
      record {
        parts = h.parts ∙ sym on.parts;
        load = h.load ∙ sym on.load;
        standing = h.standing ∙ sym on.standing;
        temperature = λ k l. h.course k (omega (arith, h.standing, on.standing)) ∙ sym (on.course k l);
      }
