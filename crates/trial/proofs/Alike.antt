-- Sheets that are the same up to their last standing step.
use Rattle.std.proofs.Common.{refl, ◌∙◌, arith}
use Rattle.trial.specs.Views.{Same, View}

pub same_refl : (v : View) → Same v v
same_refl v = record { parts = refl; load = refl; standing = refl; temperature = λ k h. refl }

pub same_trans : (u v w : View) → Same u v → Same v w → Same u w
same_trans u v w a b = record {
  parts = b.parts ∙ a.parts;
  load = b.load ∙ a.load;
  standing = b.standing ∙ a.standing;
  temperature = λ k h. b.temperature k (omega (arith, a.standing)) ∙ a.temperature k h;
}
