-- What a trial is about, by its meaning.
use Rattle.std.specs.Prelude.{ℕ}
use Rattle.member_check.specs.declared.input.Figures.{Figures}
use Rattle.fires.specs.Meaning.{Reading}

-- a member by its figures, a steel by its factors and heat capacity at each degree, a fire by what it tells of a step and a temperature
pub record Parts : Type 0 where
  pub figures : Figures
  pub strength : ℕ → ℕ
  pub stiffness : ℕ → ℕ
  pub capacity : ℕ → ℕ
  pub tells : ℕ → ℕ → Reading
