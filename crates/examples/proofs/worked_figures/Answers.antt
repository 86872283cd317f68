use Rattle.std.proofs.Common.{◌≡◌, ℕ, ◌+◌, ◌≤◌, true, false, Some, None, Option, refl, arith}
use Rattle.steels.specs.Carbon.{carbon_factor}
use Rattle.steels.specs.declared.table.Reduction.TheVariants.{Stiffness, Strength}
use Rattle.steels.specs.CarbonRules.{carbon_factor_law}
use Rattle.member_check.proofs.Search.{critical_at}
use Rattle.member_check.specs.Check.{passes_at}
use Rattle.examples.specs.Worked.{critical, s235}
use Rattle.examples.proofs.worked_figures.Goals as goal

-- passing at a degree and not at the next one tells the critical temperature
parted : (k : Option ℕ) (load c : ℕ) → 20 ≤ c + 1 → c ≤ 1200 → passes_at (s235 k) (carbon_factor Strength) (carbon_factor Stiffness) load c ≡ true → passes_at (s235 k) (carbon_factor Strength) (carbon_factor Stiffness) load (c + 1) ≡ false → critical k load ≡ c
parted k load c least most here above = critical_at (s235 k) (carbon_factor Strength) (carbon_factor Stiffness) load (carbon_factor_law Strength) (carbon_factor_law Stiffness) c least most (λ _. here) (λ _. above)

pub returns : goal.returns
returns c = (refl, refl, refl, refl, refl, refl, refl, refl, refl, refl, refl, parted None 500000 590 (omega arith) (omega arith) refl refl, parted None 1000000 400 (omega arith) (omega arith) refl refl, refl, parted (Some 2000000) 300000 569 (omega arith) (omega arith) refl refl, refl)
