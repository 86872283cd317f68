-- A sheet as contracts see it.
use Rattle.std.specs.Prelude.{◌≡◌, ℕ, ◌≤◌}
use Rattle.steels.specs.declared.meaning.Steel as steel
use Rattle.steels.specs.declared.table.Reduction.TheVariants.{Stiffness, Strength}
use Rattle.fires.specs.declared.meaning.Fire as fire
use Rattle.member_check.specs.Members.{figures_of}
use Rattle.member_check.specs.declared.checked.Member.{Member}
use Rattle.trial.specs.Parts.{Parts}
use Rattle.trial.specs.Columns.{steps_of, temperature_of}
use Rattle.trial.specs.declared.sheet.Sheet.{Sheet}

-- its parts by their meaning, its load, how many steps stand (step 0 not counted), and the temperature of each step
pub record View : Type 0 where
  pub parts : Parts
  pub load : ℕ
  pub standing : ℕ
  pub temperature : ℕ → ℕ

abbrev pub parts_of : {S F : Type 0} → steel.Ghosts S → fire.Ghosts F → Member → S → F → Parts
parts_of s f member its_steel its_fire = record {
  figures = figures_of member;
  strength = s.factor its_steel Strength;
  stiffness = s.factor its_steel Stiffness;
  capacity = s.capacity its_steel;
  tells = f.tells its_fire;
}

abbrev pub view_of : {S F : Type 0} → steel.Ghosts S → fire.Ghosts F → Sheet S F → View
view_of s f sheet = record {
  parts = parts_of s f sheet.member sheet.steel sheet.fire;
  load = sheet.load;
  standing = steps_of sheet.column;
  temperature = temperature_of sheet.column;
}

-- a new sheet: no load, and step 0 alone, at 20,000 millidegrees
abbrev pub new_view : Parts → View
new_view p = record { parts = p; load = 0; standing = 0; temperature = λ k. 20000 }

-- the temperature of the last standing step
abbrev pub last_of : View → ℕ
last_of v = v.temperature v.standing

-- the same, but for temperatures after the last standing step
pub record Same (v w : View) : Type 0 where
  pub parts : w.parts ≡ v.parts
  pub load : w.load ≡ v.load
  pub standing : w.standing ≡ v.standing
  pub temperature : (k : ℕ) → k ≤ v.standing → w.temperature k ≡ v.temperature k
