-- What is refused here: the number of each refusal, and the values that go with it.
use Rattle.std.specs.Prelude.{ℕ, List, []}
use Rattle.member_check.specs.declared.input.Refusal.{Refusal}
use Rattle.member_check.specs.declared.input.Refusal.TheVariants.{SectionFactor, Seconds, YieldStrength, ColdStrength}

-- a number and its values, of which there are none here
abbrev pub Refused : Type 0
Refused = ℕ × List ℕ

abbrev pub refused : Refusal → Refused
refused SectionFactor = (1, [])
refused Seconds = (2, [])
refused YieldStrength = (3, [])
refused ColdStrength = (4, [])
