-- Which figures make a member, and what a member's figures are.
use Rattle.std.specs.Prelude.{◌≡◌, ℕ, ◌≤◌, Bool, true, false, cond, not, ◌&&◌, [], Some, None, Ok, Err, Option, Result, nat_le}
use Rattle.std.specs.Option.{unwrap_or}
use Rattle.member_check.specs.declared.input.Figures.{Figures}
use Rattle.member_check.specs.declared.input.Refusal.{Refusal}
use Rattle.member_check.specs.declared.input.Refusal.TheVariants.{SectionFactor, Seconds, YieldStrength, ColdStrength}
use Rattle.member_check.specs.declared.checked.Member.{Member}
use Rattle.member_check.specs.Refusal.{Refused, refused}

-- the figures that a member was made from
abbrev pub figures_of : Member → Figures
figures_of m = m.given

-- x is from low to high
abbrev pub in_range : ℕ → ℕ → ℕ → Bool
in_range low high x = nat_le low x && nat_le x high

-- the cause of each refusal: the figure is outside its range; a buckling load only if it is given
abbrev pub cause : Refusal → Figures → Bool
cause SectionFactor f = not (in_range 10 500 f.section_factor)
cause Seconds f = not (in_range 1 5 f.seconds)
cause YieldStrength f = not (in_range 200 500 f.yield_strength)
cause ColdStrength f = not (in_range 1 1000000000 f.cold_strength && in_range 1 1000000000 (unwrap_or f.buckling_load 1))

-- a member has the figures given, and no cause holds; the cause of a refusal holds, and none of a smaller number
abbrev pub Judged : Figures → Result Member Refusal → Type 0
Judged f (Ok m) = (figures_of m ≡ f) × ((e : Refusal) → cause e f ≡ false)
Judged f (Err e) = (cause e f ≡ true) × ((other : Refusal) → cause other f ≡ true → (refused e).0 ≤ (refused other).0)

-- the refusal that figures meet, if any
abbrev pub member_fault : Figures → Option Refused
member_fault f =
    cond (cause SectionFactor f) (Some (1, []))
    (cond (cause Seconds f) (Some (2, []))
    (cond (cause YieldStrength f) (Some (3, []))
    (cond (cause ColdStrength f) (Some (4, [])) None)))
