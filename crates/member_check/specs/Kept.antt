-- What a check keeps of the utilisations, so that all fits 64 bits. The rules themselves are in Check.
use Rattle.std.specs.Prelude.{ℕ, cond, Some, None, Option, nat_le}
use Rattle.member_check.specs.Check.{utilisation}

-- 10,001, above every factor, if the load is above the resistance
abbrev pub kept : ℕ → ℕ → ℕ
kept load resistance = cond (nat_le load resistance) (utilisation load resistance) 10001

-- the same over an ideal buckling load
abbrev pub kept_buckling : ℕ → Option ℕ → ℕ
kept_buckling load None = 0
kept_buckling load (Some k) = kept load k
