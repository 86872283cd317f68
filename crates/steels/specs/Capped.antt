-- A steel that carries nothing from a cap degree on.
use Rattle.std.specs.Prelude.{ℕ, cond, ◌&&◌, [], Some, None, Option, nat_le, nat_lt}
use Rattle.steels.specs.declared.cap.Cap.{Cap}
use Rattle.steels.specs.declared.cap.capped.Capped.{Capped}
use Rattle.steels.specs.Refusal.{Refused}

-- a cap lies from 21 to 1,200
abbrev pub cap_fault : ℕ → Option Refused
cap_fault d = cond (nat_le 21 d && nat_le d 1200) None (Some (10, []))

-- from the cap on a factor is 0
abbrev pub capped_factor : ℕ → (ℕ → ℕ) → ℕ → ℕ
capped_factor cap f d = cond (nat_lt d cap) (f d) 0

-- views: the degree of a cap, the cap of a capped steel and the steel below it
abbrev pub cap_degree : Cap → ℕ
cap_degree c = c.degree

abbrev pub cap_of : {S : Type 0} → Capped S → Cap
cap_of s = s.cap

abbrev pub steel_below : {S : Type 0} → Capped S → S
steel_below s = s.below
