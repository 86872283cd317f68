-- The lines that are in place, and what they say.
use Rattle.std.specs.Prelude.{ℕ, ◌^◌, cond, ◌&&◌, List, length, drop, ℤ, Some, None, Option, ◌==◌, nat_le, nat_lt, slice_index}
use Rattle.std.specs.Int.Signed.{mag}
use Rattle.std.specs.Option.{option_map}
use Rattle.member_check.specs.declared.input.Figures.{Figures}
use Rattle.trial.specs.declared.call.Call.TheVariants.{Heat, Back, Load}
use Rattle.text.specs.Numbers.{field, last_field, last_signed_field, whole, ◌then◌}
use Rattle.text.specs.declared.entry.Entry.{Entry}
use Rattle.text.specs.declared.entry.Entry.TheVariants.{Member, Reading, Call, Question}
use Rattle.text.specs.declared.stage.Stage.{Stage}
use Rattle.text.specs.declared.stage.Stage.TheVariants.{MemberAwaited, Readings, Open}

-- an ideal buckling load of 0 stands for none
abbrev pub unless_zero : ℕ → Option ℕ
unless_zero n = cond (n == 0) None (Some n)

-- five fields: section factor, seconds, yield strength, cold strength, ideal buckling load
abbrev pub figures_in : List ℕ → Option Figures
figures_in t =
    field t then (λ a. field a.1 then (λ b. field b.1 then (λ c. field c.1 then (λ d. option_map (λ k. record {
      section_factor = a.0;
      seconds = b.0;
      yield_strength = c.0;
      cold_strength = d.0;
      buckling_load = unless_zero k;
    }) (last_field d.1)))))

-- one field: a word of 16 signed bits
abbrev pub word_in : List ℕ → Option ℤ
word_in t = last_signed_field t then (λ w. cond (nat_lt (mag w) 32768) (Some w) None)

-- one field: a number of steps of 32 bits
abbrev pub steps_in : List ℕ → Option ℕ
steps_in t = last_field t then (λ n. cond (nat_lt n (2 ^ 32)) (Some n) None)

-- L, H, B and Q with their fields
abbrev pub call_in : ℕ → List ℕ → Option Entry
call_in letter t =
    cond (letter == 76) (option_map (λ n. Call (Load n)) (last_field t))
    (cond (letter == 72) (option_map (λ n. Call (Heat n)) (steps_in t))
    (cond (letter == 66) (option_map (λ n. Call (Back n)) (steps_in t))
    (cond (letter == 81) (whole Question t) None)))

-- M comes first, then all R, then the others
abbrev pub entry_in : Stage → ℕ → List ℕ → Option Entry
entry_in MemberAwaited letter t = cond (letter == 77) (option_map Member (figures_in t)) None
entry_in Readings letter t = cond (letter == 82) (option_map Reading (word_in t)) (call_in letter t)
entry_in Open letter t = call_in letter t

-- a line of 1 to 80 bytes that is in place and in form
abbrev pub entry_of : Stage → List ℕ → Option Entry
entry_of stage line = cond (nat_le 1 (length line) && nat_le (length line) 80) (entry_in stage (slice_index line 0) (drop 1 line)) None
