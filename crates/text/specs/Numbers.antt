-- The numbers in a line.
use Rattle.std.specs.Prelude.{ℕ, cond, ◌&&◌, List, length, take, drop, ℤ, pos, neg_ℤ, Some, None, Option, ◌==◌, nat_le, nat_lt, slice_index}
use Rattle.std.specs.Option.{option_map}
use Rattle.std.specs.Str.Parse.{digits_value}
use Rattle.std.specs.Char.{is_ascii_digit}
use Rattle.std.specs.List.{prefix_len}

-- what is done with a value, if there is one
infixl 20 ◌then◌
abbrev pub ◌then◌ : {A B : Type 0} → Option A → (A → Option B) → Option B
◌then◌ None f = None
◌then◌ (Some x) f = f x

-- how many digits stand in front of a text
abbrev pub digits_in : List ℕ → ℕ
digits_in t = prefix_len is_ascii_digit t

-- the number in front of a text, of 1 to 10 digits, and what follows it
abbrev pub number : List ℕ → Option (ℕ × List ℕ)
number t = cond (nat_le 1 (digits_in t) && nat_le (digits_in t) 10) (Some (digits_value 10 (take (digits_in t) t), drop (digits_in t) t)) None

-- a value behind which nothing follows
abbrev pub whole : {A : Type 0} → A → List ℕ → Option A
whole x rest = cond (length rest == 0) (Some x) None

-- the number that a text is
abbrev pub lone : List ℕ → Option ℕ
lone t = number t then (λ x. whole x.0 x.1)

-- what follows a byte that a text begins with
abbrev pub after : ℕ → List ℕ → Option (List ℕ)
after b t = cond (nat_lt 0 (length t) && slice_index t 0 == b) (Some (drop 1 t)) None

-- a number that a minus may stand before
abbrev pub signed_by : Option (List ℕ) → List ℕ → Option ℤ
signed_by (Some digits) t = option_map (λ n. neg_ℤ (pos n)) (lone digits)
signed_by None t = option_map pos (lone t)

abbrev pub signed : List ℕ → Option ℤ
signed t = signed_by (after 45 t) t

-- a comma and a number, which more fields may follow
abbrev pub field : List ℕ → Option (ℕ × List ℕ)
field t = after 44 t then number

-- the last field, and the same where it may be negative
abbrev pub last_field : List ℕ → Option ℕ
last_field t = after 44 t then lone

abbrev pub last_signed_field : List ℕ → Option ℤ
last_signed_field t = after 44 t then signed
