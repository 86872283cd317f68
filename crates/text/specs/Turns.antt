-- What a line is answered and what it changes. A sheet is known here only by what it says: so the same definitions serve for the sheet of a
-- session, and for a list of calls that no sheet has made.
use Rattle.std.specs.Prelude.{ℕ, Bool, true, false, cond, List, [], ◌∷◌, ◌++◌, is_some, Some, None, Ok, Err, Option}
use Rattle.std.specs.List.{flat_map}
use Rattle.member_check.specs.Members.{member_fault}
use Rattle.member_check.specs.declared.input.Figures.{Figures}
use Rattle.fires.specs.Gauge.{record_fault, word_bytes}
use Rattle.trial.specs.Parts.{Parts}
use Rattle.trial.specs.declared.call.Answer.{Answer}
use Rattle.trial.specs.declared.call.Answer.TheVariants.{Heated, Done, Standing, Temperature, Hottest, CriticalTemperature, FirstFailing}
use Rattle.trial.specs.declared.call.Call.{Call}
use Rattle.trial.specs.declared.call.Call.TheVariants.{Ask}
use Rattle.trial.specs.declared.call.Question.TheVariants.{Standing as HowMany, TemperatureAt, CriticalTemperature as Limit, FirstFailing as First}
use Rattle.text.specs.Spoken.{fields_of, letter_of, spoken, told}
use Rattle.text.specs.Trials.{parts_in}
use Rattle.text.specs.declared.entry.Entry.{Entry}
use Rattle.text.specs.declared.entry.Entry.TheVariants.{Member, Reading, Call as Calls, Question}
use Rattle.text.specs.declared.stage.Stage.{Stage}
use Rattle.text.specs.declared.stage.Stage.TheVariants.{MemberAwaited, Readings, Open}

-- sheets by what they say: a new one, the answer to a call, the steps that stand, and what becomes of it by a call
pub record Sheets (V : Type 0) : Type 0 where
  pub new : Parts → V
  pub says : V → Call → Answer
  pub stands : V → ℕ
  pub then : V → Call → V

-- what lines have led to: a member is awaited; a member's figures and the bytes of its record so far; an open sheet
pub data State (V : Type 0) : Type 0 where
  awaiting : State V
  reading : Figures → List ℕ → State V
  opened : V → State V

abbrev pub stage_of : {V : Type 0} → State V → Stage
stage_of awaiting = MemberAwaited
stage_of (reading figures bytes) = Readings
stage_of (opened v) = Open

-- the number of a refusal, 0 if there is none
abbrev pub code_of : Option (ℕ × List ℕ) → ℕ
code_of None = 0
code_of (Some r) = r.0

abbrev pub is_refused : Answer → Bool
is_refused (Done (Err r)) = true
is_refused (Done (Ok x)) = false
is_refused (Heated made stop) = false
is_refused (Standing n) = false
is_refused (Temperature t) = false
is_refused (Hottest t) = false
is_refused (CriticalTemperature d) = false
is_refused (FirstFailing k) = false

-- an answer's bytes, and the state after it
abbrev pub Turn : Type 0 → Type 0
Turn V = List ℕ × State V

-- a line that is not in place: nothing is said, nothing changes
abbrev pub idle : {V : Type 0} → State V → Turn V
idle h = ([], h)

-- M: refused or accepted
abbrev pub member_turn : {V : Type 0} → Figures → Turn V
member_turn figures = (spoken 77 (told (code_of (member_fault figures))), cond (is_some (member_fault figures)) awaiting (reading figures []))

-- R: kept in silence, or refused
abbrev pub reading_turn : {V : Type 0} → Figures → List ℕ → List ℕ → Turn V
reading_turn figures bytes word =
    cond (is_some (record_fault (bytes ++ word))) (spoken 82 (told (code_of (record_fault (bytes ++ word)))), reading figures bytes) ([], reading figures (bytes ++ word))

-- E: a bad line with its number
abbrev pub bad_line : ℕ → List ℕ
bad_line line = spoken 69 (told 17 ++ told line)

module _ {V : Type 0} (s : Sheets V) where
  -- L, H and B, by the answer of a sheet
  abbrev pub answer_to : V → Call → List ℕ
  answer_to v c = spoken (letter_of c) (fields_of (s.says v c))

  -- Q: steps standing, the last step's temperature, critical temperature, first failing step
  abbrev pub summary : V → List ℕ
  summary v =
      spoken 81 (flat_map fields_of (s.says v (Ask HowMany) ∷ s.says v (Ask (TemperatureAt (s.stands v))) ∷ s.says v (Ask Limit) ∷ s.says v (Ask First) ∷ []))

  -- a call opens the sheet, unless it is refused
  abbrev pub first_turn : Figures → List ℕ → Call → Turn V
  first_turn figures bytes c = (
    answer_to (s.new (parts_in figures bytes)) c,
    cond (is_refused (s.says (s.new (parts_in figures bytes)) c)) (reading figures bytes) (opened (s.then (s.new (parts_in figures bytes)) c)),
  )

  -- what an entry is answered and leads to
  abbrev pub entry_turn : State V → Entry → Turn V
  entry_turn h (Member figures) = member_turn figures
  entry_turn awaiting (Reading w) = idle awaiting
  entry_turn (reading figures bytes) (Reading w) = reading_turn figures bytes (word_bytes w)
  entry_turn (opened v) (Reading w) = idle (opened v)
  entry_turn awaiting (Calls c) = idle awaiting
  entry_turn (reading figures bytes) (Calls c) = first_turn figures bytes c
  entry_turn (opened v) (Calls c) = (answer_to v c, opened (s.then v c))
  entry_turn awaiting Question = idle awaiting
  entry_turn (reading figures bytes) Question = (summary (s.new (parts_in figures bytes)), opened (s.new (parts_in figures bytes)))
  entry_turn (opened v) Question = (summary v, opened v)

  -- the same of a line, which may be bad
  abbrev pub line_turn : State V → ℕ → Option Entry → Turn V
  line_turn h line (Some e) = entry_turn h e
  line_turn h line None = (bad_line line, h)
