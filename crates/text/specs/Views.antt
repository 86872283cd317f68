-- A session as contracts see it.
use Rattle.std.specs.Prelude.{◌≡◌, ℕ, ◌+◌, ◌-◌, ◌^◌, min, List}
use Rattle.member_check.specs.Members.{figures_of}
use Rattle.fires.specs.Gauge.{bytes_of}
use Rattle.fires.specs.contracts.gauge.reading.GaugeRecordFire.TheImpl as gauge
use Rattle.fires.specs.declared.gauge.GaugeRecord.{GaugeRecord}
use Rattle.steels.specs.contracts.carbon.CarbonSteel.TheImpl as carbon
use Rattle.steels.specs.declared.carbon.Carbon.{Carbon}
use Rattle.trial.specs.Calls as calls
use Rattle.trial.specs.Views.{Same, View, new_view, view_of}
use Rattle.trial.specs.declared.sheet.Sheet.{Sheet}
use Rattle.text.specs.Entries.{entry_of}
use Rattle.text.specs.Turns.{Sheets, State, Turn, awaiting, line_turn, opened, reading, stage_of}
use Rattle.text.specs.declared.session.Session.{Session}
use Rattle.text.specs.declared.session.State.{State as Held}
use Rattle.text.specs.declared.session.State.TheVariants.{MemberAwaited, Readings, Open}

-- the sheet of a trial
abbrev pub seen : Sheet Carbon GaugeRecord → View
seen sheet = view_of carbon.ghosts gauge.ghosts sheet

-- sheets as they are seen
abbrev pub views : Sheets View
views = record { new = new_view; says = calls.reply; stands = λ v. v.standing; then = calls.after }

-- what its lines have led to, and how many there were
abbrev pub state_by : Held → State View
state_by MemberAwaited = awaiting
state_by (Readings member gauges) = reading (figures_of member) (bytes_of gauges)
state_by (Open sheet) = opened (seen sheet)

abbrev pub state_of : Session → State View
state_of s = state_by s.state

abbrev pub lines_of : Session → ℕ
lines_of s = s.lines

-- the number of the next line; 2^64 - 1 is the last
abbrev pub next_line : ℕ → ℕ
next_line n = min (n + 1) (2 ^ 64 - 1)

-- the same, but for what the store of a sheet holds after its last standing step
abbrev pub SameState : State View → State View → Type 0
SameState awaiting h = h ≡ awaiting
SameState (reading figures bytes) h = h ≡ reading figures bytes
SameState (opened v) h = (w : View) × (h ≡ opened w) × Same v w

-- what a session answers to a line, and what it leads to
abbrev pub turn_of : Session → List ℕ → Turn View
turn_of s line = line_turn views (state_of s) (next_line (lines_of s)) (entry_of (stage_of (state_of s)) line)
