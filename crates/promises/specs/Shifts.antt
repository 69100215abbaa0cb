-- An accepted trace as one shift of several: its bill, and the figures that demand 3 gives to a name, listed or not.
use Rattle.std.specs.Prelude.{List, [], ◌∷◌, ℕ}
use Rattle.bill.specs.Reading.{Bill}
use Rattle.shifts.specs.Sum.{sum}
use Rattle.rules.specs.Event.{Event}
use Rattle.rules.specs.Sheet.{held_ticks, idle_ticks, unknown_ticks, charge}
use Rattle.rules.specs.Lines.{events_of}
use Rattle.rules.specs.Trace.{place_of, taken_lines}
use Rattle.promises.specs.Sheets.{sheet_of}

-- the events of the lines taken
abbrev pub history_of : List (List ℕ) → List Event
history_of ls = events_of (taken_lines [] ls)

-- their time scale and their sheet
abbrev pub bill_of : List (List ℕ) → Bill
bill_of ls = record { scale = (place_of (taken_lines [] ls)).scale; sheet = sheet_of ls }

-- the sum of two
abbrev pub both_of : List (List ℕ) → List (List ℕ) → Bill
both_of ls ms = sum (bill_of ls) (bill_of ms)

-- a name's figures, as a core and as a process
abbrev pub core_figures : List Event → List ℕ → List ℕ
core_figures h c = held_ticks c h ∷ idle_ticks c h ∷ unknown_ticks c h ∷ []

abbrev pub process_figures : List Event → List ℕ → List ℕ
process_figures h p = charge p h ∷ []
