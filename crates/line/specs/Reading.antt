-- What a line is, from its bytes alone, and document 01's number for each reading.
use Rattle.std.specs.Prelude.{ℕ, Bool, true, false, not, ◌||◌, cond, List, [], ◌∷◌, eqb, ltb, length, None, Some, Option}
use Rattle.fields.specs.Part.{part_from, commas_of}
use Rattle.scan.specs.Ahead.{line_from}
use Rattle.line.specs.declared.reading.Reading.{Reading}
use Rattle.line.specs.declared.reading.Reading.TheVariants.{Version, Comment, TimeScale, Creator, CreationDate, EventLine, Refused}
use Rattle.line.specs.declared.reading.Split.{Split}
use Rattle.line.specs.declared.reading.NextRead.{NextRead}
use Rattle.line.specs.Event.{event_reading}
use Rattle.line.specs.Parameter.{parameter_reading}

-- "byte 10 or 13 inside"
unfoldable pub has_break : List ℕ → Bool
has_break [] = false
has_break (x ∷ l) = (eqb x 10 || eqb x 13) || has_break l

-- "Every other line, the empty one too, is an event line": any that does not start with `#`, byte 35
unfoldable pub is_event_line : List ℕ → Bool
is_event_line [] = true
is_event_line (x ∷ l) = not (eqb x 35)

-- "line without its end | 1,023 bytes"
abbrev pub line_most : ℕ
line_most = 1023

unfoldable pub read_line : List ℕ → Reading
read_line l = cond (ltb line_most (length l) || has_break l) (Refused 1) (cond (is_event_line l) (event_reading l) (parameter_reading l))

-- what a line is, and the places of its commas, whatever it is
abbrev pub split_line : List ℕ → Split
split_line l = record { reading = read_line l; commas = commas_of l }

-- the next line of a chunk from an index on, and what it is; where the first argument says so, what is left is one line as it stands
abbrev pub reading_of : List ℕ → ℕ → Option (ℕ × ℕ) → Option NextRead
reading_of s at (Some (end, start)) = Some (record { end = end; start = start; split = split_line (part_from s at end) })
reading_of s at None = None

unfoldable pub next_reading : Bool → List ℕ → ℕ → Option NextRead
next_reading whole s at = reading_of s at (line_from whole s at)

-- the number of document 01's table that a reading is
unfoldable pub answer_of : Reading → ℕ
answer_of Version = 0
answer_of Comment = 0
answer_of (TimeScale s) = 0
answer_of Creator = 0
answer_of CreationDate = 0
answer_of (EventLine e count) = 0
answer_of (Refused n) = n
