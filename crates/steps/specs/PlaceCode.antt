-- For the code alone: how it decides 1 to 7 of a line in its place, from the line's reading. What is to be believed is `answer_in_place` (rules/specs/Trace), and the
-- theorem `by_reading_right` (proofs/ByReading) says that the two are the same for any bytes in any place.
use Rattle.std.specs.Prelude.{Bool, not, ◌||◌, cond, ℕ, eqb, leb}
use Rattle.line.specs.declared.reading.Reading.{Reading}
use Rattle.line.specs.declared.reading.Reading.TheVariants.{Version, Comment, TimeScale, Creator, CreationDate, EventLine, Refused}
use Rattle.rules.specs.declared.place.Place.{Place}
use Rattle.rules.specs.Limits.{line_limit}

abbrev pub repeated_or_late : Bool → Bool → ℕ
repeated_or_late seen late = cond (seen || late) 3 0

abbrev pub needs_scale : ℕ → ℕ → ℕ
needs_scale scale n = cond (eqb scale 0) 4 n

abbrev pub read_answer : Place → Reading → ℕ
read_answer p Version = 2
read_answer p Comment = 0
read_answer p (TimeScale s) = repeated_or_late (not (eqb p.scale 0)) p.started
read_answer p Creator = repeated_or_late p.creator p.started
read_answer p CreationDate = repeated_or_late p.date p.started
read_answer p (EventLine e count) = needs_scale p.scale 0
read_answer p (Refused n) = cond (leb n 3) n (needs_scale p.scale n)

abbrev pub first_answer : Reading → ℕ
first_answer Version = 0
first_answer Comment = 2
first_answer (TimeScale s) = 2
first_answer Creator = 2
first_answer CreationDate = 2
first_answer (EventLine e count) = 2
first_answer (Refused n) = cond (eqb n 1) 1 2

unfoldable pub answer_by_reading : Place → Reading → ℕ
answer_by_reading p r = cond (leb line_limit p.lines) 1 (cond (eqb p.lines 0) (first_answer r) (read_answer p r))
