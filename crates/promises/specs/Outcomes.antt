-- The outcome of a list of lines, by the definitions of `rules` alone: the verdict on them and the sheet of those that were taken, of one list.
use Rattle.std.specs.Prelude.{List, [], ℕ}
use Rattle.bill.specs.declared.verdict.Verdict.{Verdict}
use Rattle.bill.specs.Text.{sheet_text}
use Rattle.rules.specs.Trace.{place_of, taken_lines, verdict_on}
use Rattle.outcome.specs.AtEnd.{verdict}
use Rattle.outcome.specs.Outcome.{Asked, filled}
use Rattle.promises.specs.Sheets.{sheet_of}

-- "the verdict if the trace ended now, with scale and span"
abbrev pub verdict_of : List (List ℕ) → Verdict
verdict_of ls = verdict (verdict_on [] ls).0 (verdict_on [] ls).1 (place_of (taken_lines [] ls)).scale (sheet_of ls).span

-- what the question gives after these lines, and leaves of an output
abbrev pub outcome_on : List (List ℕ) → List ℕ → Asked
outcome_on ls = filled (verdict_of ls) (sheet_text (sheet_of ls))
