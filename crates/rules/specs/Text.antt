-- What is printed of a trace, by its lines alone: verdict and sheet, or the one line of a refused trace.
use Rattle.std.specs.Prelude.{cond, List, [], ◌++◌, ℕ, eqb}
use Rattle.bill.specs.Text.{sheet_text}
use Rattle.bill.specs.Verdict.{accepted_text, refused_text}
use Rattle.rules.specs.Sheet.{span, sheet}
use Rattle.rules.specs.Lines.{events_of}
use Rattle.rules.specs.Trace.{place_of, taken_lines, verdict_on}

-- by the lines taken and the verdict
abbrev pub text_by : List (List ℕ) → ℕ × ℕ → List ℕ
text_by h v =
    cond (eqb v.0 0) (accepted_text (place_of h).scale (span (events_of h)) ++ sheet_text (sheet (events_of h))) (refused_text v.0 v.1)

unfoldable pub trace_text : List (List ℕ) → List ℕ
trace_text ls = text_by (taken_lines [] ls) (verdict_on [] ls)
