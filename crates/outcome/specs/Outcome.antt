-- The one question, over tables as they are and over a whole trace: what it answers, and what it leaves.
use Rattle.std.specs.Prelude.{ℕ, cond, List, [], ◌∷◌, length, drop, nat_le}
use Rattle.text.specs.Put.{written}
use Rattle.bill.specs.declared.verdict.Verdict.{Verdict}
use Rattle.bill.specs.Text.{sheet_text}
use Rattle.rules.specs.Lists.{if_zero}
use Rattle.tables.specs.Fresh.{cleared_of}
use Rattle.ranges.specs.Range.{table_answer}
use Rattle.sheet.specs.Sheet.{sheet_in}
use Rattle.judge.specs.Feed.{Tables, tables, fed_line, fed_chunk}
use Rattle.outcome.specs.declared.now.Outcome.{Outcome}
use Rattle.outcome.specs.AtEnd.{verdict, verdict_in}

-- ---- the tables as they are

-- an outcome with the output afterwards; the tables are not changed
pub record Asked : Type 0 where
  pub outcome : Outcome
  pub output : List ℕ

abbrev pub asked : Outcome → List ℕ → Asked
asked o out = record { outcome = o; output = out }

-- a refusal of what was lent takes the verdict's place
abbrev pub refused_by : ℕ → Outcome
refused_by n = record { verdict = verdict n 0 0 0; length = 0 }

-- a verdict, and the text of a sheet "at the front of a lent output, the rest unchanged"; "If the sheet doesn't fit, 15 and nothing is written"
abbrev pub filled : Verdict → List ℕ → List ℕ → Asked
filled v text out = cond (nat_le (length text) (length out)) (asked (record { verdict = v; length = length text }) (written out 0 text)) (asked (refused_by 15) out)

-- 02, No. 8: "one question that returns the verdict and fills the sheet from the same state". 01: "one too short is 15, tested after 16". The sheet is "of the
-- lines taken", so a refused trace has one too.
unfoldable pub outcome_in : Tables → List ℕ → Asked
outcome_in t out =
    if_zero (table_answer t.names t.nums t.ticks) (filled (verdict_in t.nums t.ticks) (sheet_text (sheet_in t.names t.nums t.ticks)) out)
    (asked (refused_by (table_answer t.names t.nums t.ticks)) out)

-- ---- a whole trace: a fresh start, every line, and the question

-- "The last line may lack its end": what stands after the whole lines is one
abbrev pub rest_fed : Tables → List ℕ → Tables
rest_fed t [] = t
rest_fed t (b ∷ bs) = (fed_line t (b ∷ bs)).left

unfoldable pub trace_fed : Tables → List ℕ → Tables
trace_fed t trace = let c = fed_chunk t trace in rest_fed c.left (drop c.fed.used trace)

-- what was asked after them, and the tables
pub record AfterTrace : Type 0 where
  pub told : Asked
  pub left : Tables

abbrev pub traced : Outcome → List ℕ → List ℕ → List ℕ → List ℕ → AfterTrace
traced o out names nums ticks = record { told = asked o out; left = tables names nums ticks }

unfoldable pub lines_outcome : Tables → List ℕ → List ℕ → AfterTrace
lines_outcome t trace out = let u = trace_fed t trace in record { told = outcome_in u out; left = u }

unfoldable pub begun : Tables → Tables
begun t = let c = cleared_of t.names t.nums t.ticks in tables c.names c.nums c.ticks

unfoldable pub trace_outcome : Tables → List ℕ → List ℕ → AfterTrace
trace_outcome t = lines_outcome (begun t)
