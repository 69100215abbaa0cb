-- What printing leaves of an output: verdict and sheet at its front, or the one line of a refused trace.
use Rattle.std.specs.Prelude.{cond, List, ℕ, ◌+◌, leb, length, take, Err, Ok, Result}
use Rattle.text.specs.Put.{written}
use Rattle.bill.specs.Text.{sheet_text}
use Rattle.bill.specs.Verdict.{report_text}
use Rattle.rules.specs.Lists.{if_zero}
use Rattle.ranges.specs.Range.{table_answer}
use Rattle.sheet.specs.Sheet.{sheet_in, sheet_most}
use Rattle.outcome.specs.declared.now.Outcome.{Outcome}
use Rattle.outcome.specs.AtEnd.{verdict_in}

pub record Reported : Type 0 where
  pub answer : Result ℕ ℕ
  pub output : List ℕ

abbrev pub reported : Result ℕ ℕ → List ℕ → Reported
reported r out = record { answer = r; output = out }

-- the number of document 01's table that the answer is
unfoldable pub printed_answer : Result ℕ ℕ → ℕ
printed_answer (Ok n) = 0
printed_answer (Err n) = n

-- a text at the front of a lent output, the rest unchanged; one too short is 15, and nothing is written
unfoldable pub text_printed : List ℕ → List ℕ → Reported
text_printed text out = cond (leb (length text) (length out)) (reported (Ok (length text)) (written out 0 text)) (reported (Err 15) out)

-- the text of an outcome, whose sheet stands at the front of some bytes
unfoldable pub outcome_printed : Outcome → List ℕ → List ℕ → Reported
outcome_printed o sheet = text_printed (report_text o.verdict (take o.length sheet))

-- the text of the tables' own outcome; refused, nothing is written
unfoldable pub report_written : List ℕ → List ℕ → List ℕ → List ℕ → Reported
report_written names nums ticks out =
    if_zero (table_answer names nums ticks) (text_printed (report_text (verdict_in nums ticks) (sheet_text (sheet_in names nums ticks))) out)
    (reported (Err (table_answer names nums ticks)) out)

-- no tables in range have a longer text: the longest sheet, and a verdict's line of at most 55 bytes
abbrev pub text_most : ℕ
text_most = sheet_most + 55
