-- How tight the contracts of the question are: no second answer, and wrong answers that they shut out, whatever else they do. Sheets with wrong figures, and one of another
-- state than the verdict's, are shut out in promises/proofs/TightSheet, over the tables of a trace.
use Rattle.std.proofs.Common.{◌≡◌, ℕ, eqb, List, [], replicate, refl, ap, ◌∙◌}
use Rattle.text.specs.Number.{digits_of}
use Rattle.text.proofs.Tight.{unique, ShutsOut, shut_out}
use Rattle.bill.specs.Text.{rows_text, section_text, sheet_text}
use Rattle.tables.specs.Sized.{is_sized}
use Rattle.ranges.specs.Range.{table_answer}
use Rattle.ranges.proofs.FreshTables.{fresh_answer}
use Rattle.sheet.specs.Sheet.{rows_to, rows_in, sheet_in}
use Rattle.judge.specs.Feed.{Tables, tables, fresh_tables}
use Rattle.outcome.specs.AtEnd.{verdict_in}
use Rattle.outcome.specs.Outcome.{Asked, asked, outcome_in, AfterTrace, trace_outcome}

-- ---- `outcome_now`

pub outcome_unique : (t : Tables) (out : List ℕ) (x y : Asked) → x ≡ outcome_in t out → y ≡ outcome_in t out → x ≡ y
outcome_unique t = unique (outcome_in t)

abbrev asks : Tables × List ℕ → Asked
asks (t, out) = outcome_in t out

-- the sheet of no lines has 20 bytes: `cores 0`, `processes 0` and their ends
abbrev blanks : ℕ → List ℕ
blanks n = replicate n 32

-- nothing taken is not all taken
pub outcome_not_of_nothing : (g : Tables × List ℕ → Asked) → (g (fresh_tables, blanks 20)).outcome.verdict.number ≡ 0 → ShutsOut asks g
unfolding outcome_in verdict_in sheet_in rows_in rows_to sheet_text section_text rows_text digits_of
outcome_not_of_nothing g h = shut_out (λ x. eqb x.outcome.verdict.number 2) (fresh_tables, blanks 20) (rw fresh_answer) (rw h)

-- tables are tested
pub outcome_not_untested :
    ShutsOut asks
    (λ (t, out). asked (record { verdict = verdict_in t.nums t.ticks; length = 0 }) out)
unfolding outcome_in verdict_in table_answer is_sized
outcome_not_untested = shut_out (λ x. eqb x.outcome.verdict.number 15) (tables [] [] [], []) refl refl

-- no part of a sheet that does not fit is written: whatever it answers, it leaves the output as it was
short_left : (outcome_in fresh_tables (blanks 19)).output ≡ blanks 19
unfolding outcome_in sheet_in rows_in rows_to sheet_text section_text rows_text digits_of
short_left = rw fresh_answer

pub outcome_not_begun : (g : Tables × List ℕ → Asked) → ((g (fresh_tables, blanks 19)).output ≡ blanks 19 → ⊥) → ShutsOut asks g
outcome_not_begun g h = record { input = (fresh_tables, blanks 19); breaks = λ e. h (ap (λ (x : Asked). x.output) e ∙ short_left) }

-- ---- `outcome_of`

pub trace_unique : (t : Tables) (s out : List ℕ) (x y : AfterTrace) → x ≡ trace_outcome t s out → y ≡ trace_outcome t s out → x ≡ y
trace_unique t s = unique (trace_outcome t s)
