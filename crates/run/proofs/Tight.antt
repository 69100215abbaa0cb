-- How tight the contracts of reading and printing are: no second answer, and a wrong answer that they shut out.
use Rattle.std.proofs.Common.{Result}
use mathlib.Core.Path.{◌≡◌, refl, ap}
use mathlib.Core.List.{List, []}
use Prim.Native.Nat.{ℕ}
use lib.Dec.{eqb}
use lib.ListN.{take, get_or, replicate}
use Rattle.text.specs.Literal.{bytes}
use Rattle.text.specs.Pieces.{pieces}
use Rattle.text.specs.Number.{digits_of}
use Rattle.text.specs.Put.{written}
use Rattle.text.specs.declared.refusal.Refusal.{Refusal}
use Rattle.text.specs.Refusal.{numbered}
use Rattle.text.proofs.Refusals.{numbered_same}
use Rattle.text.proofs.Tight.{unique, ShutsOut, shut_out}
use Rattle.words.specs.Scale.{scale_word}
use Rattle.fields.specs.Part.{parts_of}
use Rattle.line.specs.Event.{event_reading}
use Rattle.line.specs.Reading.{has_break, is_event_line, read_line}
use Rattle.bill.specs.Scale.{scale_text}
use Rattle.bill.specs.Verdict.{accepted_text, verdict_text, report_text}
use Rattle.steps.specs.PlaceCode.{answer_by_reading}
use Rattle.tables.specs.Entry.{verdict_number}
use Rattle.ranges.proofs.FreshTables.{fresh_answer}
use Rattle.judge.specs.Feed.{Tables, place_in, remembered, judged_in_place, judged_line, fed_line, fresh_tables}
use Rattle.outcome.specs.declared.now.Outcome.{Outcome}
use Rattle.outcome.specs.AtEnd.{verdict}
use Rattle.run.specs.Chunk.{Turned, chunk_taken, last_taken}
use Rattle.run.specs.Report.{Reported, reported, text_printed, outcome_printed, report_written}

-- ---- `take_chunk`

pub turn_unique : (t : Tables) (buf : List ℕ) (n : ℕ) (x y : Turned) → x ≡ chunk_taken t buf n → y ≡ chunk_taken t buf n → x ≡ y
turn_unique t buf = unique (chunk_taken t buf)

-- ---- `take_last`

pub last_unique : (t : Tables) (buf : List ℕ) (n : ℕ) (x y : Tables) → x ≡ last_taken t buf n → y ≡ last_taken t buf n → x ≡ y
last_unique t buf = unique (last_taken t buf)

-- nothing carried over is no line
pub last_not_empty : ShutsOut {A = Tables × List ℕ × ℕ} (λ (t, buf, n). last_taken t buf n) (λ (t, buf, n). (fed_line t (take n buf)).left)
unfolding last_taken fed_line judged_line judged_in_place place_in answer_by_reading read_line has_break is_event_line event_reading parts_of pieces remembered
last_not_empty = shut_out (λ t. eqb (verdict_number t.nums) 0) (fresh_tables, [], 0) refl (rw fresh_answer)

-- ---- `put_outcome`

-- what is the same of the code's own answers, since no two refusals have one number
told_once : (r s : Result ℕ Refusal) (m n : List ℕ) → reported (numbered r) m ≡ reported (numbered s) n → (r ≡ s) × (m ≡ n)
told_once r s m n e = (numbered_same r s (ap (λ (x : Reported). x.answer) e), ap (λ (x : Reported). x.output) e)

pub printed_unique : (o : Outcome) (sheet out : List ℕ) (x y : Reported) → x ≡ outcome_printed o sheet out → y ≡ outcome_printed o sheet out → x ≡ y
printed_unique o sheet = unique (outcome_printed o sheet)

pub printed_once : (o : Outcome) (sheet out : List ℕ) (r s : Result ℕ Refusal) (m n : List ℕ) → reported (numbered r) m ≡ outcome_printed o sheet out → reported (numbered s) n ≡ outcome_printed o sheet out → (r ≡ s) × (m ≡ n)
printed_once o sheet out r s m n p q = told_once r s m n (printed_unique o sheet out (reported (numbered r) m) (reported (numbered s) n) p q)

-- of the bytes that are lent as many are printed as the outcome says: here none behind the verdict's line, which has 33
pub printed_not_all :
    ShutsOut {A = Outcome × List ℕ × List ℕ} (λ (o, sheet, out). outcome_printed o sheet out) (λ (o, sheet, out). text_printed (report_text o.verdict sheet) out)
unfolding outcome_printed text_printed report_text verdict_text accepted_text scale_text scale_word digits_of written
printed_not_all =
    shut_out (λ x. eqb (get_or x.output 33 0) 32) (record { verdict = verdict 0 0 1 0; length = 0 }, bytes "a", replicate 34 32) refl refl

-- ---- `report`

pub report_unique : (names nums ticks out : List ℕ) (x y : Reported) → x ≡ report_written names nums ticks out → y ≡ report_written names nums ticks out → x ≡ y
report_unique names nums ticks = unique (report_written names nums ticks)

pub report_once : (names nums ticks out : List ℕ) (r s : Result ℕ Refusal) (m n : List ℕ) → reported (numbered r) m ≡ report_written names nums ticks out → reported (numbered s) n ≡ report_written names nums ticks out → (r ≡ s) × (m ≡ n)
report_once names nums ticks out r s m n p q = told_once r s m n (report_unique names nums ticks out (reported (numbered r) m) (reported (numbered s) n) p q)
