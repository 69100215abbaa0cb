-- After lines from a fresh start the question gives the outcome of the list of lines alone. So it is for a whole trace in tables of the right sizes, whatever they held; in
-- others it is 15, and nothing is written. Where the output is too short the tables are those of the trace, and can be asked again.
use mathlib.Core.Path.{◌≡◌, refl, ap, ◌∙◌}
use mathlib.Core.Bool.{true, false}
use mathlib.Core.List.{List, [], ◌∷◌}
use Prim.Native.Nat.{ℕ, ◌≤◌, ◌<◌}
use lib.ListN.{length, drop}
use borrow.Author.Tests.{le-leb, lt-leb}
use Rattle.text.specs.Put.{written}
use Rattle.walk.specs.Lines.{lines_of}
use Rattle.bill.specs.declared.verdict.Verdict.{Verdict}
use Rattle.bill.specs.Text.{sheet_text}
use Rattle.rules.specs.Sheet.{span, sheet}
use Rattle.rules.specs.Lines.{events_of}
use Rattle.rules.specs.Trace.{place_of}
use Rattle.tables.specs.Sized.{is_sized}
use Rattle.tables.specs.Fresh.{cleared_of}
use Rattle.ranges.specs.Range.{table_answer}
use Rattle.ranges.proofs.Valid.{valid}
use Rattle.sheet.specs.Sheet.{sheet_most}
use Rattle.sheet.proofs.Short.{sheet_fits}
use Rattle.judge.specs.Feed.{Tables, After}
use Rattle.outcome.specs.AtEnd.{verdict, verdict_in}
use Rattle.outcome.specs.Outcome.{asked, refused_by, outcome_in, rest_fed, trace_fed, lines_outcome, begun, trace_outcome}
use Rattle.promises.specs.Sheets.{sheet_of}
use Rattle.promises.specs.Outcomes.{verdict_of, outcome_on}
use Rattle.promises.proofs.Verdicts.{Tells}
use Rattle.promises.proofs.Judged.{after_lines, never_16, lines_tell, trace_fed_lem}
use Rattle.promises.proofs.Refused.{line_untaken, chunk_untaken, outcome_untold}
use Rattle.promises.proofs.Demand3.{figures_right}

-- ---- verdict and sheet are those of one list

told_so : (v : Verdict) (n : ℕ × ℕ) (h : List (List ℕ)) → Tells v n h → v ≡ verdict n.0 n.1 (place_of h).scale (span (events_of h))
told_so v n h t = rw (← t.verdict, ← t.scale, ← t.span)

pub verdict_right : (ls : List (List ℕ)) → verdict_in (after_lines ls).nums (after_lines ls).ticks ≡ verdict_of ls
unfolding sheet
verdict_right ls = told_so _ _ _ (lines_tell ls)

pub one_outcome : (ls : List (List ℕ)) (out : List ℕ) → outcome_in (after_lines ls) out ≡ outcome_on ls out
unfolding outcome_in
one_outcome ls out = rw (never_16 ls, verdict_right ls, figures_right ls)

-- ---- by the room in the output

-- no sheet of lines is longer than `sheet_most`, so that an output of so many bytes always has room
pub lines_fit : (ls : List (List ℕ)) → length (sheet_text (sheet_of ls)) ≤ sheet_most
lines_fit ls = rw (← (figures_right ls)) (sheet_fits (valid _ _ _ (never_16 ls)))

module _ (ls : List (List ℕ)) (out : List ℕ) where
  abbrev text : List ℕ
  text = sheet_text (sheet_of ls)

  pub answered : length text ≤ length out → outcome_in (after_lines ls) out ≡ asked (record { verdict = verdict_of ls; length = length text }) (written out 0 text)
  answered h = one_outcome ls out ∙ rw (le-leb (length text) (length out) h)

  pub not_answered : length out < length text → outcome_in (after_lines ls) out ≡ asked (refused_by 15) out
  not_answered h = one_outcome ls out ∙ rw (lt-leb (length text) (length out) h)

-- ---- a whole trace

module _ (t : Tables) (trace : List ℕ) where
  abbrev fits : Type 0
  fits = is_sized (length t.names) (length t.nums) (length t.ticks) ≡ true

  pub trace_outcome_lem : fits → (out : List ℕ) →
      let u = after_lines (lines_of trace) in trace_outcome t trace out ≡ record { told = outcome_in u out; left = u }
  unfolding trace_outcome lines_outcome
  trace_outcome_lem f out = rw (trace_fed_lem t f trace)

  pub asked_again : fits → (short long : List ℕ) →
      let text = sheet_text (sheet_of (lines_of trace)) in
      length short < length text →
      (trace_outcome t trace short ≡ record { told = asked (refused_by 15) short; left = after_lines (lines_of trace) })
      × (outcome_in (trace_outcome t trace short).left long ≡ outcome_on (lines_of trace) long)
  asked_again f short long h =
      (trace_outcome_lem f short ∙ rw (not_answered (lines_of trace) short h), rw (trace_outcome_lem f short) (one_outcome (lines_of trace) long))

-- ---- tables of a wrong size: each call gives 15 and writes nothing

module _ (t : Tables) (f : is_sized (length t.names) (length t.nums) (length t.ticks) ≡ false) where
  own : table_answer t.names t.nums t.ticks ≡ 15
  unfolding table_answer
  own = rw f

  not_begun : begun t ≡ t
  unfolding begun cleared_of
  not_begun = rw f

  rest_untaken : (r : List ℕ) → rest_fed t r ≡ t
  rest_untaken [] = refl
  rest_untaken (x ∷ r) = ap (λ (y : After). y.left) (line_untaken t 14 own (x ∷ r))

  none_fed : (trace : List ℕ) → trace_fed (begun t) trace ≡ t
  unfolding trace_fed
  none_fed trace = rw (not_begun, chunk_untaken t 14 own trace) (rest_untaken (drop 0 trace))

  pub wrong_sizes : (trace out : List ℕ) → trace_outcome t trace out ≡ record { told = asked (refused_by 15) out; left = t }
  unfolding trace_outcome lines_outcome
  wrong_sizes trace out = rw (none_fed trace, outcome_untold t 14 own out)
